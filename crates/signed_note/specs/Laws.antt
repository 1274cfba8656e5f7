-- Laws of the definitions.
use Rattle.std.specs.Prelude.{◌≡◌, ℕ, List}
use Rattle.tlog_text.specs.Answers.{HasOneAnswer}
use Rattle.signed_note.specs.Notes.{SignatureParts, IsNote}
use Rattle.signed_note.specs.Reading.{ReadsNote}
use Rattle.signed_note.specs.declared.limits.TheConstants.{MAX_NOTE_LEN, MAX_LINES}
use Rattle.signed_note.specs.declared.fault.NoteFault.TheVariants as note

-- bytes are a note with at most one text and one list of lines
abbrev pub NoteHasOneReading : Type 0
NoteHasOneReading =
    (bytes text other : List ℕ) (lines others : List SignatureParts) →
    IsNote bytes text lines → IsNote bytes other others → (text ≡ other) × (lines ≡ others)

-- reading bytes as a note has one answer, apart from OutOfMemory
abbrev pub OneNoteAnswer : Type 0
OneNoteAnswer = HasOneAnswer note.OutOfMemory ReadsNote

-- the limits of this crate: the length of a note in bytes, and the number of signature lines
pub record HasNoteLimits : Type 0 where
  pub note : MAX_NOTE_LEN ≡ 1000000
  pub lines : MAX_LINES ≡ 100
