-- The answers of a reader of notes: the note, or the first refusal that applies, in the order of
-- the faults. The bytes determine the answer, unless it is OutOfMemory. Only contracts of private
-- functions cite `ReadsBase64`.
use Rattle.std.specs.Prelude.{◌≡◌, ◌≢◌, ℕ, ◌+◌, ◌-◌, ◌<◌, ◌≤◌, ◌==◌, if◌then◌else◌, List, []}
use Rattle.std.specs.Prelude.{length, slice_index, All, Result, Ok, Err, count_by, ⊤}
use Rattle.std.specs.List.{flat_map}
use Rattle.base64.specs.GeneralPurpose.{IsBytes}
use Rattle.tlog_text.specs.Hash.{base64_of}
use Rattle.signed_note.specs.Names.{newline, IsNoteText}
use Rattle.signed_note.specs.Notes.{SignatureParts, NoteParts, line_text, line_body}
use Rattle.signed_note.specs.Notes.{IsSignatureLine}
use Rattle.signed_note.specs.Notes.{IsNoteSplit, IsNote}
use Rattle.signed_note.specs.declared.limits.TheConstants.{MAX_LINES, MAX_NOTE_LEN}
use Rattle.signed_note.specs.declared.fault.NoteFault.{NoteFault}
use Rattle.signed_note.specs.declared.fault.NoteFault.TheVariants as note

-- the number of lines of a signature part; a last line without its newline counts
abbrev pub line_count : List ℕ → ℕ
line_count signed =
    count_by (λ b. b == newline) signed
    + (if length signed == 0 then 0
    else if slice_index signed (length signed - 1) == newline then 0 else 1)

-- the part is signature lines, each well formed and with its newline
pub record AreSignatureLines (signed : List ℕ) (lines : List SignatureParts) : Type 0 where
  pub whole : signed ≡ flat_map line_text lines
  pub well_formed : All IsSignatureLine lines

-- when a reader of base64 may return each answer
abbrev pub ReadsBase64 : List ℕ → Result (List ℕ) NoteFault → Type 0
ReadsBase64 text (Ok bytes) = IsBytes bytes × (text ≡ base64_of bytes)
ReadsBase64 text (Err note.BadSignatureLine) =
    (bytes : List ℕ) → IsBytes bytes → text ≢ base64_of bytes
ReadsBase64 text (Err note.OutOfMemory) = ⊤
ReadsBase64 text (Err note.NoteTooLong) = ⊥
ReadsBase64 text (Err note.NotText) = ⊥
ReadsBase64 text (Err note.NoSignatures) = ⊥
ReadsBase64 text (Err note.TooManySignatures) = ⊥

-- when a reader of one signature line, without its newline, may return each answer
abbrev pub ReadsLine : List ℕ → Result SignatureParts NoteFault → Type 0
ReadsLine text (Ok line) = IsSignatureLine line × (text ≡ line_body line)
ReadsLine text (Err note.BadSignatureLine) =
    (line : SignatureParts) → IsSignatureLine line → text ≢ line_body line
ReadsLine text (Err note.OutOfMemory) = ⊤
ReadsLine text (Err note.NoteTooLong) = ⊥
ReadsLine text (Err note.NotText) = ⊥
ReadsLine text (Err note.NoSignatures) = ⊥
ReadsLine text (Err note.TooManySignatures) = ⊥

-- when a reader of signature parts may return each answer
abbrev pub ReadsSignatureLines : List ℕ → Result (List SignatureParts) NoteFault → Type 0
ReadsSignatureLines signed (Ok lines) = AreSignatureLines signed lines
ReadsSignatureLines signed (Err note.BadSignatureLine) =
    (lines : List SignatureParts) → ¬ AreSignatureLines signed lines
ReadsSignatureLines signed (Err note.OutOfMemory) = ⊤
ReadsSignatureLines signed (Err note.NoteTooLong) = ⊥
ReadsSignatureLines signed (Err note.NotText) = ⊥
ReadsSignatureLines signed (Err note.NoSignatures) = ⊥
ReadsSignatureLines signed (Err note.TooManySignatures) = ⊥

-- the bytes are not too long, are UTF-8, and have no character below U+0020 except newlines
pub record IsReadable (bytes : List ℕ) : Type 0 where
  pub short : length bytes ≤ MAX_NOTE_LEN
  pub readable : IsNoteText bytes

-- the bytes are readable, and split into a text and a signature part that is not empty
pub record HasPart (bytes text signed : List ℕ) : Type 0 where
  pub readable : IsReadable bytes
  pub split : IsNoteSplit bytes text signed
  pub some : signed ≢ []

-- when a reader of notes may return each answer. Ok: the bytes are a note with that text and those
-- lines. A fault: it applies to the bytes, and no earlier one does; bytes without a blank line have
-- NoSignatures
abbrev pub ReadsNote : List ℕ → Result NoteParts NoteFault → Type 0
ReadsNote bytes (Ok parts) = (parts.bytes ≡ bytes) × IsNote bytes parts.text parts.lines
ReadsNote bytes (Err note.NoteTooLong) = MAX_NOTE_LEN < length bytes
ReadsNote bytes (Err note.NotText) = (length bytes ≤ MAX_NOTE_LEN) × (¬ IsNoteText bytes)
ReadsNote bytes (Err note.NoSignatures) =
    IsReadable bytes × ((text signed : List ℕ) → IsNoteSplit bytes text signed → signed ≡ [])
ReadsNote bytes (Err note.TooManySignatures) =
    (text : List ℕ) × (signed : List ℕ) × HasPart bytes text signed
    × (MAX_LINES < line_count signed)
ReadsNote bytes (Err note.BadSignatureLine) =
    (text : List ℕ) × (signed : List ℕ) × HasPart bytes text signed
    × (line_count signed ≤ MAX_LINES)
    × ((lines : List SignatureParts) → ¬ AreSignatureLines signed lines)
ReadsNote bytes (Err note.OutOfMemory) = ⊤
