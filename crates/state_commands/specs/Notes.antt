-- The command `notes`: the meaning of each answer for the state file and the files of the folder.
use Rattle.std.specs.Prelude.{◌≡◌, ℕ, List, Result, Ok, Err}
use Rattle.std.specs.Io.KnownBytes.{Keeps}
use Rattle.signed_note.specs.Keys.{Key}
use Rattle.program_io.specs.Performing.{done, failed}
use Rattle.state_commands.specs.NoteTexts.{WritesNotes}
use Rattle.state_commands.specs.declared.work_fault.NotesFault.{NotesFault}
use Rattle.program_words.specs.declared.commands.notes.Notes.{Notes as NotesWords}
use Rattle.program_io.specs.Moment.{Moment}
use Rattle.state_commands.specs.declared.fault.StateRunFault.{StateRunFault}
use Rattle.state_commands.specs.declared.fault.StateRunFault.TheVariants.{Notes}

module _ (digest : List ℕ → List ℕ) (keys : List Key) (old new : Moment) where
  -- the meaning of an answer of `notes` for the state file and the files of the folder
  abbrev pub WritesInto : NotesWords → Result (Unit {0}) NotesFault → Type 0
  WritesInto c answer =
      WritesNotes digest c.mirror.log.origin.now keys old.files c.mirror.state.now c.folder.now
      new.files answer

  abbrev pub DoesNotes : NotesWords → Result ℕ StateRunFault → Type 0
  DoesNotes c (Ok status) = WritesInto c done × Keeps old.output new.output × (status ≡ 0)
  DoesNotes c (Err (Notes fault)) = WritesInto c (failed fault) × Keeps old.output new.output
  DoesNotes c (Err other) = ⊥
