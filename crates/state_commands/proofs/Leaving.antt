-- The files after a command, from what it made.
use Rattle.std.proofs.Common.{ℕ, List, Option, Result, Ok, Err}
use Rattle.mirror_sources.specs.Recorded.{KeepsRecord}
use Rattle.signed_note.specs.Keys.{Key}
use Rattle.mirror_model.specs.View.{View}
use Rattle.program_io.specs.Named.{NamedFile}
use Rattle.state_commands.specs.Takes.{LeavesTaken, MakesTaken, TakesHeld}
use Rattle.program_io.specs.declared.file_fault.NamedFault.{NamedFault}
use Rattle.program_io.specs.States.{BeginsWith, OpensFile}
use Rattle.state_commands.specs.NoteFiles.{HasHeads, HeadNote, files_of}
use Rattle.state_commands.specs.NoteTexts.{PutsHeads, PutsNotes, Reorders, WritesNotes, WritesThese, notes_put, notes_stopped}
use Rattle.state_commands.specs.declared.work_fault.NotesFault.{NotesFault}
use Rattle.state_commands.specs.declared.work_fault.NotesFault.TheVariants as notes
use Rattle.state_commands.specs.declared.item.ItemFiles.{ItemFiles}
use Rattle.state_commands.specs.declared.work_fault.TakeFilesFault.{TakeFilesFault}
use Rattle.state_commands.specs.declared.work_fault.TakeFilesFault.TheVariants as taking
use Rattle.state_commands.specs.declared.work_fault.MergeFilesFault.TheVariants as merging

-- In these lemmas the type of a failed answer is `Unit`: a fault says the same for each type.

module _ (digest : List ℕ → List ℕ) (origin : List ℕ) (keys : List Key) (recorded new : Option (List NamedFile)) where
  -- nothing was taken and nothing was written
  pub left_untaken :
      (state : Option (List ℕ)) (files : ItemFiles) (out : List ℕ) (fault : TakeFilesFault) →
      MakesTaken digest origin keys recorded state files (Err fault) → KeepsRecord recorded new →
      LeavesTaken digest origin keys recorded state files {T = Unit {0}} out new (Err fault)
  left_untaken state files out (taking.State fault) h kept = (h, kept)
  left_untaken state files out (taking.Item fault) h kept = (h, kept)
  left_untaken state files out (taking.Take fault) h kept = (h, kept)
  left_untaken state files out (taking.Out fault) h kept = absurd h

module _ (digest : List ℕ → List ℕ) (origin : List ℕ) (keys : List Key) (recorded : Option (List NamedFile))
    (state : Option (List ℕ)) (files : ItemFiles) where
  -- there was a mirror, but it did not take the item
  pub begun_untaken :
      (before after : View) (fault : TakeFilesFault) → BeginsWith digest origin keys recorded state (Ok before) →
      TakesHeld digest keys recorded {T = Unit {0}} before files after (Err fault) →
      MakesTaken digest origin keys recorded state files (Err fault)
  begun_untaken before after (taking.State fault) begun h = absurd h
  begun_untaken before after (taking.Item fault) begun h = ((before, begun), h)
  begun_untaken before after (taking.Take fault) begun h = (after, record { before = before; begun = begun; taken = h })
  begun_untaken before after (taking.Out fault) begun h = absurd h

module _ (digest : List ℕ → List ℕ) (origin : List ℕ) (keys : List Key) (recorded new : Option (List NamedFile))
    (state folder : List ℕ) (view : View) (listed heads : List HeadNote)
    (opened : OpensFile digest origin keys recorded state (Ok view)) (has : HasHeads view listed)
    (order : Reorders recorded folder listed heads) where
  abbrev Written : Result (Unit {0}) NamedFault → Type 0
  Written answer = WritesThese digest origin keys recorded state folder new answer

  written : (answer : Result (Unit {0}) NamedFault) → PutsNotes folder (files_of heads) recorded new answer → Written answer
  written answer puts =
      record { view = view; listed = listed; heads = heads; opened = opened; has = has; order = order; puts = puts }

  -- the notes of an open mirror were put in this order
  pub written_heads : (r : Result (Unit {0}) NotesFault) → PutsHeads folder heads recorded new r →
      WritesNotes digest origin keys recorded state folder new r
  written_heads (Ok x) h = written notes_put h
  written_heads (Err (notes.State fault)) h = absurd h
  written_heads (Err notes.OutOfMemory) h = ((view, opened), h)
  written_heads (Err (notes.Folder fault)) h = absurd h
  written_heads (Err (notes.Note fault)) h = written (notes_stopped fault) h
  written_heads (Err (notes.Flush fault)) h = (written notes_put h.0, h.1)
