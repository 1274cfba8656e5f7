-- The list of the commands: what each does, and what it leaves.
use Rattle.std.specs.Prelude.{◌≤◌, ℕ, List, length, Result, ⊤}
use Rattle.signed_note.specs.Keys.{Key}
use Rattle.program_words.specs.declared.commands.StateCommand.{StateCommand}
use Rattle.program_words.specs.declared.commands.StateCommand.TheVariants as command
use Rattle.program_io.specs.Moment.{Moment}
use Rattle.program_io.specs.Performing.{KeepsFiles, KeepsFolders, Performs}
use Rattle.state_commands.specs.Builds.{DoesBuild}
use Rattle.state_commands.specs.Export.{DoesExport, DoesUpdate}
use Rattle.state_commands.specs.Merge.{DoesMerge}
use Rattle.state_commands.specs.Notes.{DoesNotes}
use Rattle.state_commands.specs.Pulls.{DoesPull}
use Rattle.state_commands.specs.Take.{DoesTake}
use Rattle.state_commands.specs.Faults.{IsLate}
use Rattle.state_commands.specs.declared.fault.StateRunFault.{StateRunFault}

-- the words of the command also guarantee that the numbers are in their ranges, and that an item has a file
abbrev pub IsStateDoable : StateCommand → Type 0
IsStateDoable (command.Take c) = (1 ≤ c.width) × (c.width ≤ 256) × (1 ≤ length c.files.items)
IsStateDoable other = ⊤

module _ (key_bytes : List ℕ) (digest : List ℕ → List ℕ) (keys : List Key) (old new : Moment) where
  abbrev pub ExecutesState : StateCommand → Result ℕ StateRunFault → Type 0
  ExecutesState (command.Build c) = Performs (DoesBuild key_bytes) IsLate KeepsFiles digest keys old new c
  ExecutesState (command.Take c) = Performs DoesTake IsLate KeepsFolders digest keys old new c
  ExecutesState (command.Merge c) = Performs DoesMerge IsLate KeepsFolders digest keys old new c
  ExecutesState (command.Pull c) = Performs DoesPull IsLate KeepsFolders digest keys old new c
  ExecutesState (command.Export c) = Performs DoesExport IsLate KeepsFiles digest keys old new c
  ExecutesState (command.Update c) = Performs DoesUpdate IsLate KeepsFiles digest keys old new c
  ExecutesState (command.Notes c) = Performs DoesNotes IsLate KeepsFolders digest keys old new c
