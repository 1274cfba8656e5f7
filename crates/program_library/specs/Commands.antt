-- The list of the groups of commands. The crate of each group lists its commands.
use Rattle.std.specs.Prelude.{◌≡◌, ℕ, List, Result, Ok, Err, ⊤}
use Rattle.signed_note.specs.Keys.{Key}
use Rattle.program_words.specs.declared.commands.Command.{Command as Order}
use Rattle.program_words.specs.declared.commands.Command.TheVariants as order
use Rattle.program_io.specs.Moment.{Moment}
use Rattle.program_io.specs.Places.{World}
use Rattle.state_commands.specs.Commands.{ExecutesState, IsStateDoable}
use Rattle.copy_commands.specs.StateCommands.{ExecutesReport, IsReportDoable}
use Rattle.copy_commands.specs.Commands.{ExecutesCopy}
use Rattle.copy_commands.specs.PlaceCommands.{ExecutesPlace}
use Rattle.state_commands.specs.Faults.{IsLate as IsStateLate}
use Rattle.copy_commands.specs.Faults.{IsLate as IsReportLate}
use Rattle.copy_commands.specs.PlaceFaults.{IsLate as IsPlaceLate}
use Rattle.program_library.specs.declared.fault.RunFault.{RunFault}
use Rattle.program_library.specs.declared.fault.RunFault.TheVariants.{Place, Report, State}

-- after these faults text may have been written: each crate of commands says which of its own
abbrev pub IsWriteFault : RunFault → Type 0
IsWriteFault (State fault) = IsStateLate fault
IsWriteFault (Report fault) = IsReportLate fault
IsWriteFault (Place fault) = IsPlaceLate fault
IsWriteFault other = ⊥

-- the words of the command also guarantee that the numbers are in their ranges, and that an item has a file
abbrev pub IsDoable : Order → Type 0
IsDoable (order.State c) = IsStateDoable c
IsDoable (order.Report c) = IsReportDoable c
IsDoable other = ⊤

-- the answer of a command of one group, as that of a run, whose fault names that of the command
abbrev pub By : {F : Type 0} → (F → RunFault) → (Result ℕ F → Type 0) → Result ℕ RunFault → Type 0
By {F} name Does (Ok status) = Does (Ok status)
By {F} name Does (Err fault) = (was : F) × (fault ≡ name was) × Does (Err was)

-- the meaning of each answer of a command for the input, the named files, folders and places, if these record, and for the output
module _ (world : World) (digest : List ℕ → List ℕ) (keys : List Key) (key_bytes : List ℕ) (old new : Moment) where
  abbrev pub Executes : Order → Result ℕ RunFault → Type 0
  Executes (order.State c) = By State (ExecutesState key_bytes digest keys old new c)
  Executes (order.Report c) = By Report (ExecutesReport digest keys old new c)
  Executes (order.Copy c) = By Report (ExecutesCopy digest keys old new c)
  Executes (order.Place c) = By Place (ExecutesPlace world digest keys old new c)
