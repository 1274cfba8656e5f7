-- The list of the commands: what each does, and what it leaves.
use Rattle.std.specs.Prelude.{◌≤◌, ℕ, List, Result, ⊤}
use Rattle.signed_note.specs.Keys.{Key}
use Rattle.program_words.specs.declared.commands.ReportCommand.{ReportCommand}
use Rattle.program_words.specs.declared.commands.ReportCommand.TheVariants as command
use Rattle.program_io.specs.Moment.{Moment}
use Rattle.program_io.specs.Performing.{Performs, Stays}
use Rattle.copy_commands.specs.StateAsks.{DoesForks, DoesMissing, DoesProve, DoesStatus}
use Rattle.copy_commands.specs.Compare.{DoesCompare}
use Rattle.copy_commands.specs.StateEntries.{DoesEntries}
use Rattle.copy_commands.specs.StateServe.{DoesServe}
use Rattle.copy_commands.specs.Streams.{DoesCheck, DoesRoot}
use Rattle.copy_commands.specs.Faults.{IsLate}
use Rattle.copy_commands.specs.declared.fault.ReportRunFault.{ReportRunFault}

-- the words of the command also guarantee that the number is in its range
abbrev pub IsReportDoable : ReportCommand → Type 0
IsReportDoable (command.Root c) = c.width ≤ 256
IsReportDoable other = ⊤

module _ (digest : List ℕ → List ℕ) (keys : List Key) (old new : Moment) where
  abbrev pub ExecutesReport : ReportCommand → Result ℕ ReportRunFault → Type 0
  ExecutesReport (command.Root c) = Performs DoesRoot IsLate Stays digest keys old new c
  ExecutesReport command.Check = Performs DoesCheck IsLate Stays digest keys old new tt
  ExecutesReport (command.Status c) = Performs DoesStatus IsLate Stays digest keys old new c
  ExecutesReport (command.Missing c) = Performs DoesMissing IsLate Stays digest keys old new c
  ExecutesReport (command.Forks c) = Performs DoesForks IsLate Stays digest keys old new c
  ExecutesReport (command.Compare c) = Performs DoesCompare IsLate Stays digest keys old new c
  ExecutesReport (command.Prove c) = Performs DoesProve IsLate Stays digest keys old new c
  ExecutesReport (command.Entries c) = Performs DoesEntries IsLate Stays digest keys old new c
  ExecutesReport (command.Serve c) = Performs DoesServe IsLate Stays digest keys old new c
