-- The list of the commands: what each does, and what it leaves.
use Rattle.std.specs.Prelude.{ℕ, List, Result}
use Rattle.signed_note.specs.Keys.{Key}
use Rattle.program_words.specs.declared.commands.CopyCommand.{CopyCommand}
use Rattle.program_words.specs.declared.commands.CopyCommand.TheVariants as command
use Rattle.program_io.specs.Moment.{Moment}
use Rattle.program_io.specs.Performing.{KeepsFiles, Performs}
use Rattle.copy_commands.specs.Asks.{DoesCopyCompare, DoesCopyProve, DoesCopyStatus}
use Rattle.copy_commands.specs.Entries.{DoesCopyEntries}
use Rattle.copy_commands.specs.Serve.{DoesCopyServe}
use Rattle.copy_commands.specs.Faults.{IsLate}
use Rattle.copy_commands.specs.declared.fault.ReportRunFault.{ReportRunFault}

module _ (digest : List ℕ → List ℕ) (keys : List Key) (old new : Moment) where
  abbrev pub ExecutesCopy : CopyCommand → Result ℕ ReportRunFault → Type 0
  ExecutesCopy (command.Status c) = Performs DoesCopyStatus IsLate KeepsFiles digest keys old new c
  ExecutesCopy (command.Compare c) = Performs DoesCopyCompare IsLate KeepsFiles digest keys old new c
  ExecutesCopy (command.Prove c) = Performs DoesCopyProve IsLate KeepsFiles digest keys old new c
  ExecutesCopy (command.Entries c) = Performs DoesCopyEntries IsLate KeepsFiles digest keys old new c
  ExecutesCopy (command.Serve c) = Performs DoesCopyServe IsLate KeepsFiles digest keys old new c
