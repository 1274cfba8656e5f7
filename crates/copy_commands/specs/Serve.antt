-- The command `serve` of a copy: the meaning of each answer for the line of its port.
use Rattle.std.specs.Prelude.{◌≡◌, ℕ, List, Result, Ok, Err}
use Rattle.signed_note.specs.Keys.{Key}
use Rattle.program_words.specs.declared.commands.serve.CopyServe.{CopyServe as CopyServeWords}
use Rattle.copy_reader.specs.Copies.{LeavesPuts}
use Rattle.program_io.specs.Moment.{Moment}
use Rattle.program_io.specs.Origins.{RefusesOrigin}
use Rattle.program_io.specs.Performing.{DoesNothing, done, failed}
use Rattle.program_io.specs.Ports.{PrintsPort}
use Rattle.program_io.specs.declared.port.ListenFault.{ListenFault}
use Rattle.copy_commands.specs.declared.fault.ReportRunFault.{ReportRunFault}
use Rattle.copy_commands.specs.declared.fault.ReportRunFault.TheVariants.{Listen, Origin}

module _ (old new : Moment) where
  -- the line of the port was written, as the answer says, and nothing was put
  abbrev pub ServesCopy : CopyServeWords → Result (Unit {0}) ListenFault → Type 0
  ServesCopy c answer =
      PrintsPort c.port old.output new.output answer × LeavesPuts (old.held c.copy.folder.now) old.puts new.puts

module _ (digest : List ℕ → List ℕ) (keys : List Key) (old new : Moment) where
  abbrev pub DoesCopyServe : CopyServeWords → Result ℕ ReportRunFault → Type 0
  DoesCopyServe c (Ok status) = ServesCopy old new c done × (status ≡ 0)
  DoesCopyServe c (Err (Origin fault)) = RefusesOrigin c.copy.log.origin.now fault × DoesNothing old new
  DoesCopyServe c (Err (Listen fault)) = ServesCopy old new c (failed fault)
  DoesCopyServe c (Err other) = ⊥
