-- The commands `status`, `compare` and `prove` of a copy: the meaning of each answer for its folder and the output.
use Rattle.std.specs.Prelude.{ℕ, List, Result, Ok, Err, map}
use Rattle.signed_note.specs.Keys.{Key}
use Rattle.program_words.specs.declared.parts.CopyArgs.{CopyArgs}
use Rattle.program_words.specs.declared.commands.compare.CopyCompare.{CopyCompare as CopyCompareWords}
use Rattle.program_reports.specs.declared.reports.Report.{Report as Printout}
use Rattle.program_copies.specs.Comparisons.{ReportsCompared}
use Rattle.program_copies.specs.Printed.{Prints}
use Rattle.program_copies.specs.Proofs.{ReportsProof}
use Rattle.program_copies.specs.Statuses.{ReportsStatus}
use Rattle.program_copies.specs.declared.fault.CopyAskFault.{CopyAskFault}
use Rattle.copy_reader.specs.Copies.{LeavesPuts}
use Rattle.program_words.specs.declared.commands.prove.CopyProve.{CopyProve as CopyProveWords}
use Rattle.program_io.specs.Moment.{Moment}
use Rattle.copy_commands.specs.declared.fault.ReportRunFault.{ReportRunFault}
use Rattle.copy_commands.specs.declared.fault.ReportRunFault.TheVariants.{Copy}

module _ (old new : Moment) where
  -- a report on the copy was printed, or could not be; the earlier puts of the folder remain
  abbrev pub PrintsCopy : CopyArgs → (Result Printout CopyAskFault → Type 0) → Result ℕ CopyAskFault → Type 0
  PrintsCopy c Reports answer =
      Prints Reports old.output new.output answer × LeavesPuts (old.held c.folder.now) old.puts new.puts

  abbrev pub DoesAskCopy : CopyArgs → (Result Printout CopyAskFault → Type 0) → Result ℕ ReportRunFault → Type 0
  DoesAskCopy c Reports (Ok status) = PrintsCopy c Reports (Ok status)
  DoesAskCopy c Reports (Err (Copy fault)) = PrintsCopy c Reports (Err fault)
  DoesAskCopy c Reports (Err other) = ⊥

module _ (digest : List ℕ → List ℕ) (keys : List Key) (old new : Moment) where
  abbrev pub DoesCopyStatus : CopyArgs → Result ℕ ReportRunFault → Type 0
  DoesCopyStatus c = DoesAskCopy old new c (ReportsStatus digest c.log.origin.now keys (old.held c.folder.now))

  abbrev pub DoesCopyCompare : CopyCompareWords → Result ℕ ReportRunFault → Type 0
  DoesCopyCompare c =
      DoesAskCopy old new c.copy (ReportsCompared c.copy.log.origin.now keys old.files
      (map (λ name. name.now) c.files.items) digest (old.held c.copy.folder.now))

  abbrev pub DoesCopyProve : CopyProveWords → Result ℕ ReportRunFault → Type 0
  DoesCopyProve c =
      DoesAskCopy old new c.copy (ReportsProof digest c.copy.log.origin.now keys (old.held c.copy.folder.now) c.ask)
