-- The command `entries` of a copy: the meaning of each answer for its folder and the output.
use Rattle.std.specs.Prelude.{◌≡◌, ℕ, List, Result, Ok, Err}
use Rattle.signed_note.specs.Keys.{Key}
use Rattle.program_words.specs.declared.commands.entries.CopyEntries.{CopyEntries as CopyEntriesWords}
use Rattle.program_copies.specs.Copied.{AnswersCopied}
use Rattle.program_copies.specs.declared.entries_fault.CopyEntriesFault.{CopyEntriesFault}
use Rattle.copy_reader.specs.Copies.{LeavesPuts}
use Rattle.program_io.specs.Moment.{Moment}
use Rattle.program_io.specs.Origins.{RefusesOrigin}
use Rattle.program_io.specs.Performing.{DoesNothing, done, failed}
use Rattle.copy_commands.specs.declared.fault.ReportRunFault.{ReportRunFault}
use Rattle.copy_commands.specs.declared.fault.ReportRunFault.TheVariants.{CopyEntries, Origin}

module _ (digest : List ℕ → List ℕ) (keys : List Key) (old new : Moment) where
  abbrev pub WritesCopyEntries : CopyEntriesWords → Result (Unit {0}) CopyEntriesFault → Type 0
  WritesCopyEntries c answer =
      AnswersCopied digest c.copy.log.origin.now keys (old.held c.copy.folder.now) c.range.from c.range.to
      c.range.base64 old.output new.output answer
      × LeavesPuts (old.held c.copy.folder.now) old.puts new.puts

  abbrev pub DoesCopyEntries : CopyEntriesWords → Result ℕ ReportRunFault → Type 0
  DoesCopyEntries c (Ok status) = WritesCopyEntries c done × (status ≡ 0)
  DoesCopyEntries c (Err (Origin fault)) = RefusesOrigin c.copy.log.origin.now fault × DoesNothing old new
  DoesCopyEntries c (Err (CopyEntries fault)) = WritesCopyEntries c (failed fault)
  DoesCopyEntries c (Err other) = ⊥
