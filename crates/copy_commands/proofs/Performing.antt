-- How a command over copies ends, given the answer of its call. The answers of the commands cite one lemma each.
use Rattle.std.proofs.Common.{◌≡◌, ℕ, List, Result, Ok, Err, IfErr, IfOk, map}
use Rattle.std.proofs.Common.{inl, refl, subst}
use Rattle.std.specs.Borrow.{Bor}
use Rattle.std.specs.Io.KnownBytes.{Keeps}
use Rattle.std.specs.Result.{result_map_both}
use Rattle.signed_note.specs.Keys.{Key}
use Rattle.program_reports.specs.declared.reports.Report.{Report as Printout}
use Rattle.program_copies.specs.Comparisons.{ReportsCompared}
use Rattle.copy_reader.specs.Copies.{LeavesPuts}
use Rattle.program_copies.specs.Printed.{Prints, IsWriteFault as IsPrintFault}
use Rattle.program_copies.specs.declared.fault.CopyAskFault.{CopyAskFault}
use Rattle.program_copies.specs.declared.entries_fault.CopyEntriesFault.{CopyEntriesFault}
use Rattle.program_copies.specs.declared.entries_fault.CopyEntriesFault.TheVariants as copied
use Rattle.program_words.specs.declared.parts.CopyArgs.{CopyArgs}
use Rattle.program_words.specs.declared.commands.compare.CopyCompare.{CopyCompare as CopyCompareWords}
use Rattle.program_words.specs.declared.commands.entries.CopyEntries.{CopyEntries as CopyEntriesWords}
use Rattle.program_io.specs.Moment.{Moment}
use Rattle.program_io.specs.Performing.{IsStatus, KeepsFiles, Performs}
use Rattle.program_io.proofs.Performing.{performs, performs_done}
use Rattle.copy_commands.specs.Asks.{DoesAskCopy, DoesCopyCompare}
use Rattle.copy_commands.specs.Entries.{DoesCopyEntries, WritesCopyEntries}
use Rattle.copy_commands.specs.Faults.{IsLate}
use Rattle.copy_commands.specs.declared.fault.ReportRunFault.{ReportRunFault}
use Rattle.copy_commands.specs.declared.fault.ReportRunFault.TheVariants.{Copy, CopyEntries}

-- -- status, compare, prove

module _ {C : Type 0} (Does : (List ℕ → List ℕ) → List Key → Moment → Moment → C → Result ℕ ReportRunFault → Type 0)
    (digest : List ℕ → List ℕ) (keys : List Key) (old new : Moment) (c : C) (args : CopyArgs)
    (Reports : Result Printout CopyAskFault → Type 0) (files : new.files ≡ old.files)
    (is_done : (answer : Result ℕ ReportRunFault) → DoesAskCopy old new args Reports answer →
    Does digest keys old new c answer) where
  -- a report on a copy was printed
  pub prints_copy : (answer : Result ℕ CopyAskFault) → IfOk answer IsStatus →
      IfErr answer (λ fault. (¬ IsPrintFault fault) → Keeps old.output new.output) →
      Prints Reports old.output new.output answer →
      LeavesPuts (old.held args.folder.now) old.puts new.puts → (is : Result ℕ ReportRunFault) →
      is ≡ result_map_both (λ status. status) (λ fault. Copy fault) answer →
      Performs Does IsLate KeepsFiles digest keys old new c is
  prints_copy (Ok status) status_is quiet prints leaves is same =
      rw same (performs_done Does IsLate KeepsFiles digest keys old new c files status status_is
      (is_done (Ok status) (prints, leaves)))
  prints_copy (Err fault) status_is quiet prints leaves is same =
      rw same (performs Does IsLate KeepsFiles digest keys old new c files (Err (Copy fault)) tt quiet
      (is_done (Err (Copy fault)) (prints, leaves)))

-- checkpoints in files, by borrowed names, were compared with a copy
pub prints_compared : (digest : List ℕ → List ℕ) (keys : List Key) (old new : Moment)
    (c : CopyCompareWords) (names : List (Bor (List ℕ))) → names ≡ c.files.items → new.files ≡ old.files →
    (answer : Result ℕ CopyAskFault) → IfOk answer IsStatus →
    IfErr answer (λ fault. (¬ IsPrintFault fault) → Keeps old.output new.output) →
    Prints (ReportsCompared c.copy.log.origin.now keys old.files (map (λ name. name.now) names) digest
    (old.held c.copy.folder.now)) old.output new.output answer →
    LeavesPuts (old.held c.copy.folder.now) old.puts new.puts → (is : Result ℕ ReportRunFault) →
    is ≡ result_map_both (λ status. status) (λ fault. Copy fault) answer →
    Performs DoesCopyCompare IsLate KeepsFiles digest keys old new c is
prints_compared digest keys old new c names lent files answer status_is quiet prints leaves is same =
    let Reports = λ (n : List (Bor (List ℕ))). ReportsCompared c.copy.log.origin.now keys old.files
    (map (λ name. name.now) n) digest (old.held c.copy.folder.now) in
    prints_copy DoesCopyCompare digest keys old new c c.copy (Reports c.files.items) files (λ answer h. h) answer
    status_is quiet (subst (λ n. Prints (Reports n) old.output new.output answer) lent prints) leaves is same

-- -- entries

module _ (digest : List ℕ → List ℕ) (keys : List Key) (old new : Moment) (c : CopyEntriesWords)
    (files : new.files ≡ old.files) where
  quiet_entries : (fault : CopyEntriesFault) → WritesCopyEntries digest keys old new c (Err fault) →
      (¬ IsLate (CopyEntries fault)) → Keeps old.output new.output
  quiet_entries copied.NothingComplete h other = h.0.1
  quiet_entries (copied.Head fault) h other = h.0.1
  quiet_entries (copied.CopyDamaged path) h other = absurd (other tt)
  quiet_entries copied.ShelfFault h other = absurd (other tt)
  quiet_entries copied.NoSuchSize h other = h.0.1
  quiet_entries copied.Backwards h other = h.0.1
  quiet_entries copied.WriteFault h other = absurd (other tt)
  quiet_entries copied.OutOfMemory h other = absurd (other tt)

  -- entries of a copy were written
  pub writes_entries : (answer : Result (Unit {0}) CopyEntriesFault) →
      WritesCopyEntries digest keys old new c answer → (is : Result ℕ ReportRunFault) →
      is ≡ result_map_both (λ _. 0) (λ fault. CopyEntries fault) answer → Performs DoesCopyEntries IsLate KeepsFiles digest keys old new c is
  writes_entries (Ok x) h is same =
      rw same (performs_done DoesCopyEntries IsLate KeepsFiles digest keys old new c files
      0 (inl refl) (h, refl))
  writes_entries (Err fault) h is same =
      rw same (performs DoesCopyEntries IsLate KeepsFiles digest keys old new c files
      (Err (CopyEntries fault)) tt (quiet_entries fault h) h)
