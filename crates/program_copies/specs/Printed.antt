-- The reports on a copy, and their output.
use Rattle.std.specs.Prelude.{◌≡◌, ◌⊎◌, ℕ, List, Option, Result, Ok, Err, ⊤}
use Rattle.std.specs.Io.KnownBytes.{Appends, Keeps}
use Rattle.byte_streams.specs.Streams.{AppendsPrefix}
use Rattle.program_reports.specs.Reports.{printed}
use Rattle.program_reports.specs.declared.reports.Report.{Report as Printout}
use Rattle.program_reports.specs.declared.fault.AskFault.TheVariants.{Report, WriteFault}
use Rattle.copy_reader.specs.Faults.{CountsFault}
use Rattle.program_copies.specs.declared.fault.CopyAskFault.{CopyAskFault}
use Rattle.program_copies.specs.declared.fault.CopyAskFault.TheVariants.{Copy, Heads, Ask}

-- the shelf's number of failures rises by one at a ShelfFault, and does not change at any other answer
abbrev pub CountsAsk : {T : Type 0} → ℕ → ℕ → Result T CopyAskFault → Type 0
CountsAsk old new (Ok x) = new ≡ old
CountsAsk old new (Err (Copy fault)) = CountsFault old new fault
CountsAsk old new (Err (Heads fault)) = new ≡ old
CountsAsk old new (Err (Ask fault)) = new ≡ old

-- the fault is that of a write
abbrev pub IsWriteFault : CopyAskFault → Type 0
IsWriteFault (Copy fault) = ⊥
IsWriteFault (Heads fault) = ⊥
IsWriteFault (Ask (Report fault)) = ⊥
IsWriteFault (Ask WriteFault) = ⊤

-- the exit status of a command that finished: 0, or 3 for a negative result
abbrev pub IsStatus : ℕ → Type 0
IsStatus status = (status ≡ 0) ⊎ (status ≡ 3)

abbrev pub HasStatus : Printout → Type 0
HasStatus report = IsStatus report.status

module _ (old new : Option (List ℕ)) (recorded : Result Printout CopyAskFault) where
  -- the report was written whole, and the exit status is that of the report
  pub record PrintsWhole (status : ℕ) : Type 0 where
    pub report : Printout
    pub recorded_is : recorded ≡ Ok report
    pub written : Appends old new (printed report)
    pub status_is : status ≡ report.status

  -- a prefix of the report was written, since a write failed
  pub record PrintsPrefix : Type 0 where
    pub report : Printout
    pub recorded_is : recorded ≡ Ok report
    pub written : AppendsPrefix old new (printed report)

  -- the report and the output at each answer. At a fault nothing is written, or a prefix if a write failed
  abbrev pub PrintsText : Result ℕ CopyAskFault → Type 0
  PrintsText (Ok status) = PrintsWhole status
  PrintsText (Err fault) = ((recorded ≡ Err fault) × Keeps old new) ⊎ (IsWriteFault fault × PrintsPrefix)

-- the answer and the output are those of a report for which "Reports" holds
pub record Prints (Reports : Result Printout CopyAskFault → Type 0) (old new : Option (List ℕ))
    (answer : Result ℕ CopyAskFault) : Type 0 where
  pub recorded : Result Printout CopyAskFault
  pub reports : Reports recorded
  pub prints : PrintsText old new recorded answer
