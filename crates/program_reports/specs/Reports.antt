-- The text and the exit status of a command that asks a mirror something.
use Rattle.std.specs.Prelude.{◌≡◌, ◌≢◌, ◌⊎◌, ℕ, List, [], Some, None, Result, Ok, Err}
use Rattle.std.specs.Prelude.{string_bytes, ⊤}
use Rattle.tlog_proof.specs.Made.{asked_proof}
use Rattle.tlog_proof.specs.Text.{IsProofText}
use Rattle.tlog_proof.specs.declared.make.ProofFault.{ProofFault}
use Rattle.tlog_proof.specs.declared.make.ProofFault.TheVariants as proving
use Rattle.tlog_proof.specs.declared.proof.Ask.{Ask}
use Rattle.tlog_proof.specs.declared.proof.Proof.{Proof}
use Rattle.mirror_model.specs.Forks.{Point}
use Rattle.mirror_model.specs.Heads.{HasHead}
use Rattle.mirror_model.specs.Reports.{SaysServed}
use Rattle.mirror_model.specs.Served.{IsServedList}
use Rattle.mirror_model.specs.Texts.{IsStatusText, IsForksText, IsMissingText}
use Rattle.mirror_model.specs.View.{View}
use Rattle.program_reports.specs.declared.fault.ReportFault.{ReportFault}
use Rattle.program_reports.specs.declared.fault.ReportFault.TheVariants.{NothingComplete, NoSuchHead}
use Rattle.program_reports.specs.declared.fault.ReportFault.TheVariants.{Proof as Refused}
use Rattle.program_reports.specs.declared.fault.ReportFault.TheVariants.{OutOfMemory}
use Rattle.program_reports.specs.declared.reports.Report.{Report}

-- the text of a report
abbrev pub printed : Report → List ℕ
printed report = string_bytes report.text

-- the exit status of a list: 0 if the text is empty, else 3
abbrev pub PrintsNothing : List ℕ → ℕ → Type 0
PrintsNothing text status = ((text ≡ []) × (status ≡ 0)) ⊎ ((text ≢ []) × (status ≡ 3))

-- the fault of a proof as a fault of a report
abbrev pub of_proof : ProofFault → ReportFault
of_proof proving.OutOfMemory = OutOfMemory
of_proof fault = Refused fault

module _ (digest : List ℕ → List ℕ) (v : View) where
  -- the exit status of `status`: 0 if something is served, else 3
  abbrev pub IsServedPrint : ℕ → Type 0
  IsServedPrint status =
      ((point : Point) × SaysServed digest v (Some point) × (status ≡ 0))
      ⊎ (SaysServed digest v None × (status ≡ 3))

  -- the text and the exit status of `status`
  pub record IsStatusPrint (printed : List ℕ) (ended : ℕ) : Type 0 where
    pub text : IsStatusText digest v printed
    pub status : IsServedPrint ended

  -- the text and the exit status of `forks`
  pub record IsForksPrint (printed : List ℕ) (ended : ℕ) : Type 0 where
    pub text : IsForksText digest v printed
    pub status : PrintsNothing printed ended

  -- the text and the exit status of `missing`, for a tree head
  pub record IsMissingPrint (size : ℕ) (root : List ℕ) (printed : List ℕ) (ended : ℕ) : Type 0 where
    pub text : IsMissingText digest v size root printed
    pub status : PrintsNothing printed ended

  -- the meaning of each answer to `missing`
  abbrev pub ReportsMissing : ℕ → List ℕ → Result Report ReportFault → Type 0
  ReportsMissing size root (Ok report) = IsMissingPrint size root (printed report) report.status
  ReportsMissing size root (Err NoSuchHead) = ¬ HasHead v size root
  ReportsMissing size root (Err OutOfMemory) = ⊤
  ReportsMissing size root (Err other) = ⊥

  -- the text and the exit status of `prove`: a proof about the served entries
  pub record IsProofPrint (ask : Ask) (printed : List ℕ) (ended : ℕ) : Type 0 where
    pub entries : List (List ℕ)
    pub served : IsServedList digest v entries
    pub proof : Proof
    pub made : asked_proof digest entries ask ≡ Ok proof
    pub text : IsProofText printed proof
    pub status : ended ≡ 0

  -- the requested proof is refused with this fault
  pub record RefusesProof (ask : Ask) (fault : ProofFault) : Type 0 where
    pub entries : List (List ℕ)
    pub served : IsServedList digest v entries
    pub refused : asked_proof digest entries ask ≡ Err fault

  -- the meaning of each answer to `prove`
  abbrev pub ReportsProof : Ask → Result Report ReportFault → Type 0
  ReportsProof ask (Ok report) = IsProofPrint ask (printed report) report.status
  ReportsProof ask (Err NothingComplete) = SaysServed digest v None
  ReportsProof ask (Err OutOfMemory) = ⊤
  ReportsProof ask (Err NoSuchHead) = ⊥
  ReportsProof ask (Err (Refused fault)) = RefusesProof ask fault
