-- The answer of a command that asks a mirror something, and its text.
use Rattle.std.specs.Prelude.{ℕ, List, Option, Result, Ok, Err, ⊤}
use Rattle.std.specs.Io.KnownBytes.{Appends}
use Rattle.byte_streams.specs.Streams.{AppendsPrefix}
use Rattle.mirror_model.specs.View.{View}
use Rattle.program_reports.specs.Reports.{printed, IsStatusPrint, IsForksPrint, IsMissingPrint, IsProofPrint}
use Rattle.program_reports.specs.Reports.{ReportsMissing, ReportsProof}
use Rattle.program_reports.specs.declared.fault.ReportFault.{ReportFault}
use Rattle.program_reports.specs.declared.fault.ReportFault.TheVariants.{OutOfMemory}
use Rattle.program_reports.specs.declared.reports.Report.{Report as Printout}
use Rattle.program_reports.specs.declared.question.Question.{Question}
use Rattle.program_reports.specs.declared.question.Question.TheVariants.{Status, Missing}
use Rattle.program_reports.specs.declared.question.Question.TheVariants.{Forks, Proof}
use Rattle.program_reports.specs.declared.fault.AskFault.{AskFault}
use Rattle.program_reports.specs.declared.fault.AskFault.TheVariants.{Report, WriteFault}

-- the text and the exit status that answer the question for a view
abbrev pub IsAnswerPrint : (List ℕ → List ℕ) → Question → View → List ℕ → ℕ → Type 0
IsAnswerPrint digest Status v printed ended = IsStatusPrint digest v printed ended
IsAnswerPrint digest (Missing size root) v printed ended = IsMissingPrint digest v size root printed ended
IsAnswerPrint digest Forks v printed ended = IsForksPrint digest v printed ended
IsAnswerPrint digest (Proof ask) v printed ended = IsProofPrint digest v ask printed ended

-- the reason why there is no answer
abbrev pub IsNoAnswerPrint : (List ℕ → List ℕ) → Question → View → ReportFault → Type 0
IsNoAnswerPrint digest Status v OutOfMemory = ⊤
IsNoAnswerPrint digest Status v fault = ⊥
IsNoAnswerPrint digest (Missing size root) v fault = ReportsMissing digest v size root (Err fault)
IsNoAnswerPrint digest Forks v OutOfMemory = ⊤
IsNoAnswerPrint digest Forks v fault = ⊥
IsNoAnswerPrint digest (Proof ask) v fault = ReportsProof digest v ask (Err fault)

-- the meaning of each result of a reporter for a view: the report on the question, or a reason why there is none
abbrev pub ReportsOn :
    (List ℕ → List ℕ) → Question → View → Result Printout ReportFault → Type 0
ReportsOn digest question v (Ok report) =
    IsAnswerPrint digest question v (printed report) report.status
ReportsOn digest question v (Err fault) = IsNoAnswerPrint digest question v fault

-- the report on this question is made before it is printed; that is so for all questions but forks and missing paths
abbrev pub IsMade : Question → Type 0
IsMade (Missing size root) = ⊥
IsMade Forks = ⊥
IsMade question = ⊤

module _ (digest : List ℕ → List ℕ) (question : Question) (v : View)
    (old new : Option (List ℕ)) where
  -- the complete answer was written, and the exit status belongs to it
  pub record PrintsReport (status : ℕ) : Type 0 where
    pub printed : List ℕ
    pub tells : IsAnswerPrint digest question v printed status
    pub written : Appends old new printed

  -- a prefix of the answer was written, because a write failed
  pub record PrintsReportPrefix : Type 0 where
    pub printed : List ℕ
    pub ended : ℕ
    pub tells : IsAnswerPrint digest question v printed ended
    pub written : AppendsPrefix old new printed

  -- the meaning of each result of the command, for the view and the output
  abbrev pub AnswersQuestion : Result ℕ AskFault → Type 0
  AnswersQuestion (Ok status) = PrintsReport status
  AnswersQuestion (Err (Report fault)) = IsNoAnswerPrint digest question v fault
  AnswersQuestion (Err WriteFault) = PrintsReportPrefix
