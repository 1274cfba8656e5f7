-- The answer of `compare` for a mirror, and its text.
use Rattle.std.specs.Prelude.{◌≡◌, ℕ, List, map, Option, Some, None, Result, Ok, Err, Bool, true, false}
use Rattle.std.specs.Prelude.{if◌then◌else◌, ⊤}
use Rattle.std.specs.List.{list_any}
use Rattle.std.specs.Io.KnownBytes.{Appends}
use Rattle.byte_streams.specs.Streams.{AppendsPrefix}
use Rattle.mirror_model.specs.View.{View}
use Rattle.mirror_trees.specs.Marked.{point_of}
use Rattle.tlog_mirror.specs.Compared.{ReportsCompared, ReportsHeld, compared_text}
use Rattle.mirror_model.specs.Reports.{SaysServed}
use Rattle.tlog_mirror.specs.declared.compared.Compared.{Compared}
use Rattle.tlog_mirror.specs.declared.compared.Compared.TheVariants.{Same, Fork, Larger}
use Rattle.program_reports.specs.Reports.{printed}
use Rattle.program_reports.specs.declared.fault.ReportFault.{ReportFault}
use Rattle.program_reports.specs.declared.fault.ReportFault.TheVariants.{NothingComplete}
use Rattle.program_reports.specs.declared.fault.ReportFault.TheVariants.{OutOfMemory}
use Rattle.program_reports.specs.declared.reports.Report.{Report as Printout}
use Rattle.program_reports.specs.declared.fault.AskFault.{AskFault}
use Rattle.program_reports.specs.declared.fault.AskFault.TheVariants.{Report, WriteFault}

-- the head is a fork or larger: the served tree is not known to have this head at its size
abbrev pub recorded_other : Compared → Bool
recorded_other (Same size root) = false
recorded_other (Fork size root own) = true
recorded_other (Larger size root) = true

-- the exit status: 0 if every head is the same, else 3
abbrev pub compare_status : List Compared → ℕ
compare_status compared = if list_any recorded_other compared then 3 else 0

module _ (digest : List ℕ → List ℕ) where
  -- the comparison of each given head, in order; without given heads, of each head of the view
  abbrev pub ComparesHeads : View → Option (List (ℕ × List ℕ)) → List Compared → Type 0
  ComparesHeads v None compared = ReportsHeld digest v compared
  ComparesHeads v (Some heads) compared = ReportsCompared digest v (map point_of heads) compared

  -- a report of `compare`
  pub record IsComparedPrint (v : View) (heads : Option (List (ℕ × List ℕ))) (report : Printout)
      : Type 0 where
    pub compared : List Compared
    pub compares : ComparesHeads v heads compared
    pub text : printed report ≡ compared_text compared
    pub status : report.status ≡ compare_status compared

  -- the meaning of each answer to `compare`
  abbrev pub ReportsComparison : View → Option (List (ℕ × List ℕ)) → Result Printout ReportFault →
      Type 0
  ReportsComparison v heads (Ok report) = IsComparedPrint v heads report
  ReportsComparison v heads (Err NothingComplete) = SaysServed digest v None
  ReportsComparison v heads (Err OutOfMemory) = ⊤
  ReportsComparison v heads (Err other) = ⊥

module _ (digest : List ℕ → List ℕ) (v : View) (heads : Option (List (ℕ × List ℕ)))
    (old new : Option (List ℕ)) where
  -- the complete report was written, and the exit status is that of the report
  pub record PrintsCompared (status : ℕ) : Type 0 where
    pub report : Printout
    pub tells : IsComparedPrint digest v heads report
    pub written : Appends old new (printed report)
    pub status_is : status ≡ report.status

  -- a prefix of the report was written, because a write failed
  pub record PrintsComparedPrefix : Type 0 where
    pub report : Printout
    pub tells : IsComparedPrint digest v heads report
    pub written : AppendsPrefix old new (printed report)

  -- the meaning of each answer of the command, for the view and the output
  abbrev pub AnswersCompared : Result ℕ AskFault → Type 0
  AnswersCompared (Ok status) = PrintsCompared status
  AnswersCompared (Err (Report fault)) = ReportsComparison digest v heads (Err fault)
  AnswersCompared (Err WriteFault) = PrintsComparedPrefix
