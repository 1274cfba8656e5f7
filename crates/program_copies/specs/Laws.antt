-- The reports on a copy are those of a mirror with its checkpoint.
use Rattle.std.specs.Prelude.{◌≡◌, ℕ, List, length, Option, None, Result, Ok, Err, ⊤}
use Rattle.signed_note.specs.Keys.{Key}
use Rattle.tlog_tiles.specs.declared.paths.Path.TheVariants.{Checkpoint}
use Rattle.tlog_proof.specs.Made.{asked_proof}
use Rattle.tlog_proof.specs.declared.make.ProofFault.{ProofFault}
use Rattle.tlog_proof.specs.declared.proof.Ask.{Ask}
use Rattle.mirror_folders.specs.Shelf.{Put, RecordsRead}
use Rattle.mirror_model.specs.Complete.{IsLawful}
use Rattle.mirror_model.specs.Forks.{Point}
use Rattle.mirror_model.specs.Reports.{ReportsHeads, SaysServed}
use Rattle.mirror_model.specs.Served.{IsServedList}
use Rattle.mirror_model.specs.Strings.{IsDigest}
use Rattle.mirror_model.specs.Texts.{IsStatusText}
use Rattle.mirror_model.specs.View.{View}
use Rattle.program_reports.specs.Questions.{ReportsOn}
use Rattle.program_reports.specs.Reports.{printed}
use Rattle.program_reports.specs.declared.fault.AskFault.TheVariants.{Report, WriteFault}
use Rattle.program_reports.specs.declared.question.Question.TheVariants.{Proof}
use Rattle.program_reports.specs.declared.reports.Report.{Report as Printout}
use Rattle.copy_reader.specs.Statuses.{copy_heads, copy_status}
use Rattle.copy_reader.specs.WholeCopies.{HoldsWhole}
use Rattle.program_copies.specs.Proofs.{IsRefusedOf, ReportsProof}
use Rattle.program_copies.specs.declared.fault.CopyAskFault.{CopyAskFault}
use Rattle.program_copies.specs.declared.fault.CopyAskFault.TheVariants as asking

-- if a request is refused for a size, it is refused for each list of that size, with the same fault
abbrev pub RefusesAsMirror : Type 0
RefusesAsMirror =
    (digest : List ℕ → List ℕ) (entries : List (List ℕ)) (ask : Ask) (fault : ProofFault) →
    IsRefusedOf ask (length entries) fault → asked_proof digest entries ask ≡ Err fault

-- a mirror whose only tree head is complete and served, or that has none, reports its status by the same text
abbrev pub PrintsAsMirror : Type 0
PrintsAsMirror =
    (digest : List ℕ → List ℕ) (v : View) (point : Option Point) → ReportsHeads digest v (copy_heads point) →
    SaysServed digest v point → IsStatusText digest v (copy_status v.origin point)

-- the view serves what the shelf has: nothing, or the entries of a whole copy
pub data ServesCopy (digest : List ℕ → List ℕ) (held : Option (List Put)) (v : View) : Type 0 where
  empty : ((answer : Option (List ℕ)) → RecordsRead held Checkpoint answer → answer ≡ None) →
      SaysServed digest v None → ServesCopy digest held v
  whole : {entries : List (List ℕ)} → HoldsWhole digest v.origin held entries → IsServedList digest v entries →
      ServesCopy digest held v

module _ (digest : List ℕ → List ℕ) (v : View) (ask : Ask) where
  -- the report is one of `prove` on a mirror with the view. If the view is lawful, each other one has the same text and status
  pub record IsReportOfView (report : Printout) : Type 0 where
    pub is : ReportsOn digest (Proof ask) v (Ok report)
    pub only : IsLawful digest v → (other : Printout) → ReportsOn digest (Proof ask) v (Ok other) →
        (printed other ≡ printed report) × (other.status ≡ report.status)

  -- the answer is one of `prove` on a mirror with the view. The faults of the copy's files are not of a mirror
  abbrev pub ProvesAsView : Result Printout CopyAskFault → Type 0
  ProvesAsView (Ok report) = IsReportOfView report
  ProvesAsView (Err (asking.Copy fault)) = ⊤
  ProvesAsView (Err (asking.Heads fault)) = ⊥
  ProvesAsView (Err (asking.Ask (Report fault))) = ReportsOn digest (Proof ask) v (Err fault)
  ProvesAsView (Err (asking.Ask WriteFault)) = ⊥

-- the answer of `prove` on a copy is that on a mirror that serves what the copy has
abbrev pub ProvesAsMirror : Type 0
ProvesAsMirror =
    (digest : List ℕ → List ℕ) → IsDigest digest → (keys : List Key) (held : Option (List Put)) (v : View) →
    ServesCopy digest held v → (ask : Ask) (result : Result Printout CopyAskFault) →
    ReportsProof digest v.origin keys held ask result → ProvesAsView digest v ask result
