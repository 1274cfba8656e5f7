-- The answer of `prove` on a copy is that on a mirror that serves what the copy has.
use Rattle.std.proofs.Common.{◌≡◌, ℕ, List, length, Option, Some, None, Ok, Err, sym, ap, subst, ◌∙◌}
use Rattle.signed_note.specs.Keys.{Key}
use Rattle.tlog_hash.specs.Tree.{mth}
use Rattle.tlog_proof.specs.Made.{asked_proof}
use Rattle.tlog_proof.specs.Text.{IsProofText}
use Rattle.tlog_proof.specs.declared.make.ProofFault.{ProofFault}
use Rattle.tlog_proof.specs.declared.proof.Ask.{Ask}
use Rattle.tlog_proof.proofs.Spelling.{has_one_spelling}
use Rattle.mirror_folders.specs.Shelf.{Put}
use Rattle.mirror_model.specs.Complete.{IsLawful}
use Rattle.mirror_model.specs.Heads.{IsHead}
use Rattle.mirror_model.specs.Served.{IsServedList}
use Rattle.mirror_model.specs.Strings.{IsDigest}
use Rattle.mirror_model.specs.View.{View}
use Rattle.mirror_model.proofs.HeadNotes.{head_once}
use Rattle.mirror_model.proofs.OneLists.{one_served}
use Rattle.program_reports.specs.Reports.{IsProofPrint, printed, RefusesProof}
use Rattle.program_reports.specs.declared.fault.AskFault.TheVariants.{Report, WriteFault}
use Rattle.program_reports.specs.declared.fault.ReportFault.TheVariants.{NothingComplete, NoSuchHead}
use Rattle.program_reports.specs.declared.fault.ReportFault.TheVariants.{Proof as Refused, OutOfMemory}
use Rattle.program_reports.specs.declared.reports.Report.{Report as Printout}
use Rattle.copy_reader.specs.Copies.{HasCheckpoint, IsEmptyCopy}
use Rattle.copy_reader.specs.WholeCopies.{HoldsWhole}
use Rattle.program_copies.specs.Laws.{empty, IsReportOfView, ProvesAsMirror, whole}
use Rattle.program_copies.specs.Proofs.{IsProofPrint as IsCopyPrint, IsRefusedOf, RefusesAsk}
use Rattle.program_copies.specs.declared.fault.CopyAskFault.TheVariants as asking
use Rattle.program_copies.proofs.AsMirror.{refuses_as_mirror}

-- a lawful view has one report
module _ (digest : List ℕ → List ℕ) (hash : IsDigest digest) (v : View) (lawful : IsLawful digest v) (ask : Ask) where
  one_print : (a b : Printout) → IsProofPrint digest v ask (printed a) a.status →
      IsProofPrint digest v ask (printed b) b.status → (printed a ≡ printed b) × (a.status ≡ b.status)
  one_print a b p q =
      let same : p.entries ≡ q.entries = one_served digest hash v lawful p.entries q.entries p.served q.served in
      let e : Ok p.proof ≡ Ok q.proof = sym p.made ∙ (ap (λ es. asked_proof digest es ask) same ∙ q.made) in
      let proof : p.proof ≡ q.proof = cc e in (
        has_one_spelling.one_text (printed a) (printed b) q.proof (subst (IsProofText (printed a)) proof p.text) q.text,
        p.status ∙ sym q.status,
      )

module _ (digest : List ℕ → List ℕ) (hash : IsDigest digest) (keys : List Key) (held : Option (List Put)) (v : View)
    (ask : Ask) (entries : List (List ℕ)) (copy : HoldsWhole digest v.origin held entries)
    (served : IsServedList digest v entries) where
  whole_print : (report : Printout) → IsCopyPrint digest v.origin keys held ask report → IsReportOfView digest v ask report
  whole_print report p =
      let text = p.is.whole entries copy in
      let is : IsProofPrint digest v ask (printed report) report.status =
      record {
        entries = entries;
        served = served;
        proof = text.proof;
        made = text.made;
        text = text.text_is;
        status = p.is.status;
      } in
      record { is = is; only = λ lawful other q. one_print digest hash v lawful ask other report q is }

  -- the copy's checkpoint has the number of its entries
  size_is : (size : ℕ) (root : List ℕ) → HasCheckpoint v.origin keys held size root → size ≡ length entries
  size_is size root c =
      let note = copy.0 in
      let same : Some c.note ≡ Some note = copy.1.checkpoint (Some c.note) c.stands in
      let one : c.note ≡ note = cc same in
      let opens = c.opens in
      let found : IsHead c.note v.origin size root = record {
        text = opens.text;
        lines = opens.lines;
        extensions = opens.extensions;
        is_note = opens.is_note;
        is_checkpoint = opens.is_checkpoint;
      } in
      (head_once note v.origin v.origin size (length entries) root (mth digest entries)
      (subst (λ b. IsHead b v.origin size root) one found) copy.1.is_head).size_is

  whole_refused : (fault : ProofFault) → RefusesAsk digest v.origin keys held ask fault → RefusesProof digest v ask fault
  whole_refused fault p = record {
    entries = entries;
    served = served;
    refused = refuses_as_mirror digest entries ask fault
        (subst (λ n. IsRefusedOf ask n fault) (size_is p.size p.root p.checkpoint) p.refused);
  }

  not_empty : IsEmptyCopy v.origin keys held → ⊥
  not_empty stands = let e : None ≡ Some copy.0 = copy.1.checkpoint None stands in absurd (cc e)

pub proves_as_mirror : ProvesAsMirror
proves_as_mirror digest hash keys held v (empty none says) ask (Ok report) p =
    let c = p.checkpoint in let e : Some c.note ≡ None = none (Some c.note) c.stands in absurd (cc e)
proves_as_mirror digest hash keys held v (empty none says) ask (Err (asking.Copy fault)) p = tt
proves_as_mirror digest hash keys held v (empty none says) ask (Err (asking.Heads fault)) p = absurd p
proves_as_mirror digest hash keys held v (empty none says) ask (Err (asking.Ask (Report NothingComplete))) p = says
proves_as_mirror digest hash keys held v (empty none says) ask (Err (asking.Ask (Report (Refused fault)))) p =
    let c = p.checkpoint in let e : Some c.note ≡ None = none (Some c.note) c.stands in absurd (cc e)
proves_as_mirror digest hash keys held v (empty none says) ask (Err (asking.Ask (Report NoSuchHead))) p = absurd p
proves_as_mirror digest hash keys held v (empty none says) ask (Err (asking.Ask (Report OutOfMemory))) p = absurd p
proves_as_mirror digest hash keys held v (empty none says) ask (Err (asking.Ask WriteFault)) p = absurd p
proves_as_mirror digest hash keys held v (whole {entries = entries} copy served) ask (Ok report) p =
    whole_print digest hash keys held v ask entries copy served report p
proves_as_mirror digest hash keys held v (whole {entries = entries} copy served) ask (Err (asking.Copy fault)) p = tt
proves_as_mirror digest hash keys held v (whole {entries = entries} copy served) ask (Err (asking.Heads fault)) p = absurd p
proves_as_mirror digest hash keys held v (whole {entries = entries} copy served) ask (Err (asking.Ask (Report NothingComplete))) p =
    absurd (not_empty digest hash keys held v ask entries copy served p)
proves_as_mirror digest hash keys held v (whole {entries = entries} copy served) ask (Err (asking.Ask (Report (Refused fault)))) p =
    whole_refused digest hash keys held v ask entries copy served fault p
proves_as_mirror digest hash keys held v (whole {entries = entries} copy served) ask (Err (asking.Ask (Report NoSuchHead))) p = absurd p
proves_as_mirror digest hash keys held v (whole {entries = entries} copy served) ask (Err (asking.Ask (Report OutOfMemory))) p = absurd p
proves_as_mirror digest hash keys held v (whole {entries = entries} copy served) ask (Err (asking.Ask WriteFault)) p = absurd p
