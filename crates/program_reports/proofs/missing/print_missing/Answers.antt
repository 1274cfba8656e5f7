use Rattle.std.proofs.Common.{◌≡◌, ℕ, List, [], ◌∷◌, Option, Bool, true, false, inl, refl, sym, subst, ◌∙◌}
use Rattle.std.specs.Prelude.{◌≢◌, IsTrue, Ok}
use Rattle.mirror_model.specs.View.{View}
use Rattle.tlog_mirror.specs.MissingWritten.{WritesMissing, WritesMissingPrefix, WritesMissingWhole}
use Rattle.program_reports.specs.Questions.{PrintsReport, PrintsReportPrefix}
use Rattle.program_reports.specs.Reports.{PrintsNothing}
use Rattle.program_reports.specs.declared.question.Question.TheVariants.{Missing}
use Rattle.program_reports.proofs.Statuses.{status_of}
use Rattle.program_reports.proofs.missing.print_missing.Goals as goal

prefix : (digest : List ℕ → List ℕ) (v : View) (size : ℕ) (root : List ℕ) (old new : Option (List ℕ)) →
    WritesMissingPrefix digest v size root old new → PrintsReportPrefix digest (Missing size root) v old new
prefix digest v size root old new w = record {
  printed = w.text;
  ended = (status_of w.text).0;
  tells = record { text = w.is_text; status = (status_of w.text).1 };
  written = w.written;
}

pub returns-in-Err-WriteFault-clause-answer : goal.returns-in-Err-WriteFault-clause-answer
returns-in-Err-WriteFault-clause-answer g c =
    prefix g.H.TreeHash.digest c.args.mirror.now.view c.args.size c.args.root.now
    (g.W.Write.contents c.args.output.now) (g.W.Write.contents c.write_missing.new.output)
    (rw c.in-Err-WriteFault.field-0-is at c.in-Err-WriteFault.ensures)

-- if no path is missing, nothing was written
none_said : (digest : List ℕ → List ℕ) (v : View) (size : ℕ) (root : List ℕ) (old new : Option (List ℕ)) (any : Bool) →
    any ≡ false → WritesMissingWhole digest v size root old new any →
    PrintsReport digest (Missing size root) v old new 0
none_said digest v size root old new any none w = record {
  printed = w.text;
  tells = record { text = w.is_text; status = at w.text w.says.1 };
  written = w.written;
}
  where
    at : (text : List ℕ) → ((text ≢ []) → IsTrue any) → PrintsNothing text 0
    at [] says = inl (refl, refl)
    at (x ∷ xs) says = let some : IsTrue any = says (λ e. cc e) in absurd (let wrong : true ≡ false = sym some ∙ none in cc wrong)

pub returns-in-Ok-Some-false-clause-answer : goal.returns-in-Ok-Some-false-clause-answer
returns-in-Ok-Some-false-clause-answer g c =
    let digest = g.H.TreeHash.digest in
    let old = g.W.Write.contents c.args.output.now in
    let new = g.W.Write.contents c.write_missing.new.output in
    none_said digest c.args.mirror.now.view c.args.size c.args.root.now old new c.in-Ok-Some-false.field-0-0
    c.in-Ok-Some-false.field-0-0-test
    (subst (λ (o : Option Bool). WritesMissing digest c.args.mirror.now.view c.args.size c.args.root.now old new (Ok o))
    c.in-Ok-Some-false.field-0-is c.in-Ok-Some-false.ensures)
