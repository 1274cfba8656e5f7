use Rattle.std.proofs.Common.{Err, IfOk, Ok, Result, ap, length, sym, ◌∙◌}
use Rattle.std.proofs.lemmas.Bool.{eqb-false}
use Rattle.mirror_folders.proofs.replace.put_whole.Goals as goal

-- what always holds, holds of a result that is Ok
always : {T E : Type 0} (r : Result T E) (P : Type 0) → P → IfOk r (λ _. P)
always (Ok x) P p = p
always (Err e) P p = tt

pub returns : goal.returns
returns g c = record {
  named = always c.move_or_remove.result _ (λ none.
      eqb-false (length c.args.path.now) 0 (sym c.is_empty.ensures ∙ c.if-is_empty.false) (ap length none));
}
