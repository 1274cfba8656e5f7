use Rattle.std.proofs.Common.{◌≡◌, suc, ◌-◌, ◌+◌, [], ◌∷◌, ◌++◌, length, map, subst, arith, ap, ◌∙◌}
use Rattle.std.proofs.lemmas.List.{map_push, length_push}
use Rattle.std.proofs.lemmas.List.Elements.{All-push, All-same}
use Rattle.std.proofs.lemmas.Result.{IfOk-from_err}
use Rattle.mirror_files.specs.Items.{IsItem}
use Rattle.mirror_files.specs.Stands.{HasItems}
use Rattle.mirror_files.proofs.ItemLemmas.{items_first, items_rest, items_push}
use Rattle.mirror_files.proofs.items.items_at.Goals as goal

pub returns-in_default-clause-none : goal.returns-in_default-clause-none
returns-in_default-clause-none c = λ items rest h.
    let left : c.args.count - c.loop.counter ≡ suc (c.args.count - (c.loop.counter + 1)) = omega arith in
    let found = c.loop.invariant.others items rest h in
    let at = subst (λ n. HasItems c.args.form n c.loop.rest.now found.0 rest) left found.1 in
    let first = items_first c.args.form (c.args.count - (c.loop.counter + 1)) c.loop.rest.now found.0 rest at in
    c.in_default.ensures.none first.0 first.1 first.2 first.3

pub loop-preserved : goal.loop-preserved
loop-preserved c =
    let items : map (λ x. x.now) c.push.new.self.items ≡ map (λ x. x.now) c.loop.items.items ++ c.in-Some.item.now
    ∷ [] = rw c.in_ok-push.ensures.items (map_push _ c.loop.items.items c.in-Some.item) in
    let left : c.args.count - c.loop.counter ≡ suc (c.args.count - (c.loop.counter + 1)) = omega arith in
    let found = c.in-Some.ensures.found in
    record {
      count = ap length c.in_ok-push.ensures.items
          ∙ (length_push c.loop.items.items c.in-Some.item ∙ ap (λ n. n + 1) c.loop.invariant.count);
      fits = All-same (IsItem c.args.form) _ _ items (All-push (IsItem c.args.form)
          (map (λ x. x.now) c.loop.items.items) c.in-Some.item.now c.loop.invariant.fits found.0);
      text = rw items (items_push c.args.form c.args.bytes.now c.loop.rest.now c.in-Some.after.now c.in-Some.item.now
          (map (λ x. x.now) c.loop.items.items) c.loop.invariant.text found.1);
      others = λ xs r h.
          let those = c.loop.invariant.others xs r h in
          items_rest c.args.form (c.args.count - (c.loop.counter + 1)) c.in-Some.item.now c.in-Some.after.now those.0 r
          found.0 (subst (λ b. HasItems c.args.form (suc (c.args.count - (c.loop.counter + 1))) b those.0 r) found.1
          (subst (λ n. HasItems c.args.form n c.loop.rest.now those.0 r) left those.1));
    }

pub returns-in_err-push : goal.returns-in_err-push
returns-in_err-push c = record {
  found = IfOk-from_err _ _ c.from_residual.ensures.0;
  none = IfOk-from_err _ _ c.from_residual.ensures.0;
}
