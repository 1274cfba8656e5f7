use Rattle.std.proofs.Common.{◌≡◌, suc, ◌-◌, ◌+◌, ◌^◌, ◌<◌, [], ◌∷◌, ◌++◌, length, map, subst, arith, ap, sym, ◌∙◌}
use Rattle.std.proofs.lemmas.List.{map_push, length_push, length-map}
use Rattle.std.proofs.lemmas.List.Elements.{All-push, All-same}
use Rattle.tlog_tiles.specs.Bundle.{HasBundle}
use Rattle.tlog_tiles.proofs.BundleLemmas.{HasBundle-first, HasBundle-rest, joined_push, left_over}
use Rattle.tlog_tiles.proofs.Exits.{no_bundle}
use Rattle.tlog_tiles.proofs.bundle.read_bundle.Goals as goal

pub returns-in_default : goal.returns-in_default
returns-in_default c = λ rest h.
    let left : c.args.width - c.loop.counter ≡ suc (c.args.width - (c.loop.counter + 1)) = omega arith in
    let at = subst (λ n. HasBundle n c.loop.rest.now rest) left (c.loop.invariant.others rest h) in
    let first = HasBundle-first (c.args.width - (c.loop.counter + 1)) c.loop.rest.now rest at in
    c.in_default.ensures.none first.0 first.1 first.2 first.3

pub loop-preserved : goal.loop-preserved
loop-preserved c =
    let items : map (λ x. x.now) c.push.new.self.items
    ≡ map (λ x. x.now) c.loop.entries.items ++ c.in-Some.entry.now ∷ [] =
    rw c.in_ok-push.ensures.items (map_push _ c.loop.entries.items c.in-Some.entry) in
    let left : c.args.width - c.loop.counter ≡ suc (c.args.width - (c.loop.counter + 1)) = omega arith in
    let found = c.in-Some.ensures.found in
    record {
      count = ap length c.in_ok-push.ensures.items ∙
          (length_push c.loop.entries.items c.in-Some.entry ∙ ap (λ n. n + 1) c.loop.invariant.count);
      fits = All-same (λ e. length e < 2 ^ 16) _ _ items
          (All-push (λ e. length e < 2 ^ 16)
          (map (λ x. x.now) c.loop.entries.items) c.in-Some.entry.now c.loop.invariant.fits found.0);
      text = rw items
          (joined_push c.args.bytes.now c.loop.rest.now c.in-Some.after.now c.in-Some.entry.now
          (map (λ x. x.now) c.loop.entries.items) c.loop.invariant.text found.1);
      others = λ r h. HasBundle-rest
          (c.args.width - (c.loop.counter + 1)) c.in-Some.entry.now c.in-Some.after.now r found.0
          (subst (λ b. HasBundle (suc (c.args.width - (c.loop.counter + 1))) b r) found.1
          (subst (λ n. HasBundle n c.loop.rest.now r) left (c.loop.invariant.others r h)));
    }

pub returns-then-not-is_empty : goal.returns-then-not-is_empty
returns-then-not-is_empty c =
    let counted : length c.loop.entries.items ≡ c.args.width = omega arith in
    left_over c.args.width c.args.bytes.now c.loop.rest.now (map (λ x. x.now) c.loop.entries.items)
    (sym c.is_empty.ensures ∙ c.if-not-is_empty.true)
    (length-map c.loop.entries.items (λ x. x.now) ∙ counted) c.loop.invariant.fits c.loop.invariant.text

pub returns-in_err-push : goal.returns-in_err-push
returns-in_err-push c =
    no_bundle c.args.width c.args.bytes.now (λ v. map (λ e. e.now) v.items) c.from_residual.result c.from_residual.ensures
