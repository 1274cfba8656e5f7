use Rattle.std.proofs.Common.{◌≡◌, ℕ, ◌+◌, ◌<◌, List, [], ◌∷◌, ◌++◌, length, map, take, get_or, ap, ap₂, sym, ◌∙◌}
use Rattle.std.proofs.lemmas.List.{map-append, take_more, take_all}
use Rattle.std.proofs.lemmas.List.Elements.{All-push, All-same}
use Rattle.std.proofs.lemmas.Result.{IfOk-from_err}
use Rattle.mirror_model.specs.Reports.{head_point}
use Rattle.mirror_trees.specs.Marked.{point_of}
use Rattle.tlog_mirror.specs.Points.{IsBuiltFlag}
use Rattle.tlog_mirror.proofs.flagged.flag_heads.Goals as goal

-- the pushed item is the next one of the other list
seen_more : {X Y Z : Type 0} (f : Y → Z) (g : X → Z) (xs : List X) (i : ℕ) (d : X) (old new : List Y) (y : Y) →
    i < length xs → new ≡ old ++ y ∷ [] → map f old ≡ map g (take i xs) → f y ≡ g (get_or xs i d) →
    map f new ≡ map g (take (i + 1) xs)
seen_more f g xs i d old new y within is before now =
    ap (map f) is ∙ (map-append f old (y ∷ []) ∙ (ap₂ (λ zs z. zs ++ z ∷ []) before now ∙
    sym (ap (map g) (take_more xs i d within) ∙ map-append g (take i xs) (get_or xs i d ∷ []))))

pub loop-point-preserved : goal.loop-point-preserved
loop-point-preserved g c = record {
  points = seen_more head_point point_of c.args.points.now c.loop-point.point-index _ c.loop-point.heads.items
      c.push.new.self.items c.flag_head.result c.loop-point-test.true c.in_ok-push.ensures.items
      c.loop-point.invariant.points c.flag_head.ensures.point;
  flags = All-same (IsBuiltFlag g.H.TreeHash.digest c.args.store.now) _ _ c.in_ok-push.ensures.items
      (All-push (IsBuiltFlag g.H.TreeHash.digest c.args.store.now) _ _ c.loop-point.invariant.flags
      c.flag_head.ensures.flag);
}

pub returns-clause-points : goal.returns-clause-points
returns-clause-points g c =
    c.loop-point.invariant.points ∙
    ap (map point_of) (take_all c.loop-point.point-index c.args.points.now c.loop-point-test.false)

pub returns-in_err-heads : goal.returns-in_err-heads
returns-in_err-heads g c = record {
  points = IfOk-from_err _ _ c.from_residual.ensures.0;
  flags = IfOk-from_err _ _ c.from_residual.ensures.0;
}

pub returns-in_err-push : goal.returns-in_err-push
returns-in_err-push g c = record {
  points = IfOk-from_err _ _ c.from_residual-in_err-push.ensures.0;
  flags = IfOk-from_err _ _ c.from_residual-in_err-push.ensures.0;
}
