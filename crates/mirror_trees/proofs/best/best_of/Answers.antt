use Rattle.std.proofs.Common.{◌≡◌, true, inl, inr}
use Rattle.mirror_trees.proofs.BestNotes.{better_at, no_better_at, best_of_all}
use Rattle.mirror_trees.proofs.best.best_of.Goals as goal
use Rattle.mirror_trees.proofs.best.best_of.Goals.{else-is_ahead-via-then-is_ahead+else-is_built}
use Rattle.mirror_trees.proofs.best.best_of.Goals.{else-is_ahead-via-else-is_ahead}

pub loop-at-preserved-then-is_built : goal.loop-at-preserved-then-is_built
loop-at-preserved-then-is_built g c =
    better_at g.H.TreeHash.digest c.args.store.now c.args.kept.now c.loop-at.at c.index-kept-at.result
    c.loop-at-test.true c.loop-at.auto.at c.index-kept-at.is c.loop-at.best c.loop-at.invariant
    (c.is_ahead.ensures.0 c.if-is_ahead.true) (c.is_built.ensures.0 c.if-is_built.true)

pub loop-at-preserved : goal.loop-at-preserved
loop-at-preserved g c =
    no_better_at g.H.TreeHash.digest c.args.store.now c.args.kept.now c.loop-at.at c.index-kept-at.result
    c.loop-at-test.true c.loop-at.auto.at c.index-kept-at.is c.loop-at.best c.loop-at.invariant
    (elim c.else-is_ahead.branch [
      | else-is_ahead-via-then-is_ahead+else-is_built w ↦ inr
          (λ built. let yes : w.is_built.result ≡ true = w.is_built.ensures.1 built in cc (yes, w.if-is_built.false))
      | else-is_ahead-via-else-is_ahead w ↦ inl
          (λ ahead. let yes : c.is_ahead.result ≡ true = c.is_ahead.ensures.1 ahead in cc (yes, w.if-is_ahead.false))
    ])

pub returns : goal.returns
returns g c =
    best_of_all g.H.TreeHash.digest c.args.store.now c.args.kept.now c.loop-at.at c.loop-at.best c.loop-at-test.false
    c.loop-at.invariant
