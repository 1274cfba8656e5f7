use Rattle.std.proofs.Common.{◌≡◌, true, inl, inr}
use Rattle.mirror_trees.proofs.FileSteps.{at_none}
use Rattle.mirror_trees.proofs.LeafRows.{at_some}
use Rattle.mirror_trees.specs.HeldLeaves.{HasLeaves, entries_of}
use Rattle.mirror_trees.proofs.BestNotes.{better_at, no_better_at, best_of_all}
use Rattle.mirror_trees.proofs.best.best_leaves.Goals as goal

pub loop-at-preserved-in-Some : goal.loop-at-preserved-in-Some
loop-at-preserved-in-Some g c =
    let one = c.index-kept-at.result in
    let has : HasLeaves g.H.TreeHash.digest c.args.store.now one.size one.root c.in-Some.found =
    at_some c.in_ok-found.field-0 c.in-Some.found (HasLeaves g.H.TreeHash.digest c.args.store.now one.size one.root)
    c.in-Some.is c.in_ok-found.ensures.some in
    record {
      best = better_at g.H.TreeHash.digest c.args.store.now c.args.kept.now c.loop-at.at one c.loop-at-test.true
          c.loop-at.auto.at c.index-kept-at.is c.loop-at.best c.loop-at.invariant.best
          (c.is_ahead.ensures.0 c.if-is_ahead.true) (record { entries = entries_of c.in-Some.found; is = has.tree });
      leaves = has;
    }

pub loop-at-preserved-in_default : goal.loop-at-preserved-in_default
loop-at-preserved-in_default g c = record {
  best = no_better_at g.H.TreeHash.digest c.args.store.now c.args.kept.now c.loop-at.at c.index-kept-at.result
      c.loop-at-test.true c.loop-at.auto.at c.index-kept-at.is c.loop-at.best c.loop-at.invariant.best
      (inr (at_none c.in_ok-found.field-0 _ c.in_default.is c.in_ok-found.ensures.none));
  leaves = c.loop-at.invariant.leaves;
}

pub loop-at-preserved : goal.loop-at-preserved
loop-at-preserved g c = record {
  best = no_better_at g.H.TreeHash.digest c.args.store.now c.args.kept.now c.loop-at.at c.index-kept-at.result
      c.loop-at-test.true c.loop-at.auto.at c.index-kept-at.is c.loop-at.best c.loop-at.invariant.best
      (inl (λ ahead. let yes : c.is_ahead.result ≡ true = c.is_ahead.ensures.1 ahead in
      cc (yes, c.if-is_ahead.false)));
  leaves = c.loop-at.invariant.leaves;
}

pub returns-clause-best : goal.returns-clause-best
returns-clause-best g c =
    best_of_all g.H.TreeHash.digest c.args.store.now c.args.kept.now c.loop-at.at c.loop-at.best c.loop-at-test.false
    c.loop-at.invariant.best
