use Rattle.std.proofs.Common.{drop}
use Rattle.mirror_trees.specs.Best.{AreLeavesOf, IsBestOf}
use Rattle.mirror_trees.proofs.best.best_leaves.Given as goal

-- the best so far is the best of those from here on, with its leaves
abbrev pub invariant-loop-at : goal.invariant-loop-at
invariant-loop-at g l = record {
  best : IsBestOf g.H.TreeHash.digest l.store (drop l.at l.kept) l.best;
  leaves : AreLeavesOf g.H.TreeHash.digest l.store l.best l.leaves;
}
