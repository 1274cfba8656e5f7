use Rattle.std.proofs.Common.{drop}
use Rattle.mirror_trees.specs.Best.{IsBestOf}
use Rattle.mirror_trees.proofs.best.best_of.Given as goal

-- the best so far is the best of those from here on
abbrev pub invariant-loop-at : goal.invariant-loop-at
invariant-loop-at g l = IsBestOf g.H.TreeHash.digest l.store (drop l.at l.kept) l.best
