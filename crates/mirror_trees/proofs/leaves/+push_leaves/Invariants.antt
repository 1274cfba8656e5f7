use Rattle.mirror_trees.proofs.leaves.+push_leaves.Given as goal

abbrev pub decreases-push_leaves : goal.decreases-push_leaves
decreases-push_leaves g l = l.size
