use Rattle.mirror_trees.proofs.missing.+push_lost.Given as goal

abbrev pub decreases-push_lost : goal.decreases-push_lost
decreases-push_lost g l = l.size
