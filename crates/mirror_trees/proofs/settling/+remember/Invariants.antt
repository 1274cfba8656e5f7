use Rattle.mirror_trees.proofs.settling.+remember.Given as goal

abbrev pub decreases-remember : goal.decreases-remember
decreases-remember g l = l.size
