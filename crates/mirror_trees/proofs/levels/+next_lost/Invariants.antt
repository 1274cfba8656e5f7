use Rattle.mirror_trees.proofs.levels.+next_lost.Given as goal

abbrev pub decreases-next_lost : goal.decreases-next_lost
decreases-next_lost g l = l.size
