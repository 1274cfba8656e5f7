use Rattle.mirror_trees.proofs.counting.+count_lost.Given as goal

abbrev pub decreases-count_lost : goal.decreases-count_lost
decreases-count_lost g l = l.size
