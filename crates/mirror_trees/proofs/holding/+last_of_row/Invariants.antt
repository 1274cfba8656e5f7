use Rattle.mirror_trees.proofs.holding.+last_of_row.Given as goal

abbrev pub decreases-last_of_row : goal.decreases-last_of_row
decreases-last_of_row g l = l.count
