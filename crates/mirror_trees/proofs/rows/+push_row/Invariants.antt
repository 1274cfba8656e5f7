use Rattle.mirror_trees.proofs.rows.+push_row.Given as goal

abbrev pub decreases-push_row : goal.decreases-push_row
decreases-push_row g l = l.size
