use Rattle.mirror_trees.proofs.prefix.+is_prefix.Given as goal

abbrev pub decreases-is_prefix : goal.decreases-is_prefix
decreases-is_prefix g l = l.large.0
