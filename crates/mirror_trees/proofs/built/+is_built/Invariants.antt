use Rattle.mirror_trees.proofs.built.+is_built.Given as goal

abbrev pub decreases-is_built : goal.decreases-is_built
decreases-is_built g l = l.size
