use Rattle.mirror_trees.proofs.built.+check_built.Given as goal

abbrev pub decreases-check_built : goal.decreases-check_built
decreases-check_built g l = l.size
