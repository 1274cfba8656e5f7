use Rattle.mirror_trees.proofs.levels.+note_clear.Given as goal

abbrev pub decreases-note_clear : goal.decreases-note_clear
decreases-note_clear g l = l.size
