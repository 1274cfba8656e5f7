use Rattle.std.proofs.Common.{length}
use Rattle.mirror_trees.proofs.building.+add_part.Given as goal

abbrev pub decreases-add_part : goal.decreases-add_part
decreases-add_part g l = length l.entries.now
