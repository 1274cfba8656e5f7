use Rattle.std.proofs.Common.{length}
use Rattle.mirror_trees.proofs.building.+add_row.Given as goal

abbrev pub decreases-add_row : goal.decreases-add_row
decreases-add_row g l = length l.row.now
