use Rattle.std.proofs.Common.{◌-◌}
use Rattle.mirror_trees.proofs.holding.+value_below.Given as goal

abbrev pub decreases-value_below : goal.decreases-value_below
decreases-value_below g l = 8 - l.level
