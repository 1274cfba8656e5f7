use Rattle.std.proofs.Common.{◌-◌}
use Rattle.mirror_trees.proofs.holding.+holds_edge_from.Given as goal

abbrev pub decreases-holds_edge_from : goal.decreases-holds_edge_from
decreases-holds_edge_from g l = 8 - l.level
