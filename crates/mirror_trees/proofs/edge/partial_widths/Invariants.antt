use Rattle.std.proofs.Common.{◌≡◌}
use Rattle.mirror_trees.proofs.EdgeRows.{widths_below}
use Rattle.mirror_trees.proofs.edge.partial_widths.Given as goal

-- the widths of the levels so far
abbrev pub invariant-loop-level : goal.invariant-loop-level
invariant-loop-level l = l.widths.items ≡ widths_below l.size l.level
