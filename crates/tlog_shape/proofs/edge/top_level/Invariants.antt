use Rattle.std.proofs.Common.{◌≤◌, ◌<◌, ◌+◌, ◌^◌}
use Rattle.tlog_shape.proofs.edge.top_level.Given as goal

abbrev pub invariant-loop-level : goal.invariant-loop-level
invariant-loop-level l = record { within : l.level ≤ 7; below : l.n < 256 ^ (l.level + 1) }

abbrev pub decreases-loop-level : goal.decreases-loop-level
decreases-loop-level l = l.level
