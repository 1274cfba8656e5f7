use Rattle.std.proofs.Common.{◌≤◌, ◌+◌, ◌^◌}
use Rattle.mirror_trees.proofs.missing.level_of.Given as goal

abbrev pub invariant-loop-level : goal.invariant-loop-level
invariant-loop-level l = record { within : l.level ≤ 7; upto : l.size ≤ 256 ^ (l.level + 1) }

abbrev pub decreases-loop-level : goal.decreases-loop-level
decreases-loop-level l = l.level
