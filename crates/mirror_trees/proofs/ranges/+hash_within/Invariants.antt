use Rattle.std.proofs.Common.{◌+◌}
use Rattle.mirror_trees.proofs.ranges.+hash_within.Given as goal

abbrev pub decreases-hash_within : goal.decreases-hash_within
decreases-hash_within g l = l.size + l.len
