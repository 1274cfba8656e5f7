use Rattle.std.proofs.Common.{length}
use Rattle.tlog_hash.proofs.tree.+tree_hash.Given as goal

abbrev pub decreases-tree_hash : goal.decreases-tree_hash
decreases-tree_hash g l = length l.entries.now
