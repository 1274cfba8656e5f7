use Rattle.std.proofs.Common.{length}
use Rattle.tlog_hash.proofs.tree.+add_pairs.Given as goal

abbrev pub decreases-add_pairs : goal.decreases-add_pairs
decreases-add_pairs g l = length l.row.now
