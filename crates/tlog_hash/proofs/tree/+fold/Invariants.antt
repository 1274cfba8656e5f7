use Rattle.std.proofs.Common.{length}
use Rattle.tlog_hash.proofs.tree.+fold.Given as goal

abbrev pub decreases-fold : goal.decreases-fold
decreases-fold g l = length l.row.now
