use Rattle.tlog_hash.proofs.TreeLaws.{mth_is_tree_hash}
use Rattle.tlog_hash.proofs.laws.tree_hash_law.Goals as goal

pub returns : goal.returns
returns c = mth_is_tree_hash
