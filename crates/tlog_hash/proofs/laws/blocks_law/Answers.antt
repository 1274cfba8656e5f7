use Rattle.tlog_hash.proofs.TreeLaws.{tree_of_blocks}
use Rattle.tlog_hash.proofs.laws.blocks_law.Goals as goal

pub returns : goal.returns
returns c = tree_of_blocks
