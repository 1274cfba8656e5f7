use Rattle.tlog_hash.proofs.TreeLaws.{nodes_are_strings}
use Rattle.tlog_hash.proofs.laws.nodes_law.Goals as goal

pub returns : goal.returns
returns c = nodes_are_strings
