use Rattle.tlog_hash.proofs.TreeLaws.{tree_strings}
use Rattle.tlog_hash.proofs.laws.strings_law.Goals as goal

pub returns : goal.returns
returns c = tree_strings
