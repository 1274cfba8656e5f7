use Rattle.tlog_hash.proofs.TreeLaws.{fold_is_fold}
use Rattle.tlog_hash.proofs.laws.fold_law.Goals as goal

pub returns : goal.returns
returns c = fold_is_fold
