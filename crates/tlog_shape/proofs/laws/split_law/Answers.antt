use Rattle.tlog_shape.proofs.Splits.{split_is_split}
use Rattle.tlog_shape.proofs.laws.split_law.Goals as goal

pub returns : goal.returns
returns c = split_is_split
