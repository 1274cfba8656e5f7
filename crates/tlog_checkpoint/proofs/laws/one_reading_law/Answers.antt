use Rattle.tlog_checkpoint.proofs.OneAnswer.{one_reading}
use Rattle.tlog_checkpoint.proofs.laws.one_reading_law.Goals as goal

pub returns : goal.returns
returns c = one_reading
