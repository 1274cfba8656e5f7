use Rattle.tlog_checkpoint.proofs.Written.{each_written}
use Rattle.tlog_checkpoint.proofs.laws.written_law.Goals as goal

pub returns : goal.returns
returns c = each_written
