use Rattle.tlog_checkpoint.proofs.Decided.{each_answered}
use Rattle.tlog_checkpoint.proofs.laws.each_answered_law.Goals as goal

pub returns : goal.returns
returns c = each_answered
