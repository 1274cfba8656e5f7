use Rattle.tlog_checkpoint.proofs.OneAnswer.{one_answer}
use Rattle.tlog_checkpoint.proofs.laws.one_answer_law.Goals as goal

pub returns : goal.returns
returns c = one_answer
