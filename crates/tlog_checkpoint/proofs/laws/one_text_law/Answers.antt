use Rattle.tlog_checkpoint.proofs.Uniqueness.{one_text}
use Rattle.tlog_checkpoint.proofs.laws.one_text_law.Goals as goal

pub returns : goal.returns
returns c = one_text
