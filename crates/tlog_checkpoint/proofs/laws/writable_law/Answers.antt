use Rattle.tlog_checkpoint.proofs.Uniqueness.{reads_writable}
use Rattle.tlog_checkpoint.proofs.laws.writable_law.Goals as goal

pub returns : goal.returns
returns c = reads_writable
