use Rattle.tlog_checkpoint.proofs.OneAnswer.{only, ok_writable}
use Rattle.tlog_checkpoint.proofs.reading.read.Goals as goal

pub returns-clause-only : goal.returns-clause-only
returns-clause-only c = only c.args.text.now c.checkpoint_in.result c.checkpoint_in.ensures

pub returns-clause-writable : goal.returns-clause-writable
returns-clause-writable c = ok_writable c.args.text.now c.checkpoint_in.result c.checkpoint_in.ensures
