use Rattle.std.proofs.Common.{refl}
use Rattle.tlog_checkpoint.proofs.text.Line.new.Goals as goal

pub returns : goal.returns
returns c = refl
