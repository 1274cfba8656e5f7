use Rattle.std.proofs.Common.{rules}
use Rattle.tlog_mirror.proofs.mirror.Mirror.remembered.Goals as goal

pub returns : goal.returns
returns g c = search rules
