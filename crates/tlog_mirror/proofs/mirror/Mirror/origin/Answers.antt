use Rattle.std.proofs.Common.{rules}
use Rattle.tlog_mirror.proofs.mirror.Mirror.origin.Goals as goal

pub returns : goal.returns
returns g c = search rules
