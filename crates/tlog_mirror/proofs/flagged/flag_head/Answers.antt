use Rattle.std.proofs.Common.{refl}
use Rattle.tlog_mirror.proofs.flagged.flag_head.Goals as goal

pub returns-clause-point : goal.returns-clause-point
returns-clause-point g c = refl
