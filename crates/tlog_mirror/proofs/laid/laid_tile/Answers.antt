use Rattle.std.proofs.Common.{◌∙◌}
use Rattle.tlog_mirror.proofs.laid.laid_tile.Goals as goal

pub returns-in-Ok-clause-some : goal.returns-in-Ok-clause-some
returns-in-Ok-clause-some g c = c.in-Ok.ensures.items ∙ c.in-Some.ensures.some

pub returns-in-Ok-clause-within : goal.returns-in-Ok-clause-within
returns-in-Ok-clause-within g c = c.in-Some.ensures.within

pub returns-in_default-clause-none : goal.returns-in_default-clause-none
returns-in_default-clause-none g c = c.in_default.ensures.none
