use Rattle.std.proofs.Common.{◌-◌}
use Rattle.log_reader.proofs.walk.+go_to.Given as goal

abbrev pub decreases-go_to : goal.decreases-go_to
decreases-go_to g l = 7 - l.level
