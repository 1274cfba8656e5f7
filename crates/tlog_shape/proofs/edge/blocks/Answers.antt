use Rattle.std.proofs.Common.{◌/◌, sym, ap}
use Rattle.tlog_shape.proofs.Levels.{level_power}
use Rattle.tlog_shape.proofs.edge.blocks.Goals as goal

pub returns : goal.returns
returns c = ap (λ m. c.args.n / m) (sym (level_power c.args.level))
