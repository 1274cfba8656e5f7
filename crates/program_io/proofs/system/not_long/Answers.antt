use Rattle.std.proofs.Common.{arith}
use Rattle.program_io.proofs.system.not_long.Goals as goal

pub returns : goal.returns
returns c = omega arith
