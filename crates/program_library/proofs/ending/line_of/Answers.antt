use Rattle.std.proofs.Common.{codes, refl}
use Rattle.program_library.proofs.ending.line_of.Goals as goal

pub returns-in-Err : goal.returns-in-Err
returns-in-Err c = (codes "OutOfMemory", refl)
