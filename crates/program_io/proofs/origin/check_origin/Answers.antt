use Rattle.std.proofs.Common.{rules}
use Rattle.program_io.proofs.origin.check_origin.Goals as goal

pub returns-clause-lawful : goal.returns-clause-lawful
returns-clause-lawful c = search rules
