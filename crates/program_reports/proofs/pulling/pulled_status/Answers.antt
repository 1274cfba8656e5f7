use Rattle.std.proofs.Common.{refl}
use Rattle.program_reports.proofs.pulling.pulled_status.Goals as goal

pub returns-then-pulled : goal.returns-then-pulled
returns-then-pulled c = rw c.if-pulled.true refl

pub returns-else-pulled : goal.returns-else-pulled
returns-else-pulled c = rw c.if-pulled.false refl
