use Rattle.tlog_proof.proofs.Readers.{incl_equations}
use Rattle.tlog_proof.proofs.laws.incl_law.Goals as goal

pub returns : goal.returns
returns c = incl_equations
