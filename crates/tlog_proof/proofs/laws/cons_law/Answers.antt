use Rattle.tlog_proof.proofs.Readers.{cons_equations}
use Rattle.tlog_proof.proofs.laws.cons_law.Goals as goal

pub returns : goal.returns
returns c = cons_equations
