use Rattle.tlog_proof.proofs.Subproofs.{proof_equations}
use Rattle.tlog_proof.proofs.laws.proof_law.Goals as goal

pub returns : goal.returns
returns c = proof_equations
