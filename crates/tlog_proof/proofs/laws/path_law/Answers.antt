use Rattle.tlog_proof.proofs.Paths.{path_equations}
use Rattle.tlog_proof.proofs.laws.path_law.Goals as goal

pub returns : goal.returns
returns c = path_equations
