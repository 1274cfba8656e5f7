use Rattle.tlog_proof.proofs.ConsistenciesMade.{made_consistency_holds}
use Rattle.tlog_proof.proofs.laws.made_consistency_law.Goals as goal

pub returns : goal.returns
returns c = made_consistency_holds
