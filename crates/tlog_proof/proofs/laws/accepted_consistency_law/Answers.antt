use Rattle.tlog_proof.proofs.ConsistencySound.{accepted_consistency_shows}
use Rattle.tlog_proof.proofs.laws.accepted_consistency_law.Goals as goal

pub returns : goal.returns
returns c = accepted_consistency_shows
