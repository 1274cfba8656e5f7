use Rattle.tlog_proof.proofs.Inclusions.{accepted_inclusion_shows}
use Rattle.tlog_proof.proofs.laws.accepted_inclusion_law.Goals as goal

pub returns : goal.returns
returns c = accepted_inclusion_shows
