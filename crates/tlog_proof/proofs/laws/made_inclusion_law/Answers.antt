use Rattle.tlog_proof.proofs.Inclusions.{made_inclusion_holds}
use Rattle.tlog_proof.proofs.laws.made_inclusion_law.Goals as goal

pub returns : goal.returns
returns c = made_inclusion_holds
