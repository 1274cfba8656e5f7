use Rattle.tlog_proof.proofs.Lengths.{paths_are_short}
use Rattle.tlog_proof.proofs.laws.path_length_law.Goals as goal

pub returns : goal.returns
returns c = paths_are_short
