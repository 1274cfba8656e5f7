use Rattle.std.proofs.Common.{refl}
use Rattle.tlog_proof.proofs.path.HashPath.new.Goals as goal

pub returns : goal.returns
returns c = refl
