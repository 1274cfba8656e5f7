use Rattle.program_copies.proofs.AsMirror.{tells_as_mirror}
use Rattle.program_copies.proofs.laws.status_law.Goals as goal

pub returns : goal.returns
returns c = tells_as_mirror
