use Rattle.program_copies.proofs.MirrorProofs.{proves_as_mirror}
use Rattle.program_copies.proofs.laws.proofs_law.Goals as goal

pub returns : goal.returns
returns c = proves_as_mirror
