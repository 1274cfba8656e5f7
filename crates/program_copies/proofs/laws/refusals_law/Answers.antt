use Rattle.program_copies.proofs.AsMirror.{refuses_as_mirror}
use Rattle.program_copies.proofs.laws.refusals_law.Goals as goal

pub returns : goal.returns
returns c = refuses_as_mirror
