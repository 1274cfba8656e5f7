use Rattle.copy_follow.proofs.Roots.{brought_root}
use Rattle.copy_follow.proofs.copy_laws.root_law.Goals as goal

pub returns : goal.returns
returns c = brought_root
