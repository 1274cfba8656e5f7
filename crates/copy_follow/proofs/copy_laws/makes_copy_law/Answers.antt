use Rattle.copy_follow.proofs.CopyMoments.{bringing_makes_copy}
use Rattle.copy_follow.proofs.copy_laws.makes_copy_law.Goals as goal

pub returns : goal.returns
returns c = bringing_makes_copy
