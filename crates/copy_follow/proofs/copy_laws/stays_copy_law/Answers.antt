use Rattle.copy_follow.proofs.CopyMoments.{bringing_stays_copy}
use Rattle.copy_follow.proofs.copy_laws.stays_copy_law.Goals as goal

pub returns : goal.returns
returns c = bringing_stays_copy
