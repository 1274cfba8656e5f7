use Rattle.copy_follow.proofs.MendedFiles.{repair_keeps_true}
use Rattle.copy_follow.proofs.copy_laws.repair_keeps_law.Goals as goal

pub returns : goal.returns
returns c = repair_keeps_true
