use Rattle.mirror_files.proofs.UpdateMoments.{updates_stay_whole}
use Rattle.mirror_files.proofs.update_laws.update_law.Goals as goal

pub returns : goal.returns
returns c = updates_stay_whole
