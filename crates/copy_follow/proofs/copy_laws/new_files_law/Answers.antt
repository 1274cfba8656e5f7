use Rattle.copy_follow.proofs.CopyMoments.{new_files_keep_copies}
use Rattle.copy_follow.proofs.copy_laws.new_files_law.Goals as goal

pub returns : goal.returns
returns c = new_files_keep_copies
