use Rattle.mirror_folders.proofs.NewFiles.{files_since_are_new}
use Rattle.mirror_folders.proofs.laws.files_since_law.Goals as goal

pub returns : goal.returns
returns c = files_since_are_new
