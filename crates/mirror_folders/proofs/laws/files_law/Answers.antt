use Rattle.mirror_folders.proofs.AllFiles.{files_are_all}
use Rattle.mirror_folders.proofs.laws.files_law.Goals as goal

pub returns : goal.returns
returns c = files_are_all
