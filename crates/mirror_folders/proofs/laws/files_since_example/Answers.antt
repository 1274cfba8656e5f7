use Rattle.mirror_folders.proofs.NewFiles.{files_of_steps}
use Rattle.mirror_folders.proofs.laws.files_since_example.Goals as goal

pub returns : goal.returns
returns c = files_of_steps
