use Rattle.mirror_files.proofs.OneLoad.{old_is_saved_as_new}
use Rattle.mirror_files.proofs.load_laws.old_state_law.Goals as goal

pub returns : goal.returns
returns c = old_is_saved_as_new
