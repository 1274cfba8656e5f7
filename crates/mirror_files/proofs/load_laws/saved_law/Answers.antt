use Rattle.mirror_files.proofs.OneLoad.{saved_is_loaded}
use Rattle.mirror_files.proofs.load_laws.saved_law.Goals as goal

pub returns : goal.returns
returns c = saved_is_loaded
