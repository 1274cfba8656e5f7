use Rattle.mirror_files.proofs.OneLoad.{one_load}
use Rattle.mirror_files.proofs.load_laws.load_law.Goals as goal

pub returns : goal.returns
returns c = one_load
