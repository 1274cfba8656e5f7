use Rattle.mirror_files.proofs.OneLoad.{texts_are_loaded}
use Rattle.mirror_files.proofs.load_laws.loaded_text_law.Goals as goal

pub returns : goal.returns
returns c = texts_are_loaded
