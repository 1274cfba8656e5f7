use Rattle.mirror_files.proofs.OneText.{text_is_one}
use Rattle.mirror_files.proofs.text_laws.state_text_law.Goals as goal

pub returns : goal.returns
returns c = text_is_one
