use Rattle.mirror_files.proofs.OneText.{text_one}
use Rattle.mirror_files.proofs.text_laws.one_text_law.Goals as goal

pub returns : goal.returns
returns c = text_one
