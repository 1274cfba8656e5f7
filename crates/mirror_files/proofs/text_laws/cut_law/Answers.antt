use Rattle.mirror_files.proofs.OneText.{text_not_cut}
use Rattle.mirror_files.proofs.text_laws.cut_law.Goals as goal

pub returns : goal.returns
returns c = text_not_cut
