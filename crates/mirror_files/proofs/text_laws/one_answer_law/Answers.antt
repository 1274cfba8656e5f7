use Rattle.mirror_files.proofs.OneText.{text_has_one_answer}
use Rattle.mirror_files.proofs.text_laws.one_answer_law.Goals as goal

pub returns : goal.returns
returns c = text_has_one_answer
