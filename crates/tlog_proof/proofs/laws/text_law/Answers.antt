use Rattle.tlog_proof.proofs.Spelling.{has_one_spelling}
use Rattle.tlog_proof.proofs.laws.text_law.Goals as goal

pub returns : goal.returns
returns c = has_one_spelling
