use Rattle.tlog_text.proofs.Hashes.{hashes_are_spelled}
use Rattle.tlog_text.proofs.laws.hash_spelling_law.Goals as goal

pub returns : goal.returns
returns c = hashes_are_spelled
