use Rattle.tlog_text.proofs.Decimals.{numbers_are_spelled}
use Rattle.tlog_text.proofs.laws.number_spelling_law.Goals as goal

pub returns : goal.returns
returns c = numbers_are_spelled
