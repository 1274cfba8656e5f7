use Rattle.signed_note.proofs.OneReading.{one_answer}
use Rattle.signed_note.proofs.laws.one_answer_law.Goals as goal

pub returns : goal.returns
returns c = one_answer
