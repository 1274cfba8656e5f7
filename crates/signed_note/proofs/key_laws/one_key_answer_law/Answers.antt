use Rattle.signed_note.proofs.OneKeyFile.{one_key_answer}
use Rattle.signed_note.proofs.key_laws.one_key_answer_law.Goals as goal

pub returns : goal.returns
returns c = one_key_answer
