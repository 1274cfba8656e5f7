use Rattle.signed_note.proofs.OneReading.{notes_are_read}
use Rattle.signed_note.proofs.laws.notes_law.Goals as goal

pub returns : goal.returns
returns c = notes_are_read
