use Rattle.state_commands.proofs.PutNotes.{notes_stand}
use Rattle.state_commands.proofs.laws.standing_notes_law.Goals as goal

pub returns : goal.returns
returns c = notes_stand
