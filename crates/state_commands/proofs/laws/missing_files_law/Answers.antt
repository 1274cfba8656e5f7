use Rattle.state_commands.proofs.PutNotes.{puts_missing}
use Rattle.state_commands.proofs.laws.missing_files_law.Goals as goal

pub returns : goal.returns
returns c = puts_missing
