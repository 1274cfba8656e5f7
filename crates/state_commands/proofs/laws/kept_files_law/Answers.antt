use Rattle.state_commands.proofs.PutNotes.{kept_files}
use Rattle.state_commands.proofs.laws.kept_files_law.Goals as goal

pub returns : goal.returns
returns c = kept_files
