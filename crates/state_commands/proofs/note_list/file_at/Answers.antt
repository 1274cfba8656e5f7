use Rattle.state_commands.proofs.NoteWalks.{file_found}
use Rattle.state_commands.proofs.note_list.file_at.Goals as goal

pub returns : goal.returns
returns c = file_found c.args.heads.now c.args.i _ c.file_of.result c.requires c.file_of.ensures
