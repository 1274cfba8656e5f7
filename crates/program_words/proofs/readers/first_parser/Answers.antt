use Rattle.program_words.specs.Program.{program_app}
use Rattle.program_words.proofs.readers.first_parser.Goals as goal

pub returns : goal.returns
returns c = c.with_commands.ensures program_app c.program_parser.ensures
