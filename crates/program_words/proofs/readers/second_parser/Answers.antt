use Rattle.program_words.specs.Program.{first_app}
use Rattle.program_words.proofs.readers.second_parser.Goals as goal

pub returns : goal.returns
returns c = c.with_commands.ensures first_app c.first_parser.ensures
