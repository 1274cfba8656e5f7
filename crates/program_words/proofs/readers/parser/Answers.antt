use Rattle.program_words.specs.Program.{second_app}
use Rattle.program_words.proofs.readers.parser.Goals as goal

pub returns : goal.returns
returns c = c.with_commands.ensures second_app c.second_parser.ensures
