use Rattle.program_words.proofs.CommandLaws.{check_asked, help, no_width, root_asked, version}
use Rattle.program_words.proofs.line_laws.words_example.Goals as goal

pub returns : goal.returns
returns c = record { root = root_asked; check = check_asked; no_width = no_width; help = help; version = version }
