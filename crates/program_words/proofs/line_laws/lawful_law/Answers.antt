use Rattle.program_words.proofs.CommandLaws.{lawful_one, one_asked}
use Rattle.program_words.proofs.line_laws.lawful_law.Goals as goal

pub returns : goal.returns
returns c = record { named = lawful_one; one = one_asked }
