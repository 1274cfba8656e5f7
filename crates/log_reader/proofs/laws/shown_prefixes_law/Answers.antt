use Rattle.log_reader.proofs.Prefixes.{shown_prefixes_are_true}
use Rattle.log_reader.proofs.laws.shown_prefixes_law.Goals as goal

pub returns : goal.returns
returns c = shown_prefixes_are_true
