use Rattle.log_reader.proofs.Truths.{shown_rows_are_true}
use Rattle.log_reader.proofs.laws.shown_rows_law.Goals as goal

pub returns : goal.returns
returns c = shown_rows_are_true
