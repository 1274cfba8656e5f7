use Rattle.tlog_tiles.proofs.RowLemmas.{row_answer_one}
use Rattle.tlog_tiles.proofs.laws.one_row_law.Goals as goal

pub returns : goal.returns
returns c = row_answer_one
