use Rattle.tlog_tiles.proofs.TileLemmas.{row_folds}
use Rattle.tlog_tiles.proofs.laws.row_fold_law.Goals as goal

pub returns : goal.returns
returns c = row_folds
