use Rattle.tlog_tiles.proofs.Cuts.{cuts_of_true}
use Rattle.tlog_tiles.proofs.laws.true_cut_law.Goals as goal

pub returns : goal.returns
returns c = cuts_of_true
