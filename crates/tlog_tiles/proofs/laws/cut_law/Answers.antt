use Rattle.tlog_tiles.proofs.Cuts.{cuts_are_first}
use Rattle.tlog_tiles.proofs.laws.cut_law.Goals as goal

pub returns : goal.returns
returns c = cuts_are_first
