use Rattle.tlog_tiles.proofs.TileLemmas.{served_is_read}
use Rattle.tlog_tiles.proofs.laws.served_law.Goals as goal

pub returns : goal.returns
returns c = served_is_read
