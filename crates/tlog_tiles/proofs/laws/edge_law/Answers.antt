use Rattle.tlog_tiles.proofs.EdgeLemmas.{edge_is}
use Rattle.tlog_tiles.proofs.laws.edge_law.Goals as goal

pub returns : goal.returns
returns c = edge_is
