use Rattle.tlog_tiles.proofs.EdgeLemmas.{edge_rises}
use Rattle.tlog_tiles.proofs.laws.edge_order_law.Goals as goal

pub returns : goal.returns
returns c = edge_rises
