use Rattle.mirror_model.proofs.EdgeRoots.{edge_root_is}
use Rattle.mirror_model.proofs.laws.edges.edge_root_law.Goals as goal

pub returns : goal.returns
returns c = edge_root_is
