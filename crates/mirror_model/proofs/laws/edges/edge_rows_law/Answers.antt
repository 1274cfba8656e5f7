use Rattle.mirror_model.proofs.EdgeRoots.{edge_rows_wide}
use Rattle.mirror_model.proofs.laws.edges.edge_rows_law.Goals as goal

pub returns : goal.returns
returns c = edge_rows_wide
