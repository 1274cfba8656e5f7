use Rattle.mirror_model.proofs.EdgeStrings.{edge_strings_within}
use Rattle.mirror_model.proofs.laws.edges.edge_strings_law.Goals as goal

pub returns : goal.returns
returns c = edge_strings_within
