use Rattle.mirror_model.proofs.OneEdge.{edge_is_one, lawful_edge_is_true}
use Rattle.mirror_model.proofs.laws.edges.lawful_edge_law.Goals as goal

pub returns-clause-one : goal.returns-clause-one
returns-clause-one c = edge_is_one

pub returns-clause-of_entries : goal.returns-clause-of_entries
returns-clause-of_entries c = lawful_edge_is_true
