use Rattle.mirror_model.proofs.Examples.{is_three, has_edges, has_roots, has_parts}
use Rattle.mirror_model.proofs.laws.examples.trees_example.Goals as goal

pub returns-clause-three : goal.returns-clause-three
returns-clause-three c = is_three

pub returns-clause-edges : goal.returns-clause-edges
returns-clause-edges c = has_edges

pub returns-clause-roots : goal.returns-clause-roots
returns-clause-roots c = has_roots

pub returns-clause-parts : goal.returns-clause-parts
returns-clause-parts c = has_parts
