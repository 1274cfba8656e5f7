use Rattle.mirror_trees.proofs.ServedParts.{proofs_are_served, top_has_served}
use Rattle.mirror_trees.proofs.served_laws.served_list_law.Goals as goal

pub returns-clause-list : goal.returns-clause-list
returns-clause-list c = top_has_served

pub returns-clause-proofs : goal.returns-clause-proofs
returns-clause-proofs c = proofs_are_served
