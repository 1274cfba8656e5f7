use Rattle.mirror_model.proofs.Walks.{walk_is_front}
use Rattle.mirror_model.proofs.TreeLaws.{missing_is_front}
use Rattle.mirror_model.proofs.MissingPaths.{missing_is_of_size}
use Rattle.mirror_model.proofs.laws.fronts.walk_law.Goals as goal

pub returns-clause-nodes : goal.returns-clause-nodes
returns-clause-nodes c = walk_is_front

pub returns-clause-paths : goal.returns-clause-paths
returns-clause-paths c = missing_is_front

pub returns-clause-kinds : goal.returns-clause-kinds
returns-clause-kinds c = missing_is_of_size
