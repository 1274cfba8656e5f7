use Rattle.mirror_trees.proofs.MarkedTrees.{sound_is_built}
use Rattle.mirror_trees.proofs.laws.known_law.Goals as goal

pub returns : goal.returns
returns c = sound_is_built
