use Rattle.mirror_trees.proofs.Settles.{settled_stays}
use Rattle.mirror_trees.proofs.laws.settled_law.Goals as goal

pub returns : goal.returns
returns c = settled_stays
