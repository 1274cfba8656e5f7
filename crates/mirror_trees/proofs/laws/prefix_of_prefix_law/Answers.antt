use Rattle.mirror_trees.proofs.PrefixSteps.{prefix_of_prefix}
use Rattle.mirror_trees.proofs.laws.prefix_of_prefix_law.Goals as goal

pub returns : goal.returns
returns c = prefix_of_prefix
