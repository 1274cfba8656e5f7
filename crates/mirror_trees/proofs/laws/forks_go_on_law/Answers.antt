use Rattle.mirror_trees.proofs.PrefixSteps.{forks_go_on}
use Rattle.mirror_trees.proofs.laws.forks_go_on_law.Goals as goal

pub returns : goal.returns
returns c = forks_go_on
