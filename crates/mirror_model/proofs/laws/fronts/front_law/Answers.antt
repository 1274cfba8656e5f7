use Rattle.mirror_model.proofs.TreeLaws.{front_is_empty}
use Rattle.mirror_model.proofs.laws.fronts.front_law.Goals as goal

pub returns : goal.returns
returns c = front_is_empty
