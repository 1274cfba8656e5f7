use Rattle.mirror_model.proofs.Examples.{is_way}
use Rattle.mirror_model.proofs.laws.examples.way_example.Goals as goal

pub returns : goal.returns
returns c = is_way
