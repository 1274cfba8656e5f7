use Rattle.mirror_model.proofs.Examples.{is_front_of_three, has_tile_outside}
use Rattle.mirror_model.proofs.laws.examples.front_example.Goals as goal

pub returns-clause-three : goal.returns-clause-three
returns-clause-three c = is_front_of_three

pub returns-clause-outside : goal.returns-clause-outside
returns-clause-outside c = has_tile_outside
