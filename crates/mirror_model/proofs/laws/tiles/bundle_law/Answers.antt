use Rattle.mirror_model.proofs.TreeLaws.{bundle_strings}
use Rattle.mirror_model.proofs.laws.tiles.bundle_law.Goals as goal

pub returns : goal.returns
returns c = bundle_strings
