use Rattle.mirror_model.proofs.TreeLaws.{full_row_joins}
use Rattle.mirror_model.proofs.laws.tiles.full_row_law.Goals as goal

pub returns : goal.returns
returns c = full_row_joins
