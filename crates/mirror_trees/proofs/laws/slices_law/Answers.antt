use Rattle.mirror_trees.proofs.Settles.{marks_are_slices}
use Rattle.mirror_trees.proofs.laws.slices_law.Goals as goal

pub returns : goal.returns
returns c = marks_are_slices
