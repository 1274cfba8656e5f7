use Rattle.mirror_trees.proofs.marks.Marks.new.Goals as goal

pub returns : goal.returns
returns c = cc
