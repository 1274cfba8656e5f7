use Rattle.mirror_trees.proofs.KnownSteps.{noted}
use Rattle.mirror_trees.proofs.SliceSteps.{point_at}
use Rattle.mirror_trees.proofs.known.note_built.Goals as goal

pub returns : goal.returns
returns c =
    noted c.add.result c.args.built.now c.add.new.self (point_at c.args.size c.args.root.now) c.add.ensures.ok
    c.add.ensures.err
