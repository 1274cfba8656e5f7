use Rattle.std.proofs.Common.{◌∙◌}
use Rattle.std.specs.FinSet as set
use Rattle.mirror_trees.proofs.Marking.{add_point}
use Rattle.mirror_trees.specs.Marked.{point_of}
use Rattle.mirror_trees.proofs.marks.Marks.add.Goals as goal

pub returns-clause-ok : goal.returns-clause-ok
returns-clause-ok c =
    add_point c.self.inside.points.keys c.insert.new.self.keys c.new.result c.in-Ok.ensures.updates.0
    ∙ (λ i. set.insert (c.self.view_is i) (point_of (c.new.ensures i)))
