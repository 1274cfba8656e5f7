use Rattle.std.proofs.Common.{sym, ap, ◌∙◌}
use Rattle.std.specs.FinSet as set
use Rattle.mirror_trees.proofs.Marking.{count_points}
use Rattle.mirror_trees.proofs.marks.Marks.len.Goals as goal

pub returns : goal.returns
returns c =
    c.len.ensures.len ∙ sym (count_points c.self.inside.points.keys c.len.ensures.unique) ∙
    ap (λ s. set.len s) c.self.view_is
