use Rattle.std.proofs.Common.{◌≡◌, ap, ◌∙◌, arith}
use Rattle.mirror_trees.proofs.EdgeRows.{widths_below, widths_below_all}
use Rattle.mirror_trees.proofs.edge.partial_widths.Goals as goal

pub returns : goal.returns
returns c =
    let all : c.loop-level.level ≡ 8 = omega arith in
    c.loop-level.invariant ∙ ap (widths_below c.args.size) all ∙ widths_below_all c.args.size
