use Rattle.std.proofs.Common.{◌≡◌, ◌<◌, ◌^◌, ◌+◌, ℕ, zero, suc, arith}
use Rattle.tlog_shape.specs.Edge.{IsTop}
use Rattle.tlog_shape.proofs.Edges.{top_found, top_lowest}
use Rattle.tlog_shape.proofs.edge.top_level.Goals as goal

pub returns-else-edge_width-eq0 : goal.returns-else-edge_width-eq0
returns-else-edge_width-eq0 c =
    top_found c.args.n c.loop-level.level c.loop-level.invariant.within c.loop-level.invariant.below
    (omega (arith, c.edge_width.ensures, c.if-edge_width-eq0.false))

lowest : (n level : ℕ) → level ≡ 0 → n < 256 ^ (level + 1) → IsTop n level
lowest n zero is below = top_lowest n below
lowest n (suc level) is below = absurd (omega (arith, is))

pub returns-after-loop-level : goal.returns-after-loop-level
returns-after-loop-level c =
    lowest c.args.n c.loop-level.level (omega (arith, c.loop-level-test.false)) c.loop-level.invariant.below
