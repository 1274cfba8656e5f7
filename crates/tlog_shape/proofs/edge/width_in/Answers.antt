use Rattle.std.proofs.Common.{◌+◌, ◌^◌, ◌∙◌, sym, inl, inr, arith}
use Rattle.tlog_shape.proofs.Levels.{level_positive}
use Rattle.tlog_shape.proofs.Edges.{fits-index}
use Rattle.tlog_shape.proofs.edge.width_in.Goals as goal
use Rattle.tlog_shape.proofs.edge.width_in.Goals.{else-index-full-2-via-then-index-full-2+else-width-gt0}
use Rattle.tlog_shape.proofs.edge.width_in.Goals.{else-index-full-2-via-else-index-full-2}

pub returns-else-index-full-2-clause-none : goal.returns-else-index-full-2-clause-none
returns-else-index-full-2-clause-none c =
    λ width tile.
    elim tile [
      | inl full ↦
          let below =
          fits-index c.args.index c.args.n (256 ^ (c.args.level + 1))
          (level_positive (c.args.level + 1)) full.fits in
          omega (arith, below, c.edge_index-full.ensures, c.if-index-full.false)
      | inr partial ↦
          elim c.else-index-full-2.branch [
            | else-index-full-2-via-then-index-full-2+else-width-gt0 w ↦ omega
                (arith, partial.width_is, partial.some, c.edge_width-width.ensures, w.if-width-gt0.false)
            | else-index-full-2-via-else-index-full-2 w ↦ absurd
                (w.if-index-full-2.false (partial.index_is ∙ sym c.edge_index-full.ensures))
          ]
    ]
