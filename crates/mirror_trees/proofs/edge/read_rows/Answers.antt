use Rattle.std.proofs.Common.{arith}
use Rattle.mirror_trees.proofs.EdgeRows.{rows_more, other_width}
use Rattle.mirror_trees.proofs.edge.read_rows.Goals as goal

pub returns-in-Err-RowLength : goal.returns-in-Err-RowLength
returns-in-Err-RowLength c =
    let h = rw c.in-Err-RowLength.field-0-is at c.in-Err-RowLength.ensures in
    other_width c.args.widths.now c.args.edge.now c.loop-i.i _ (omega arith) c.requires h

pub loop-i-preserved : goal.loop-i-preserved
loop-i-preserved c =
    let more =
    rows_more c.args.edge.now c.args.widths.now c.loop-i.i _ c.loop-i.rows.items c.push.new.self.items c.in-Ok.row
    (omega arith)
    (omega arith) c.in-Ok-push.ensures.items c.in-Ok.ensures c.loop-i.invariant.hashes c.loop-i.invariant.lengths in
    record { hashes = more.0; lengths = more.1 }
