use Rattle.std.proofs.Common.{arith, length-take}
use Rattle.log_reader.proofs.full_row.FullRow.row.Goals as goal

pub slice_bounds-result-end : goal.slice_bounds-result-end
slice_bounds-result-end g c =
    omega (arith, length-take 256 c.deref.result.now, c.deref.ensures.len, c.self.invariant.long)
