use Rattle.std.proofs.Common.{◌≡◌, map, take}
use Rattle.tlog_mirror.proofs.rows.slices_of.Given as goal

abbrev pub invariant-loop-row : goal.invariant-loop-row
invariant-loop-row l = map (λ slice. slice.now) l.slices.items ≡ map (λ row. row.items) (take l.row-index l.rows)
