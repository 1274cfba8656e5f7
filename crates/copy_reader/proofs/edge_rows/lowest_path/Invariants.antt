use Rattle.std.proofs.Common.{◌≡◌, []}
use Rattle.copy_reader.specs.Order.{edge_order}
use Rattle.copy_reader.proofs.edge_rows.lowest_path.Given as goal

-- no level so far has a row
abbrev pub invariant-loop-level : goal.invariant-loop-level
invariant-loop-level l = edge_order l.size l.level ≡ []
