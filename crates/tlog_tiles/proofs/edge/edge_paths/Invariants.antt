use Rattle.std.proofs.Common.{◌≡◌}
use Rattle.tlog_tiles.specs.Edge.{edge_below}
use Rattle.tlog_tiles.proofs.edge.edge_paths.Given as goal

-- the list has the partial tiles of the levels up to here
abbrev pub invariant-loop-level : goal.invariant-loop-level
invariant-loop-level l = l.paths.items ≡ edge_below l.size l.level
