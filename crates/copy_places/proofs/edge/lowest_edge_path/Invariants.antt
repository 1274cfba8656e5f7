use Rattle.std.proofs.Common.{◌≡◌, ◌<◌, ℕ}
use Rattle.tlog_shape.specs.Edge.{width_of}
use Rattle.copy_places.proofs.edge.lowest_edge_path.Given as goal

-- no level below has a partial tile
abbrev pub invariant-loop-level : goal.invariant-loop-level
invariant-loop-level l = (below : ℕ) → below < l.level → width_of l.size below ≡ 0
