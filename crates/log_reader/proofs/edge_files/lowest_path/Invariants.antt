use Rattle.std.proofs.Common.{◌≡◌, ◌<◌, ℕ}
use Rattle.tlog_shape.specs.Edge.{width_of}
use Rattle.log_reader.proofs.edge_files.lowest_path.Given as goal

-- the levels so far have no partial tile
abbrev pub invariant-loop-level : goal.invariant-loop-level
invariant-loop-level l = (k : ℕ) → k < l.level → width_of l.size k ≡ 0
