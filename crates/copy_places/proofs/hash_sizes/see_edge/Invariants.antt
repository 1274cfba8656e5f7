use Rattle.std.proofs.Common.{◌<◌, ℕ}
use Rattle.tlog_shape.specs.Edge.{width_of}
use Rattle.log_reader.specs.EdgeRows.{row_at}
use Rattle.log_reader.specs.Ways.{AreHashesOf}
use Rattle.copy_places.proofs.hash_sizes.see_edge.Given as goal

-- the rows so far have hashes of 32 bytes
abbrev pub invariant-loop-level : goal.invariant-loop-level
invariant-loop-level l = (k : ℕ) → k < l.level → AreHashesOf (width_of l.edge.size k) (row_at l.edge k)
