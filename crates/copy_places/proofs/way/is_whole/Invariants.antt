use Rattle.std.proofs.Common.{◌≡◌, ℕ, ◌<◌, ◌≤◌}
use Rattle.tlog_shape.specs.Edge.{width_of}
use Rattle.copy_places.proofs.way.is_whole.Given as goal

-- none of the levels so far has a partial tile
abbrev pub invariant-loop-below : goal.invariant-loop-below
invariant-loop-below l = (k : ℕ) → k < l.below → k ≤ l.level → width_of l.size k ≡ 0
