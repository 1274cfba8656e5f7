use Rattle.std.proofs.Common.{◌≢◌, ◌<◌, ◌≤◌, ℕ, length, get_or}
use Rattle.tlog_tiles.proofs.paths.reading.cut_last.Given as goal

-- the bytes from here on are not slashes
abbrev pub invariant-loop-at : goal.invariant-loop-at
invariant-loop-at l = (k : ℕ) → l.at ≤ k → k < length l.bytes → get_or l.bytes k 0 ≢ 47
