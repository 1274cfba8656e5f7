use Rattle.std.proofs.Common.{◌≡◌, map}
use Rattle.tlog_hash.specs.Rows.{ranges}
use Rattle.tlog_hash.specs.Tree.{fold_of}
use Rattle.tlog_tiles.proofs.levels.level_above.Given as goal

-- the hashes so far
abbrev pub invariant-loop-i : goal.invariant-loop-i
invariant-loop-i g l = l.row.items ≡ map (fold_of g.H.TreeHash.digest) (ranges 256 0 l.i l.below)
