use Rattle.std.proofs.Common.{◌≡◌, map, take}
use Rattle.tlog_hash.specs.Tree.{leaf_hash}
use Rattle.tlog_tiles.proofs.levels.leaf_hashes.Given as goal

-- the leaf hashes so far
abbrev pub invariant-loop-entry : goal.invariant-loop-entry
invariant-loop-entry g l = l.row.items ≡ map (λ e. leaf_hash g.H.TreeHash.digest e.now) (take l.entry-index l.entries)
