use Rattle.std.proofs.Common.{take, map}
use Rattle.mirror_trees.specs.Leaves.{AreLeaves}
use Rattle.mirror_trees.proofs.bundle.entries_of.Given as goal

-- the entries so far are those of the hashes so far
abbrev pub invariant-loop-hash : goal.invariant-loop-hash
invariant-loop-hash g l =
    AreLeaves g.H.TreeHash.digest l.store (take l.hash-index l.row) (map (λ e. e.now) l.lent.items)
