use Rattle.std.proofs.Common.{◌≡◌, ◌+◌}
use Rattle.log_reader.specs.Nodes.{AreBelow, hash_below}
use Rattle.log_reader.proofs.edge_root.hashes_below.Given as goal

abbrev pub invariant-loop-level : goal.invariant-loop-level
invariant-loop-level g l = record {
  hash : l.hash ≡ hash_below g.H.TreeHash.digest l.edge l.level;
  below : AreBelow g.H.TreeHash.digest l.edge (l.level + 1) l.below.items;
}
