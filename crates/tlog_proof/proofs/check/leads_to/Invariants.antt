use Rattle.std.proofs.Common.{◌≡◌, ◌+◌, ◌≤◌, reverse, drop}
use Rattle.tlog_proof.specs.Climb.{climb}
use Rattle.tlog_hash.specs.Shape.{shape}
use Rattle.tlog_proof.specs.Consistency.{both_right, both_left}
use Rattle.tlog_proof.proofs.check.leads_to.Given as goal

abbrev pub invariant-loop-beside : goal.invariant-loop-beside
invariant-loop-beside g l = record {
  within : l.node ≤ l.end;
  same : climb (both_right g.H.TreeHash.digest) (both_left g.H.TreeHash.digest) (shape (l.end + 1)) l.node
      (l.first_hash, l.second_hash) (reverse (drop l.beside-index l.path))
      ≡ climb (both_right g.H.TreeHash.digest) (both_left g.H.TreeHash.digest) (shape (l.last + 1)) l.index
      (l.start, l.start) (reverse l.path);
}
