use Rattle.std.proofs.Common.{◌≡◌, ◌+◌, ◌≤◌, reverse, drop}
use Rattle.tlog_hash.specs.Shape.{shape}
use Rattle.tlog_proof.specs.Inclusion.{incl_in, incl}
use Rattle.tlog_proof.proofs.check.check_inclusion.Given as goal

abbrev pub invariant-loop-beside : goal.invariant-loop-beside
invariant-loop-beside g l = record {
  within : l.node ≤ l.end;
  same : incl_in g.H.TreeHash.digest (shape (l.end + 1)) l.node l.hash (reverse (drop l.beside-index l.path))
      ≡ incl g.H.TreeHash.digest l.index l.size l.leaf l.path;
}
