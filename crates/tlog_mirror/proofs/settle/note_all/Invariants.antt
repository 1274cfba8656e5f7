use Rattle.std.proofs.Common.{◌≡◌}
use Rattle.mirror_trees.specs.HeldTrees.{AreKnown}
use Rattle.tlog_mirror.proofs.settle.note_all.Given as goal

-- the known trees are held, and the remembered points stay
abbrev pub invariant-loop-head : goal.invariant-loop-head
invariant-loop-head g l = record {
  known : AreKnown g.H.TreeHash.digest l.store l.known;
  remembered : l.known.remembered ≡ l.fn.known.remembered;
}
