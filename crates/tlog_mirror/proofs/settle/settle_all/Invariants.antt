use Rattle.std.proofs.Common.{take}
use Rattle.std.specs.Prelude.{All}
use Rattle.mirror_trees.specs.HeldTrees.{AreKnown}
use Rattle.tlog_mirror.specs.Settled.{GainsAny, HasSlicesOf}
use Rattle.tlog_mirror.proofs.settle.settle_all.Given as goal

-- the trees so far are remembered, and the known trees are held
abbrev pub invariant-loop-head : goal.invariant-loop-head
invariant-loop-head g l = record {
  done : All (HasSlicesOf g.H.TreeHash.digest l.store l.known.remembered) (take l.head-index l.heads);
  gains : GainsAny g.H.TreeHash.digest l.store (take l.head-index l.heads) l.fn.known.remembered l.known.remembered;
  known : AreKnown g.H.TreeHash.digest l.store l.known;
}
