use Rattle.std.proofs.Common.{◌≡◌, map, take}
use Rattle.std.specs.Prelude.{All}
use Rattle.tlog_mirror.specs.Branches.{AreBranches, IsSpelled}
use Rattle.tlog_mirror.proofs.branches.branches_of.Given as goal

abbrev pub invariant-loop-head : goal.invariant-loop-head
invariant-loop-head g l = record {
  heads : map (λ b. b.head) l.branches.items ≡ take l.head-index l.heads;
  each : AreBranches g.H.TreeHash.digest l.store l.branches.items;
  spelled : All IsSpelled l.branches.items;
}
