use Rattle.std.proofs.Common.{◌≡◌, length}
use Rattle.tlog_mirror.proofs.CalmHeads.{IsLeast, IsDecidedFrom}
use Rattle.tlog_mirror.proofs.calm.find_calm.Given as goal

abbrev pub invariant-loop-at : goal.invariant-loop-at
invariant-loop-at l = record {
  len : length l.calm ≡ length l.branches;
  least : IsLeast l.branches l.at l.least;
  recorded : IsDecidedFrom l.branches l.at l.calm;
}
