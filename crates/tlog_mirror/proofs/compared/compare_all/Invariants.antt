use Rattle.std.proofs.Common.{◌≡◌, ℕ, List, map, take}
use Rattle.std.specs.Prelude.{All}
use Rattle.mirror_trees.specs.Marked.{point_of}
use Rattle.tlog_mirror.specs.Compared.{IsCompared, compared_point}
use Rattle.tlog_mirror.proofs.compared.compare_all.Given as goal

abbrev pub invariant-loop-head : goal.invariant-loop-head
invariant-loop-head g l = record {
  heads : map compared_point l.compared.items ≡ map point_of (take l.head-index l.heads);
  each : (entries : List (List ℕ)) → g.R.Ranges.lists l.ranges entries →
      All (IsCompared g.R.Ranges.digest entries) l.compared.items;
}
