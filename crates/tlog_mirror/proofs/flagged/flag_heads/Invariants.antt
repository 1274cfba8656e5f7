use Rattle.std.proofs.Common.{◌≡◌, map, take}
use Rattle.std.specs.Prelude.{All}
use Rattle.mirror_model.specs.Reports.{head_point}
use Rattle.mirror_trees.specs.Marked.{point_of}
use Rattle.tlog_mirror.specs.Points.{IsBuiltFlag}
use Rattle.tlog_mirror.proofs.flagged.flag_heads.Given as goal

abbrev pub invariant-loop-point : goal.invariant-loop-point
invariant-loop-point g l = record {
  points : map head_point l.heads.items ≡ map point_of (take l.point-index l.points);
  flags : All (IsBuiltFlag g.H.TreeHash.digest l.store) l.heads.items;
}
