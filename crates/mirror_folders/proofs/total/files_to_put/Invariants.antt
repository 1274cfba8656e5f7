use Rattle.std.proofs.Common.{◌≡◌, ◌≤◌, ◌*◌, ◌^◌}
use Rattle.mirror_folders.specs.Total.{new_below}
use Rattle.mirror_folders.proofs.total.files_to_put.Given as goal

abbrev pub invariant-loop-level : goal.invariant-loop-level
invariant-loop-level l = record {
  files : l.tiles ≡ new_below l.since l.size l.level;
  few : l.tiles ≤ l.level * 2 ^ 57;
}
