use Rattle.std.proofs.Common.{◌≡◌}
use Rattle.mirror_folders.specs.Files.{tiles_below}
use Rattle.mirror_folders.proofs.paths.log_paths.Given as goal

abbrev pub invariant-loop-level : goal.invariant-loop-level
invariant-loop-level l = record { so_far : l.paths.items ≡ tiles_below l.size l.level }
