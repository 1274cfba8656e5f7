use Rattle.std.proofs.Common.{◌≡◌, ◌++◌, map}
use Rattle.std.specs.List.{range_with_len}
use Rattle.mirror_folders.specs.Files.{kind_path}
use Rattle.mirror_folders.proofs.paths.push_kind.Given as goal

abbrev pub invariant-loop-index : goal.invariant-loop-index
invariant-loop-index l = record {
  so_far : l.paths.items ≡ l.fn.paths.items ++ map (λ i. kind_path l.kind i 256) (range_with_len 0 l.index);
}
