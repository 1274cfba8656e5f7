use Rattle.std.proofs.Common.{map, take}
use Rattle.mirror_folders.specs.Shelf.{HasPut}
use Rattle.mirror_folders.proofs.memory.is_put.Given as goal

abbrev pub invariant-loop-put : goal.invariant-loop-put
invariant-loop-put l = HasPut (map (λ put. (put.0, put.1.items)) (take l.put-index l.puts)) l.path → ⊥
