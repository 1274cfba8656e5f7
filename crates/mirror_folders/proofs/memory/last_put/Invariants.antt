use Rattle.std.proofs.Common.{Some, map, take}
use Rattle.std.specs.Prelude.{option_map}
use Rattle.mirror_folders.specs.Shelf.{RecordsRead}
use Rattle.mirror_folders.proofs.memory.last_put.Given as goal

-- the bytes that were found are those at the path after the puts so far
abbrev pub invariant-loop-put : goal.invariant-loop-put
invariant-loop-put l =
    RecordsRead (Some (map (λ put. (put.0, put.1.items)) (take l.put-index l.puts))) l.path
    (option_map (λ bytes. bytes.now) l.last)
