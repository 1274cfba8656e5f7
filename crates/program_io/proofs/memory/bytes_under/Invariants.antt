use Rattle.std.proofs.Common.{◌≡◌, map, take}
use Rattle.std.specs.Prelude.{option_map, string_bytes}
use Rattle.program_io.specs.Named.{contents_of}
use Rattle.program_io.proofs.memory.bytes_under.Given as goal

-- the result so far is the bytes of the name after the puts so far
abbrev pub invariant-loop-put : goal.invariant-loop-put
invariant-loop-put l =
    option_map (λ bytes. bytes.now) l.found
    ≡ contents_of (map (λ put. (string_bytes put.0, put.1.items)) (take l.put-index l.puts)) l.name
