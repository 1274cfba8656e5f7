use Rattle.std.proofs.Common.{map, take}
use Rattle.std.specs.List.{flat_map}
use Rattle.program_copies.specs.Evidence.{RecordsEach, fork_files}
use Rattle.program_copies.proofs.evidence.put_forks.Given as goal

-- the evidence of the forks so far was put
abbrev pub invariant-loop-line : goal.invariant-loop-line
invariant-loop-line g l =
    RecordsEach l.origin (map (λ k. (goal.Verifier-dyn g (k.vtable, k.value)).key k.value) l.keys)
    (flat_map (fork_files l.folder) (take l.line-index l.lines)) (g.F.NamedFiles.puts l.fn.files) (g.F.NamedFiles.puts l.files)
