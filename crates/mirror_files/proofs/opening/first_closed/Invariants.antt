use Rattle.std.proofs.Common.{map, take, All}
use Rattle.mirror_files.specs.Opening.{OpensAsHead}
use Rattle.mirror_files.proofs.opening.first_closed.Given as goal

-- the notes so far open
abbrev pub invariant-loop-i : goal.invariant-loop-i
invariant-loop-i g l =
    All (OpensAsHead l.origin (map (λ k. (goal.Verifier-dyn g (k.vtable, k.value)).key k.value) l.keys))
    (take l.i (map (λ n. n.now) l.notes))
