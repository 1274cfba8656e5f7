use Rattle.std.proofs.Common.{map, take}
use Rattle.mirror_files.specs.Opening.{AreOpened}
use Rattle.mirror_files.proofs.opening.open_all.Given as goal

-- the notes so far are opened
abbrev pub invariant-loop-note : goal.invariant-loop-note
invariant-loop-note g l =
    AreOpened l.origin (map (λ k. (goal.Verifier-dyn g (k.vtable, k.value)).key k.value) l.keys)
    (take l.note-index (map (λ n. n.now) l.notes)) l.heads.items
