use Rattle.std.proofs.Common.{map, take}
use Rattle.program_io.specs.HeadFiles.{AreOpen}
use Rattle.program_io.proofs.heads.check_notes.Given as goal

-- the notes so far open
abbrev pub invariant-loop-note : goal.invariant-loop-note
invariant-loop-note g l =
    AreOpen l.mirror.view.origin (map (λ b. (goal.Verifier-dyn g (b.vtable, b.value)).key b.value) l.keys)
    (map (λ note. note.items) (take l.note-index l.notes)) l.heads.items
