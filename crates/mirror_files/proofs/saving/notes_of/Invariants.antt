use Rattle.std.proofs.Common.{◌≡◌, ℕ, List, map, take}
use Rattle.std.specs.Borrow.{Bor}
use Rattle.mirror_model.specs.Listed.{ListsNotes}
use Rattle.mirror_files.proofs.saving.notes_of.Given as goal

abbrev pub invariant-loop-i : goal.invariant-loop-i
invariant-loop-i g l = (all : List (List ℕ)) → ListsNotes l.mirror.view all →
    map (λ (n : Bor (List ℕ)). n.now) l.notes.items ≡ take l.i all
