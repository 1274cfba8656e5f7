use Rattle.std.proofs.Common.{◌≡◌, ◌<◌, ℕ, slice_index_or}
use Rattle.mirror_trees.specs.Best.{kept_point}
use Rattle.mirror_trees.specs.declared.held_note.HeldNote.{HeldNote}
use Rattle.mirror_trees.proofs.best.first_with.Given as goal

-- no earlier note has that size and root
abbrev pub invariant-loop-one : goal.invariant-loop-one
invariant-loop-one l =
    (k : ℕ) (other : HeldNote) → k < l.one-index → slice_index_or l.kept k other ≡ other →
    kept_point other ≡ record { size = l.size; root = l.root } → ⊥
