use Rattle.std.proofs.Common.{ℕ, ◌+◌, ◌≤◌, length}
use Rattle.signed_note.specs.Notes.{IsBlank}
use Rattle.signed_note.proofs.parts.blank_line.Given as goal

-- no two newlines in a row begin at the position before the end or later
abbrev pub invariant-loop-end : goal.invariant-loop-end
invariant-loop-end l = record {
  within : l.end ≤ length l.bytes;
  none : (j : ℕ) → l.end ≤ j + 1 → IsBlank l.bytes j → ⊥;
}

abbrev pub decreases-loop-end : goal.decreases-loop-end
decreases-loop-end l = l.end
