use Rattle.std.proofs.Common.{◌≡◌, ◌++◌, map}
use Rattle.signed_note.specs.KeyKinds.{pinned_key, secret_key}
use Rattle.signed_note.specs.Verifiers.{key_of}
use Rattle.program_copies.proofs.MadeKeys.{key_in}
use Rattle.program_copies.proofs.opening.open_under.Given as goal

-- the keys so far, and those of the remaining lines, are the keys of all lines
abbrev pub invariant-loop-line : goal.invariant-loop-line
invariant-loop-line l =
    goal.iterator-loop-line.can_next l.line-iterator ×
    goal.iterator-loop-line.is_finite l.line-iterator ×
    (map (key_in secret_key pinned_key) l.keys.items ++ map key_of l.line-iterator.rest.items
    ≡ map key_of l.initial.line-iterator.rest.items)
