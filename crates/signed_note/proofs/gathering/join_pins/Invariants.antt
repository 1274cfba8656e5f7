use Rattle.signed_note.proofs.JoinedPins.{IsJoining}
use Rattle.signed_note.proofs.gathering.join_pins.Given as goal

-- the keys up to here, and the rest of the pins
abbrev pub invariant-loop-one : goal.invariant-loop-one
invariant-loop-one l =
    goal.iterator-loop-one.can_next l.one-iterator ×
    goal.iterator-loop-one.is_finite l.one-iterator ×
    IsJoining l.keys.items l.one-iterator.rest.items l.initial.keys.items l.initial.one-iterator.rest.items
