use Rattle.signed_note.proofs.JoinedPins.{IsGathering}
use Rattle.signed_note.proofs.gathering.gather_all.Given as goal

-- the lines gathered up to here, and the rest of the lines
abbrev pub invariant-loop-line : goal.invariant-loop-line
invariant-loop-line l =
    goal.iterator-loop-line.can_next l.line-iterator ×
    goal.iterator-loop-line.is_finite l.line-iterator ×
    IsGathering l.secrets.items l.pins.items l.line-iterator.rest.items l.initial.line-iterator.rest.items
