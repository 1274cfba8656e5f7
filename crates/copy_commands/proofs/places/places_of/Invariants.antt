use Rattle.std.proofs.Common.{IfOk, take}
use Rattle.copy_commands.specs.Places.{ArePlacesOf}
use Rattle.copy_commands.proofs.places.places_of.Given as goal

-- the places so far are those of the words so far
abbrev pub invariant-loop-place : goal.invariant-loop-place
invariant-loop-place g l =
    IfOk l.places (λ places. ArePlacesOf (g.P.RunPlaces.at l.world) (take l.place-index l.words) places.list.items)
