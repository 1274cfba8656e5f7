use Rattle.std.proofs.Common.{◌-◌, drop, length, map}
use Rattle.program_words.proofs.Places.{WereRead}
use Rattle.program_words.proofs.place.places_of.Given as goal

abbrev pub invariant-loop-at : goal.invariant-loop-at
invariant-loop-at l = WereRead (map (λ w. w.now) l.words) (map (λ w. w.now) (drop l.at l.words)) l.places.items

abbrev pub decreases-loop-at : goal.decreases-loop-at
decreases-loop-at l = length l.words - l.at
