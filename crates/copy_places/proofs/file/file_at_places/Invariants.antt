use Rattle.std.proofs.Common.{◌≡◌, ◌<◌, ℕ, List, get_or}
use Rattle.log_reader.specs.Verified.{Verifies}
use Rattle.copy_places.specs.Asked.{IsAskedInVain, IsAskedInTurn}
use Rattle.copy_places.specs.AskedOnce.{AsksOnce, IsBeforeTurn}
use Rattle.copy_places.specs.PlaceGets.{AsksPlaces, IsBlamed}
use Rattle.copy_places.specs.declared.place.Place.{Place}
use Rattle.copy_places.proofs.file.file_at_places.Given as goal

abbrev pub invariant-loop-turn : goal.invariant-loop-turn
invariant-loop-turn g l = record {
  asks : AsksPlaces g.S.Source.may_answer g.S.Source.failed g.S.Source.asked (λ p. p ≡ l.path) l.fn.places l.places;
  once : AsksOnce g.S.Source.asked (IsBeforeTurn l.first l.turn (λ p. p ≡ l.path)) l.fn.places l.places;
  none : (turn k : ℕ) (d : Place g.row.S.Denot) → turn < l.turn → IsAskedInTurn l.first turn k →
      IsAskedInVain (g.S.Source.may_answer (get_or l.fn.places.list.items k d).source)
      (get_or l.fn.places.list.items k d).failures (get_or l.places.list.items k d).failures l.path
      (λ bytes. (row : List (List ℕ)) × Verifies g.H.TreeHash.digest l.kind l.hash bytes row);
  blamed : (turn k : ℕ) → turn < l.turn → IsAskedInTurn l.first turn k → IsBlamed l.fn.places l.places k;
}
