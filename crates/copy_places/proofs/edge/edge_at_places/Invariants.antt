use Rattle.std.proofs.Common.{◌<◌, ℕ, List, All}
use Rattle.copy_places.specs.Giving.{MayGive}
use Rattle.copy_places.specs.GivenFrom.{AreRowsFrom}
use Rattle.copy_places.specs.Asked.{IsAskedInTurn, IsEdgeTile}
use Rattle.copy_places.specs.AskedOnce.{AsksOnce, IsBeforeTurn}
use Rattle.copy_places.specs.PlaceGets.{AsksPlaces, IsBlamed}
use Rattle.copy_places.specs.TruePlaces.{IsTruePlace}
use Rattle.copy_places.specs.TrueAnswers.{IsRootOf}
use Rattle.copy_places.proofs.edge.edge_at_places.Given as goal

abbrev pub invariant-loop-turn : goal.invariant-loop-turn
invariant-loop-turn g l = record {
  asks : AsksPlaces g.S.Source.may_answer g.S.Source.failed g.S.Source.asked (IsEdgeTile l.size) l.fn.places l.places;
  once : AsksOnce g.S.Source.asked (IsBeforeTurn l.first l.turn (IsEdgeTile l.size)) l.fn.places l.places;
  honest : (turn k : ℕ) → turn < l.turn → IsAskedInTurn l.first turn k → (entries : List (List ℕ)) →
      IsRootOf g.H.TreeHash.digest entries l.size l.root →
      IsTruePlace g.H.TreeHash.digest entries g.S.Source.may_answer l.fn.places l.places k → ⊥;
  given : All (AreRowsFrom (MayGive g.S.Source.may_answer l.fn.places) l.size) l.given.items;
  blamed : (turn k : ℕ) → turn < l.turn → IsAskedInTurn l.first turn k → IsBlamed l.fn.places l.places k;
}
