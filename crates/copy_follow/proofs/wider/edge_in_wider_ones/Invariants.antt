use Rattle.copy_places.specs.PlaceGets.{AsksPlaces}
use Rattle.copy_follow.specs.Repaired.{IsOfEdge}
use Rattle.copy_follow.proofs.wider.edge_in_wider_ones.Given as goal

abbrev pub invariant-loop-place : goal.invariant-loop-place
invariant-loop-place g l = record {
  asks : AsksPlaces g.S.Source.may_answer g.S.Source.failed g.S.Source.asked (IsOfEdge l.size) l.fn.places l.places;
}
