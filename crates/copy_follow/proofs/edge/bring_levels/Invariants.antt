use Rattle.copy_places.specs.AskedOnce.{AsksOnce}
use Rattle.copy_follow.specs.Asked.{IsFullBetween}
use Rattle.copy_places.specs.PlaceGets.{AsksPlaces}
use Rattle.copy_follow.specs.Asked.{IsNewFull}
use Rattle.copy_follow.specs.Taken.{PutsTaken}
use Rattle.std.proofs.Common.{◌≡◌, ◌+◌, ◌-◌, ◌*◌, ◌^◌, ◌≤◌, ℕ, List}
use Rattle.tlog_shape.specs.Edge.{edge_index_of}
use Rattle.mirror_sources.specs.Recorded.{KeepsRecord}
use Rattle.copy_follow.specs.Growing.{IsKnown}
use Rattle.copy_follow.specs.Edges.{IsEdgeBrought}
use Rattle.mirror_folders.specs.Flushes.{Secures}
use Rattle.copy_follow.specs.Secured.{IsNewInEdge}
use Rattle.copy_follow.proofs.edge.bring_levels.Given as goal

abbrev pub invariant-loop-done : goal.invariant-loop-done
invariant-loop-done g l = record {
  counted : g.D.Shelf.failed l.shelf ≡ g.D.Shelf.failed l.fn.shelf;
  asks : AsksPlaces g.S.Source.may_answer g.S.Source.failed g.S.Source.asked (IsNewFull l.tip.size) l.fn.places l.places;
  once : AsksOnce g.S.Source.asked (λ k. IsFullBetween 7 0 (edge_index_of l.edge.size (7 - l.done) * 256 ^ (7 - l.done + 1)))
      l.fn.places l.places;
  taken : PutsTaken g.S.Source.may_answer l.fn.places (g.D.Shelf.puts l.fn.shelf) (g.D.Shelf.puts l.shelf);
  early : edge_index_of l.edge.size (8 - l.done - 1) * 256 ^ (8 - l.done - 1 + 1) ≤ l.tip.size →
      KeepsRecord (g.D.Shelf.puts l.fn.shelf) (g.D.Shelf.puts l.shelf);
  secured : Secures (IsNewInEdge l.tip.size l.edge.size (8 - l.done)) (g.D.Shelf.flushes l.fn.shelf)
      (g.D.Shelf.flushes l.shelf);
  brought : (known : List (List ℕ)) → IsKnown g.H.TreeHash.digest l.tip 0 known →
      IsEdgeBrought g.H.TreeHash.digest l.tip l.edge known (8 - l.done) (g.D.Shelf.puts l.fn.shelf)
      (g.D.Shelf.puts l.shelf);
}
