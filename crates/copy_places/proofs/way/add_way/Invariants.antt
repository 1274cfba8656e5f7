use Rattle.std.proofs.Common.{◌≡◌, ◌-◌}
use Rattle.mirror_sources.specs.Recorded.{KeepsRecord}
use Rattle.copy_places.specs.AskedEnds.{AsksEnds}
use Rattle.copy_places.specs.WayFiles.{HasWanted, IsOnWay}
use Rattle.copy_places.proofs.way.add_way.Given as goal

-- the requests so far, and the way so far
abbrev pub invariant-loop-done : goal.invariant-loop-done
invariant-loop-done g l = record {
  same : KeepsRecord (g.D.Shelf.puts l.fn.shelf) (g.D.Shelf.puts l.shelf);
  counted : g.D.Shelf.failed l.shelf ≡ g.D.Shelf.failed l.fn.shelf;
  goes : AsksEnds g.S.Source.may_answer g.S.Source.failed g.S.Source.asked l.fn.places l.places;
  end : l.first ≡ l.places.ends.sizes.0;
  on : IsOnWay g.H.TreeHash.digest l.first l.edge (7 - l.done) l.above.items l.files;
  wanted : HasWanted l.first l.edge.size (7 - l.done) l.files;
}
