use Rattle.std.proofs.Common.{◌≡◌, Some}
use Rattle.mirror_sources.specs.Recorded.{KeepsRecord}
use Rattle.copy_places.specs.Requests.{AsksAny}
use Rattle.copy_follow.specs.Looking.{AddsForks}
use Rattle.copy_follow.specs.Told.{AreToldFirst}
use Rattle.copy_follow.proofs.again.look_each.Given as goal

abbrev pub invariant-loop-i : goal.invariant-loop-i
invariant-loop-i g l = record {
  same : KeepsRecord (g.D.Shelf.puts l.initial.shelf) (g.D.Shelf.puts l.shelf);
  failed : g.D.Shelf.failed l.shelf ≡ g.D.Shelf.failed l.initial.shelf;
  asks : AsksAny g.S.Source.may_answer g.S.Source.failed g.S.Source.asked l.initial.places l.places;
  adds : AddsForks g.H.TreeHash.digest (Some l.copy) l.lacked l.initial.forks.items l.forks.items;
  tells : AreToldFirst g.H.TreeHash.digest g.S.Source.may_answer g.S.Source.failed g.S.Source.asked l.initial.places l.places
      (Some l.copy) l.forks.items l.lacked l.i;
}
