use Rattle.std.proofs.Common.{◌≡◌, Some, map, take}
use Rattle.std.specs.List.Sorted.{IsSorted}
use Rattle.copy_places.specs.Requests.{AsksAny, PlaceFails}
use Rattle.copy_places.specs.Candidates.{note_of, turn_cmp}
use Rattle.copy_follow.specs.Ending.{KeepsFault}
use Rattle.copy_follow.specs.Runs.{KeepsEach}
use Rattle.copy_follow.specs.TurnsTaken.{HasTakenRun}
use Rattle.copy_follow.specs.Told.{AreToldIn}
use Rattle.copy_follow.specs.Turning.{IsRunFrom}
use Rattle.copy_follow.specs.declared.follow_fault.FollowFault.TheVariants.{Source}
use Rattle.copy_follow.proofs.OneHonestRun.{Reaching}
use Rattle.copy_follow.proofs.turns.take_each.Given as goal

abbrev pub invariant-loop-i : goal.invariant-loop-i
invariant-loop-i g l = record {
  keeps : KeepsEach g.H.TreeHash.digest l.origin (map note_of l.candidates) (g.D.Shelf.puts l.initial.shelf)
      (g.D.Shelf.puts l.shelf);
  counted : g.D.Shelf.failed l.shelf ≡ g.D.Shelf.failed l.initial.shelf;
  run : IsRunFrom g.H.TreeHash.digest l.origin (g.D.Shelf.puts l.initial.shelf) (g.D.Shelf.puts l.shelf) l.fn.copy l.run;
  fault : KeepsFault g.H.TreeHash.digest (take l.i l.candidates) l.run;
  asks : AsksAny g.S.Source.may_answer g.S.Source.failed g.S.Source.asked l.initial.places l.places;
  taken : IsSorted turn_cmp l.candidates → HasTakenRun g.H.TreeHash.digest l.fn.copy (take l.i l.candidates) l.run;
  reaching : Reaching g.H.TreeHash.digest g.S.Source.may_answer g.S.Source.failed g.S.Source.asked l.origin
      (g.D.Shelf.puts l.initial.shelf) l.initial.places l.fn.copy l.candidates l.i (g.D.Shelf.puts l.shelf) l.places
      l.run.copy;
  source : l.run.first_fault ≡ Some Source → PlaceFails l.initial.places l.places;
  tells : IsSorted turn_cmp l.candidates → AreToldIn g.H.TreeHash.digest g.S.Source.may_answer g.S.Source.failed
      g.S.Source.asked l.initial.places l.places (take l.i l.candidates) l.run;
}
