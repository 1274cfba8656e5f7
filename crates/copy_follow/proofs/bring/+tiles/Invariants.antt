use Rattle.copy_places.specs.AskedOnce.{AsksOnce}
use Rattle.copy_follow.specs.Asked.{IsFullBetween}
use Rattle.copy_places.specs.PlaceGets.{AsksPlaces}
use Rattle.copy_follow.specs.Asked.{IsNewFull}
use Rattle.copy_follow.specs.Taken.{PutsTaken}
use Rattle.std.proofs.Common.{◌≡◌, ◌+◌, ◌*◌, ◌^◌, ℕ, List}
use Rattle.mirror_sources.specs.Recorded.{KeepsRecord}
use Rattle.copy_follow.specs.Growing.{IsKnown, IsRowBrought}
use Rattle.mirror_folders.specs.Flushes.{Secures}
use Rattle.copy_follow.specs.Secured.{IsNewInRow}
use Rattle.copy_follow.proofs.bring.+tiles.Given as goal

abbrev pub decreases-bring_tile : goal.decreases-bring_tile
decreases-bring_tile g l = 2 * l.level + 1

abbrev pub decreases-bring_row : goal.decreases-bring_row
decreases-bring_row g l = 2 * l.level

abbrev pub invariant-bring_row-loop-i : goal.invariant-bring_row-loop-i
invariant-bring_row-loop-i g l = record {
  counted : g.D.Shelf.failed l.shelf ≡ g.D.Shelf.failed l.fn.shelf;
  asks : AsksPlaces g.S.Source.may_answer g.S.Source.failed g.S.Source.asked (IsNewFull l.tip.size) l.fn.places l.places;
  once : AsksOnce g.S.Source.asked (λ k. IsFullBetween l.level (l.index * 256 ^ (l.level + 1))
      ((256 * l.index + l.i) * 256 ^ l.level)) l.fn.places l.places;
  taken : PutsTaken g.S.Source.may_answer l.fn.places (g.D.Shelf.puts l.fn.shelf) (g.D.Shelf.puts l.shelf);
  early : l.i ≡ l.first → KeepsRecord (g.D.Shelf.puts l.fn.shelf) (g.D.Shelf.puts l.shelf);
  secured : Secures (IsNewInRow l.tip.size l.level l.index l.i) (g.D.Shelf.flushes l.fn.shelf) (g.D.Shelf.flushes l.shelf);
  brought : (known : List (List ℕ)) →
      IsKnown g.H.TreeHash.digest l.tip (l.index * 256 ^ (l.level + 1)) known →
      IsRowBrought g.H.TreeHash.digest l.tip l.level l.index l.row known (g.D.Shelf.puts l.fn.shelf)
      (g.D.Shelf.puts l.shelf) l.i;
}
