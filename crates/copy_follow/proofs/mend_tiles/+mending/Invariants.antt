use Rattle.std.proofs.Common.{◌≡◌, ◌+◌, ◌*◌, ◌^◌, ℕ, List}
use Rattle.std.specs.Prelude.{IsTrue}
use Rattle.copy_follow.specs.Growing.{IsKnown, IsRowBrought, empty_tip}
use Rattle.mirror_model.specs.TrueLaws.{AreShort}
use Rattle.copy_follow.specs.Lacked.{GoesAlong}
use Rattle.copy_follow.specs.Named.{NamesDamaged}
use Rattle.copy_follow.specs.Repaired.{AreFullsClear, IsFullFile, Mends, PutsTrue}
use Rattle.copy_follow.specs.Suffices.{IsTileRow}
use Rattle.copy_follow.specs.Taken.{MayTake}
use Rattle.copy_follow.proofs.mend_tiles.+mending.Given as goal

abbrev pub decreases-mend_tile : goal.decreases-mend_tile
decreases-mend_tile g l = 2 * l.level + 1

abbrev pub decreases-mend_row : goal.decreases-mend_row
decreases-mend_row g l = 2 * l.level

abbrev pub invariant-mend_row-loop-i : goal.invariant-mend_row-loop-i
invariant-mend_row-loop-i g l = record {
  counted : g.D.Shelf.failed l.shelf ≡ g.D.Shelf.failed l.fn.shelf;
  mends : Mends g.S.Source.may_answer g.S.Source.failed g.S.Source.asked IsFullFile l.fn.places l.places
      (g.D.Shelf.puts l.fn.shelf) (g.D.Shelf.puts l.shelf) l.fn.repaired.put l.repaired.put;
  keeps : (log : List (List ℕ)) →
      AreFullsClear g.H.TreeHash.digest log (MayTake g.S.Source.may_answer l.fn.places (g.D.Shelf.puts l.fn.shelf)) →
      IsTileRow g.H.TreeHash.digest log l.level l.index l.row →
      PutsTrue g.H.TreeHash.digest log (g.D.Shelf.puts l.fn.shelf) (g.D.Shelf.puts l.shelf);
  whole : IsTrue l.all → (known : List (List ℕ)) →
      IsKnown g.H.TreeHash.digest empty_tip (l.index * 256 ^ (l.level + 1)) known →
      IsRowBrought g.H.TreeHash.digest empty_tip l.level l.index l.row known (g.D.Shelf.puts l.fn.shelf)
      (g.D.Shelf.puts l.shelf) l.i;
  goes_on : (log : List (List ℕ)) → AreShort log →
      AreFullsClear g.H.TreeHash.digest log (MayTake g.S.Source.may_answer l.fn.places (g.D.Shelf.puts l.fn.shelf)) →
      IsTileRow g.H.TreeHash.digest log l.level l.index l.row →
      GoesAlong g.H.TreeHash.digest log g.S.Source.may_answer l.fn.places l.places (g.D.Shelf.puts l.fn.shelf)
      (g.D.Shelf.puts l.shelf) l.level l.index l.i;
  names : (log : List (List ℕ)) → AreShort log →
      AreFullsClear g.H.TreeHash.digest log (MayTake g.S.Source.may_answer l.fn.places (g.D.Shelf.puts l.fn.shelf)) →
      IsTileRow g.H.TreeHash.digest log l.level l.index l.row →
      NamesDamaged g.H.TreeHash.digest log (g.D.Shelf.puts l.fn.shelf) l.fn.repaired.damaged.items l.repaired.damaged.items;
}
