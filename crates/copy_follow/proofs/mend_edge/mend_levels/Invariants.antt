use Rattle.std.proofs.Common.{◌≡◌, ◌-◌, ℕ, List}
use Rattle.std.specs.Prelude.{IsTrue}
use Rattle.copy_follow.specs.Edges.{IsEdgeBrought}
use Rattle.copy_follow.specs.Growing.{IsKnown, empty_tip}
use Rattle.mirror_model.specs.TrueLaws.{AreShort}
use Rattle.copy_follow.specs.Lacked.{GoesDown}
use Rattle.copy_follow.specs.Named.{NamesDamaged}
use Rattle.copy_follow.specs.Repaired.{AreFullsClear, IsFullFile, Mends, PutsTrue}
use Rattle.copy_follow.specs.Suffices.{IsEdgeTrue}
use Rattle.copy_follow.specs.Taken.{MayTake}
use Rattle.copy_follow.proofs.mend_edge.mend_levels.Given as goal

abbrev pub invariant-loop-done : goal.invariant-loop-done
invariant-loop-done g l = record {
  counted : g.D.Shelf.failed l.shelf ≡ g.D.Shelf.failed l.fn.shelf;
  mends : Mends g.S.Source.may_answer g.S.Source.failed g.S.Source.asked IsFullFile l.fn.places l.places
      (g.D.Shelf.puts l.fn.shelf) (g.D.Shelf.puts l.shelf) l.fn.repaired.put l.repaired.put;
  keeps : (log : List (List ℕ)) →
      AreFullsClear g.H.TreeHash.digest log (MayTake g.S.Source.may_answer l.fn.places (g.D.Shelf.puts l.fn.shelf)) →
      IsEdgeTrue g.H.TreeHash.digest log l.edge →
      PutsTrue g.H.TreeHash.digest log (g.D.Shelf.puts l.fn.shelf) (g.D.Shelf.puts l.shelf);
  whole : IsTrue l.all → (known : List (List ℕ)) → IsKnown g.H.TreeHash.digest empty_tip 0 known →
      IsEdgeBrought g.H.TreeHash.digest empty_tip l.edge known (8 - l.done) (g.D.Shelf.puts l.fn.shelf)
      (g.D.Shelf.puts l.shelf);
  goes_on : (log : List (List ℕ)) → AreShort log →
      AreFullsClear g.H.TreeHash.digest log (MayTake g.S.Source.may_answer l.fn.places (g.D.Shelf.puts l.fn.shelf)) →
      IsEdgeTrue g.H.TreeHash.digest log l.edge →
      GoesDown g.H.TreeHash.digest log g.S.Source.may_answer l.fn.places l.places (g.D.Shelf.puts l.fn.shelf)
      (g.D.Shelf.puts l.shelf) (8 - l.done);
  names : (log : List (List ℕ)) → AreShort log →
      AreFullsClear g.H.TreeHash.digest log (MayTake g.S.Source.may_answer l.fn.places (g.D.Shelf.puts l.fn.shelf)) →
      IsEdgeTrue g.H.TreeHash.digest log l.edge →
      NamesDamaged g.H.TreeHash.digest log (g.D.Shelf.puts l.fn.shelf) l.fn.repaired.damaged.items l.repaired.damaged.items;
}
