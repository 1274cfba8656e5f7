use Rattle.std.proofs.Common.{◌≡◌, ◌≤◌, ℕ, List, length}
use Rattle.log_reader.specs.EdgeRows.{RowIsTrue}
use Rattle.copy_follow.specs.Named.{NamesDamaged}
use Rattle.copy_follow.specs.Repaired.{AreEdgeTilesHad, CountsPuts}
use Rattle.copy_follow.proofs.mend_edge.mend_edge_tiles.Given as goal

abbrev pub invariant-loop-level : goal.invariant-loop-level
invariant-loop-level g l = record {
  counted : g.D.Shelf.failed l.shelf ≡ g.D.Shelf.failed l.fn.shelf;
  counts : CountsPuts l.fn.repaired.put l.repaired.put (g.D.Shelf.puts l.fn.shelf) (g.D.Shelf.puts l.shelf);
  puts : (entries : List (List ℕ)) → length entries ≡ l.edge.size →
      ((level : ℕ) → level ≤ 7 → RowIsTrue g.H.TreeHash.digest l.edge entries level) →
      AreEdgeTilesHad g.H.TreeHash.digest l.edge entries (g.D.Shelf.puts l.fn.shelf) (g.D.Shelf.puts l.shelf) l.level;
  names : (log : List (List ℕ)) → length log ≡ l.edge.size →
      ((level : ℕ) → level ≤ 7 → RowIsTrue g.H.TreeHash.digest l.edge log level) →
      NamesDamaged g.H.TreeHash.digest log (g.D.Shelf.puts l.fn.shelf) l.fn.repaired.damaged.items l.repaired.damaged.items;
}
