use Rattle.std.proofs.Common.{◌≡◌, ◌≤◌, ℕ, List, length}
use Rattle.log_reader.specs.EdgeRows.{RowIsTrue}
use Rattle.copy_follow.specs.Edges.{AreEdgeTilesPut}
use Rattle.mirror_folders.specs.Flushes.{Secures}
use Rattle.copy_follow.specs.Secured.{IsNewLastBelow}
use Rattle.copy_follow.proofs.to_edge.put_edge_tiles.Given as goal

abbrev pub invariant-loop-level : goal.invariant-loop-level
invariant-loop-level g l = record {
  counted : g.D.Shelf.failed l.shelf ≡ g.D.Shelf.failed l.fn.shelf;
  secured : Secures (IsNewLastBelow l.tip.size l.edge.size l.level) (g.D.Shelf.flushes l.fn.shelf) (g.D.Shelf.flushes l.shelf);
  puts : (entries : List (List ℕ)) → length entries ≡ l.edge.size →
      ((level : ℕ) → level ≤ 7 → RowIsTrue g.H.TreeHash.digest l.edge entries level) →
      AreEdgeTilesPut g.H.TreeHash.digest l.tip.size l.edge entries (g.D.Shelf.puts l.fn.shelf) (g.D.Shelf.puts l.shelf)
      l.level;
}
