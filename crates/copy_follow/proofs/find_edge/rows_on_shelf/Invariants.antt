use Rattle.std.proofs.Common.{◌≡◌, ◌<◌, ℕ, [], length, get_or}
use Rattle.mirror_sources.specs.Recorded.{KeepsRecord}
use Rattle.copy_follow.specs.Found.{IsRowRead}
use Rattle.log_reader.proofs.RowLists.{items_of}
use Rattle.copy_follow.proofs.find_edge.rows_on_shelf.Given as goal

-- the rows so far are as they are on the shelf
abbrev pub invariant-loop-level : goal.invariant-loop-level
invariant-loop-level g l = record {
  counted : g.D.Shelf.failed l.shelf ≡ g.D.Shelf.failed l.fn.shelf;
  same : KeepsRecord (g.D.Shelf.puts l.fn.shelf) (g.D.Shelf.puts l.shelf);
  still : g.D.Shelf.flushes l.shelf ≡ g.D.Shelf.flushes l.fn.shelf;
  count : length l.rows.items ≡ l.level;
  rows : (k : ℕ) → k < l.level → IsRowRead (g.D.Shelf.puts l.fn.shelf) l.size k (get_or (items_of l.rows.items) k []);
}
