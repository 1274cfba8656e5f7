use Rattle.std.proofs.Common.{◌≡◌, ◌<◌, ℕ, None, length, get_or}
use Rattle.std.specs.Prelude.{IfSome, option_map}
use Rattle.tlog_shape.specs.Edge.{width_of}
use Rattle.mirror_sources.specs.Recorded.{KeepsRecord}
use Rattle.copy_places.specs.FoundRows.{IsFoundRow}
use Rattle.mirror_folders.specs.Partial.{IsReadPartial}
use Rattle.copy_places.proofs.shelf_edge.rows_on_shelf.Given as goal

-- the rows so far have the widths of their levels, and come from the shelf
abbrev pub invariant-loop-level : goal.invariant-loop-level
invariant-loop-level g l = record {
  same : KeepsRecord (g.D.Shelf.puts l.fn.shelf) (g.D.Shelf.puts l.shelf);
  counted : g.D.Shelf.failed l.shelf ≡ g.D.Shelf.failed l.fn.shelf;
  count : length l.rows.items ≡ l.level;
  wide : (k : ℕ) → k < l.level → IfSome (option_map (λ row. row.items) (get_or l.rows.items k None))
      (λ row. length row ≡ width_of l.size k);
  read : (k : ℕ) → k < l.level → IsFoundRow (IsReadPartial (g.D.Shelf.puts l.fn.shelf)) l.size k
      (option_map (λ row. row.items) (get_or l.rows.items k None));
}
