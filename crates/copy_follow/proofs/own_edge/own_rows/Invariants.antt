use Rattle.std.proofs.Common.{◌≡◌, ◌<◌, ℕ, None, length, get_or}
use Rattle.std.specs.Prelude.{option_map}
use Rattle.mirror_folders.specs.Shelf.{RecordsRead}
use Rattle.mirror_sources.specs.Recorded.{KeepsRecord}
use Rattle.copy_places.specs.FoundRows.{IsFoundRow}
use Rattle.mirror_folders.specs.Partial.{IsReadCut}
use Rattle.copy_follow.proofs.own_edge.own_rows.Given as goal

-- the rows so far come from the shelf
abbrev pub invariant-loop-level : goal.invariant-loop-level
invariant-loop-level g l = record {
  same : KeepsRecord (g.D.Shelf.puts l.fn.shelf) (g.D.Shelf.puts l.shelf);
  counted : g.D.Shelf.failed l.shelf ≡ g.D.Shelf.failed l.fn.shelf;
  many_parts : length l.parts.items ≡ l.level;
  many_cuts : length l.cuts.items ≡ l.level;
  parts : (k : ℕ) → k < l.level → IsFoundRow (RecordsRead (g.D.Shelf.puts l.fn.shelf)) l.size k
      (option_map (λ row. row.items) (get_or l.parts.items k None));
  cuts : (k : ℕ) → k < l.level → IsFoundRow (IsReadCut (g.D.Shelf.puts l.fn.shelf)) l.size k
      (option_map (λ row. row.items) (get_or l.cuts.items k None));
}
