use Rattle.std.proofs.Common.{◌≡◌, ◌<◌, ℕ, None, length, get_or}
use Rattle.std.specs.Prelude.{IfSome, option_map}
use Rattle.tlog_shape.specs.Edge.{width_of}
use Rattle.copy_places.specs.AskedEnds.{AsksEnds, IsEndSize}
use Rattle.copy_places.specs.KeptRows.{IsKeptRow}
use Rattle.copy_places.proofs.kept.kept_rows.Given as goal

-- the rows so far have the widths of their levels, and come from the kept answers
abbrev pub invariant-loop-level : goal.invariant-loop-level
invariant-loop-level g l = record {
  goes : AsksEnds g.S.Source.may_answer g.S.Source.failed g.S.Source.asked l.fn.places l.places;
  listed : l.index < length l.places.list.items;
  end : IsEndSize l.places l.size;
  count : length l.rows.items ≡ l.level;
  wide : (k : ℕ) → k < l.level → IfSome (option_map (λ row. row.items) (get_or l.rows.items k None))
      (λ row. length row ≡ width_of l.size k);
  kept : (k : ℕ) → k < l.level → IsKeptRow l.places.ends.tiles.items l.index l.size k
      (option_map (λ row. row.items) (get_or l.rows.items k None));
}
