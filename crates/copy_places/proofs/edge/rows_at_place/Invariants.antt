use Rattle.std.proofs.Common.{◌≡◌, ◌*◌, ◌<◌, ◌≤◌, ℕ, None, Some, length, get_or}
use Rattle.std.specs.Prelude.{IfSome, option_map}
use Rattle.tlog_shape.specs.Edge.{edge_index_of, width_of}
use Rattle.tlog_hash.specs.Rows.{level_row}
use Rattle.copy_places.specs.Asked.{IsEdgeTile}
use Rattle.copy_places.specs.AskedOnce.{AsksOnce, IsAtPlace, IsEdgeTileBelow}
use Rattle.copy_places.specs.PlaceGets.{AsksPlaces}
use Rattle.copy_places.specs.Giving.{IsRowFrom, MayGive}
use Rattle.copy_places.specs.TrueAnswers.{OfTruePlace}
use Rattle.copy_places.specs.declared.place.Place.{Place}
use Rattle.copy_places.proofs.edge.rows_at_place.Given as goal

-- the rows so far come from bytes that the place gave. They are true if it gives only true files
abbrev pub invariant-loop-level : goal.invariant-loop-level
invariant-loop-level g l = record {
  asks : AsksPlaces g.S.Source.may_answer g.S.Source.failed g.S.Source.asked (IsEdgeTile l.size) l.fn.places l.places;
  once : AsksOnce g.S.Source.asked (IsAtPlace l.index (IsEdgeTileBelow l.size l.level)) l.fn.places l.places;
  listed : l.index < length l.fn.places.list.items;
  before : (d : Place _) → (get_or l.fn.places.list.items l.index d).failures ≡ l.failures;
  count : length l.rows.items ≡ l.level;
  taken : (k : ℕ) → k < l.level → IfSome (option_map (λ row. row.items) (get_or l.rows.items k None))
      (IsRowFrom (MayGive g.S.Source.may_answer l.fn.places) l.size k);
  honest : OfTruePlace g.S.Source.may_answer l.fn.places l.places l.index (λ digest entries. l.size ≤ length entries →
      (k : ℕ) → k < l.level → option_map (λ row. row.items) (get_or l.rows.items k None)
      ≡ Some (level_row digest entries k (256 * edge_index_of l.size k) (width_of l.size k)));
}
