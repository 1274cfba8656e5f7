use Rattle.std.proofs.Common.{◌≡◌, ◌<◌, ℕ, [], length, get_or}
use Rattle.log_reader.proofs.RowLists.{items_of}
use Rattle.copy_places.specs.Giving.{MayGive}
use Rattle.copy_places.specs.PlaceGets.{AsksPlaces}
use Rattle.copy_follow.specs.Repaired.{BeginsTile, IsOfEdge}
use Rattle.copy_follow.proofs.wider.rows_in_wider.Given as goal

abbrev pub invariant-loop-level : goal.invariant-loop-level
invariant-loop-level g l = record {
  asks : AsksPlaces g.S.Source.may_answer g.S.Source.failed g.S.Source.asked (IsOfEdge l.size) l.fn.places l.places;
  count : length l.rows.items ≡ l.level;
  taken : (k : ℕ) → k < l.level →
      BeginsTile (MayGive g.S.Source.may_answer l.fn.places) l.size k (get_or (items_of l.rows.items) k []);
}
