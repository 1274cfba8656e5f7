use Rattle.std.proofs.Common.{◌≡◌, ◌<◌, ℕ, List, [], length, get_or}
use Rattle.tlog_shape.specs.Edge.{width_of}
use Rattle.mirror_sources.specs.Source.{StaysWithin}
use Rattle.mirror_sources.specs.Recorded.{KeepsRecord}
use Rattle.log_reader.specs.FalseEdges.{IsRowGiven}
use Rattle.log_reader.specs.Holding.{IsEdgeRowOf, IsSourceOf}
use Rattle.log_reader.specs.Ways.{AreHashesOf}
use Rattle.log_reader.proofs.RowLists.{items_of}
use Rattle.log_reader.proofs.edge_files.read_rows.Given as goal

-- the rows so far have their widths
abbrev pub invariant-loop-level : goal.invariant-loop-level
invariant-loop-level g l = record {
  later : StaysWithin (g.S.Source.may_answer l.fn.source) (g.S.Source.may_answer l.source);
  kept : KeepsRecord (g.S.Source.files l.fn.source) (g.S.Source.files l.source);
  counted : g.S.Source.failed l.source ≡ g.S.Source.failed l.fn.source;
  count : length l.rows.items ≡ l.level;
  widths : (k : ℕ) → k < l.level → AreHashesOf (width_of l.size k) (get_or (items_of l.rows.items) k []);
  got : (k : ℕ) → k < l.level → 0 < width_of l.size k →
      IsRowGiven (g.S.Source.may_answer l.fn.source) l.size k (get_or (items_of l.rows.items) k []);
  honest : (entries : List (List ℕ)) → length entries ≡ l.size →
      IsSourceOf g.H.TreeHash.digest entries (g.S.Source.may_answer l.fn.source) → (k : ℕ) → k < l.level →
      IsEdgeRowOf g.H.TreeHash.digest l.size k entries (get_or (items_of l.rows.items) k []);
}
