use Rattle.std.proofs.Common.{◌≡◌, ◌<◌, ℕ, List, [], length, get_or}
use Rattle.tlog_shape.specs.Edge.{width_of}
use Rattle.mirror_model.specs.Strings.{IsDigest}
use Rattle.log_reader.specs.Holding.{IsEdgeRowOf, IsSourceOf}
use Rattle.log_reader.proofs.RowLists.{items_of}
use Rattle.copy_reader.proofs.RowsGiven.{ReadSoFar, SoFar}
use Rattle.copy_reader.proofs.edge_rows.rows_of.Given as goal

-- the rows so far were given, and have their widths
abbrev pub invariant-loop-level : goal.invariant-loop-level
invariant-loop-level g l = record {
  counted : g.S.Source.failed l.source ≡ g.S.Source.failed l.fn.source;
  count : length l.rows.items ≡ l.level;
  widths : (k : ℕ) → k < l.level → length (get_or (items_of l.rows.items) k []) ≡ width_of l.size k;
  given : SoFar l.size l.rows.items l.level (g.S.Source.may_answer l.fn.source)
      (g.S.Source.may_answer l.source) (g.S.Source.asked l.fn.source) (g.S.Source.asked l.source);
  read : ReadSoFar l.size l.rows.items l.level (g.S.Source.may_answer l.fn.source)
      (g.S.Source.may_answer l.source) (g.S.Source.asked l.fn.source) (g.S.Source.asked l.source);
  honest : (digest : List ℕ → List ℕ) (entries : List (List ℕ)) → IsDigest digest →
      IsSourceOf digest entries (g.S.Source.may_answer l.fn.source) → length entries ≡ l.size → (k : ℕ) → k < l.level →
      IsEdgeRowOf digest l.size k entries (get_or (items_of l.rows.items) k []);
}
