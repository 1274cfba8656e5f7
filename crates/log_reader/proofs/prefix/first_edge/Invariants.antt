use Rattle.std.proofs.Common.{◌≡◌, ◌<◌, ℕ, List, [], length, get_or, take}
use Rattle.mirror_sources.specs.Source.{StaysWithin}
use Rattle.mirror_sources.specs.Recorded.{KeepsRecord}
use Rattle.log_reader.specs.Holding.{IsEdgeRowOf, IsReaderOf, HasFullTiles}
use Rattle.log_reader.specs.Ways.{IsShownPart}
use Rattle.log_reader.proofs.RowLists.{items_of}
use Rattle.log_reader.proofs.prefix.first_edge.Given as goal

-- the rows so far are shown
abbrev pub invariant-loop-level : goal.invariant-loop-level
invariant-loop-level g l = record {
  edge : l.reader.edge ≡ l.fn.reader.edge;
  root : l.reader.root ≡ l.fn.reader.root;
  later : StaysWithin (g.S.Source.may_answer l.fn.source) (g.S.Source.may_answer l.source);
  kept : KeepsRecord (g.S.Source.files l.fn.source) (g.S.Source.files l.source);
  counted : g.S.Source.failed l.source ≡ g.S.Source.failed l.fn.source;
  count : length l.rows.items ≡ l.level;
  shown : (k : ℕ) → k < l.level →
      IsShownPart g.H.TreeHash.digest l.fn.reader.edge l.size k (get_or (items_of l.rows.items) k []);
  honest : (entries : List (List ℕ)) → IsReaderOf g.H.TreeHash.digest entries l.fn.reader →
      HasFullTiles g.H.TreeHash.digest entries (g.S.Source.may_answer l.fn.source) →
      IsReaderOf g.H.TreeHash.digest entries l.reader × ((k : ℕ) → k < l.level →
      IsEdgeRowOf g.H.TreeHash.digest l.size k (take l.size entries) (get_or (items_of l.rows.items) k []));
}
