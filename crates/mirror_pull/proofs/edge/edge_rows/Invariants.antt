use Rattle.std.proofs.Common.{◌≡◌, ◌≤◌, ℕ, List, length, map, take}
use Rattle.tlog_tiles.specs.Edge.{edge_of}
use Rattle.mirror_pull.specs.Asking.{AddsTo, AreFresh}
use Rattle.mirror_pull.specs.Replying.{Gathers, GivesRows}
use Rattle.mirror_pull.specs.Parts.{AreTrueRows, IsTrueSource}
use Rattle.mirror_sources.specs.Source.{StaysWithin}
use Rattle.mirror_pull.proofs.edge.edge_rows.Given as goal

abbrev pub invariant-loop-path : goal.invariant-loop-path
invariant-loop-path g l = record {
  recorded : AddsTo l.fn.asked.items l.asked.items (g.S.Source.asked l.fn.source) (g.S.Source.asked l.source);
  counted : g.S.Source.failed l.source ≡ g.S.Source.failed l.fn.source;
  replied :
      Gathers (g.S.Source.may_answer l.fn.source) (g.S.Source.asked l.fn.source) (g.S.Source.asked l.source)
      l.fn.asked.items l.asked.items
      (λ xs. GivesRows l.fn.asked.items (take l.path-index (edge_of l.fn.size)) xs
      (map (λ row. row.items) l.rows.items));
  honest :
      (digest : List ℕ → List ℕ) (entries : List (List ℕ)) →
      IsTrueSource digest entries (g.S.Source.may_answer l.fn.source) → l.fn.size ≤ length entries →
      AreFresh l.fn.asked.items (edge_of l.fn.size) →
      AreTrueRows digest entries (g.S.Source.may_answer l.fn.source) (take l.path-index (edge_of l.fn.size)) l.fn.asked.items l.asked.items
      (map (λ row. row.items) l.rows.items);
  later : StaysWithin (g.S.Source.may_answer l.fn.source) (g.S.Source.may_answer l.source);
}
