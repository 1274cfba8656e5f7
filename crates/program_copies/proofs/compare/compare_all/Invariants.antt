use Rattle.std.proofs.Common.{◌≡◌, List, map, take, ℕ}
use Rattle.std.specs.Prelude.{All}
use Rattle.mirror_sources.specs.Recorded.{KeepsRecord}
use Rattle.mirror_trees.specs.Marked.{point_of}
use Rattle.tlog_mirror.specs.Compared.{IsCompared, compared_point}
use Rattle.log_reader.specs.Holding.{IsReaderOf}
use Rattle.copy_reader.specs.WholeCopies.{HasFilesOf}
use Rattle.program_copies.specs.Comparisons.{IsComparedTo}
use Rattle.program_copies.proofs.compare.compare_all.Given as goal

-- the tree heads so far are compared, and nothing was put
abbrev pub invariant-loop-head : goal.invariant-loop-head
invariant-loop-head g l = record {
  edge : l.reader.edge ≡ l.initial.reader.edge;
  root : l.reader.root ≡ l.initial.reader.root;
  heads : map compared_point l.compared.items ≡ map point_of (take l.head-index l.heads);
  each : All (IsComparedTo g.H.TreeHash.digest l.initial.reader.edge.size l.initial.reader.root) l.compared.items;
  same : KeepsRecord (g.D.Shelf.puts l.initial.shelf) (g.D.Shelf.puts l.shelf);
  counted : g.D.Shelf.failed l.shelf ≡ g.D.Shelf.failed l.initial.shelf;
  honest : (entries : List (List ℕ)) → IsReaderOf g.H.TreeHash.digest entries l.initial.reader →
      HasFilesOf g.H.TreeHash.digest entries (g.D.Shelf.puts l.initial.shelf) →
      IsReaderOf g.H.TreeHash.digest entries l.reader × All (IsCompared g.H.TreeHash.digest entries) l.compared.items;
}
