use Rattle.std.proofs.Common.{◌≡◌, ◌-◌, ◌≤◌, List, ℕ}
use Rattle.mirror_sources.specs.Recorded.{KeepsRecord}
use Rattle.log_reader.specs.Holding.{IsReaderOf}
use Rattle.copy_reader.specs.WholeCopies.{HasFilesOf}
use Rattle.program_copies.specs.Served.{WritesAll}
use Rattle.program_copies.specs.Shown.{WritesShown}
use Rattle.program_copies.proofs.copied.write_copied.Given as goal

-- the entries up to that number were written
abbrev pub invariant-loop-at : goal.invariant-loop-at
invariant-loop-at g l = record {
  low : l.range.from ≤ l.at;
  high : l.at ≤ l.range.to;
  counted : g.D.Shelf.failed l.shelf ≡ g.D.Shelf.failed l.fn.shelf;
  same : KeepsRecord (g.D.Shelf.puts l.fn.shelf) (g.D.Shelf.puts l.shelf);
  edge : l.reader.edge ≡ l.fn.reader.edge;
  written : WritesShown g.H.TreeHash.digest l.fn.reader.edge l.range.base64 l.range.from l.at
      (g.W.Write.contents l.fn.output) (g.W.Write.contents l.output);
  honest : (entries : List (List ℕ)) → IsReaderOf g.H.TreeHash.digest entries l.fn.reader →
      HasFilesOf g.H.TreeHash.digest entries (g.D.Shelf.puts l.fn.shelf) →
      IsReaderOf g.H.TreeHash.digest entries l.reader
      × WritesAll entries l.range.base64 l.range.from l.at (g.W.Write.contents l.fn.output) (g.W.Write.contents l.output);
}

abbrev pub decreases-loop-at : goal.decreases-loop-at
decreases-loop-at g l = l.range.to - l.at
