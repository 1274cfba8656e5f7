use Rattle.std.proofs.Common.{◌≡◌, ℕ, List}
use Rattle.std.specs.List.{filter}
use Rattle.mirror_folders.specs.Since.{is_new}
use Rattle.mirror_trees.specs.Tops.{IsListOf}
use Rattle.mirror_sources.specs.Recorded.{AddsToRecord}
use Rattle.mirror_folders.specs.Files.{files_at, tiles_below}
use Rattle.mirror_folders.specs.Flushes.{SecuresPuts}
use Rattle.mirror_files.proofs.exported_files.put_parts.Given as goal

abbrev pub invariant-loop-level : goal.invariant-loop-level
invariant-loop-level g l = record {
  recorded : (entries : List (List ℕ)) → IsListOf g.H.TreeHash.digest l.top entries → AddsToRecord (g.S.Shelf.puts l.fn.shelf)
      (g.S.Shelf.puts l.shelf) (files_at g.H.TreeHash.digest l.top.note entries (filter (is_new l.since) (tiles_below l.top.size l.level)));
  secured : SecuresPuts (g.S.Shelf.puts l.fn.shelf) (g.S.Shelf.puts l.shelf) (g.S.Shelf.flushes l.fn.shelf)
      (g.S.Shelf.flushes l.shelf);
  counted : g.S.Shelf.failed l.shelf ≡ g.S.Shelf.failed l.fn.shelf;
}
