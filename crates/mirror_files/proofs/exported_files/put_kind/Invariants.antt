use Rattle.std.proofs.Common.{◌≡◌, ℕ, List, map}
use Rattle.std.specs.List.{filter, range_with_len}
use Rattle.mirror_folders.specs.Since.{is_new}
use Rattle.mirror_trees.specs.Tops.{IsListOf}
use Rattle.mirror_sources.specs.Recorded.{AddsToRecord}
use Rattle.mirror_folders.specs.Files.{files_at, kind_path}
use Rattle.mirror_folders.specs.Flushes.{SecuresPuts}
use Rattle.mirror_files.proofs.exported_files.put_kind.Given as goal

abbrev pub invariant-loop-index : goal.invariant-loop-index
invariant-loop-index g l = record {
  recorded : (entries : List (List ℕ)) → IsListOf g.H.TreeHash.digest l.top entries →
      AddsToRecord (g.S.Shelf.puts l.fn.shelf) (g.S.Shelf.puts l.shelf) (files_at g.H.TreeHash.digest l.top.note entries
      (filter (is_new l.since) (map (λ index. kind_path l.kind index 256) (range_with_len 0 l.index))));
  secured : SecuresPuts (g.S.Shelf.puts l.fn.shelf) (g.S.Shelf.puts l.shelf) (g.S.Shelf.flushes l.fn.shelf)
      (g.S.Shelf.flushes l.shelf);
  counted : g.S.Shelf.failed l.shelf ≡ g.S.Shelf.failed l.fn.shelf;
}
