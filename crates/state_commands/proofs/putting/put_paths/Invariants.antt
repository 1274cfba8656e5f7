use Rattle.std.proofs.Common.{◌≡◌, take}
use Rattle.mirror_sources.specs.Recorded.{AddsToRecord}
use Rattle.mirror_folders.specs.Files.{files_at}
use Rattle.state_commands.proofs.putting.put_paths.Given as goal

abbrev pub invariant-loop-path : goal.invariant-loop-path
invariant-loop-path g l = record {
  recorded : AddsToRecord (g.S.Shelf.puts l.fn.shelf) (g.S.Shelf.puts l.shelf) (files_at g.H.TreeHash.digest l.source.note l.source.entries
      (take l.path-index l.paths));
  counted : g.S.Shelf.failed l.shelf ≡ g.S.Shelf.failed l.fn.shelf;
}
