use Rattle.std.proofs.Common.{◌≡◌, ℕ, List, [], ◌∷◌, ◌++◌, subst, ◌∙◌}
use Rattle.std.proofs.lemmas.Result.{err_from_is_err_and}
use Rattle.tlog_tiles.specs.declared.paths.Path.TheVariants.{Checkpoint}
use Rattle.mirror_folders.specs.Shelf.{RecordsPut}
use Rattle.mirror_folders.specs.Files.{file_at, kind_paths, tile_paths}
use Rattle.mirror_folders.specs.declared.kind.FileKind.TheVariants.{Bundles}
use Rattle.mirror_folders.specs.Since.{is_new}
use Rattle.mirror_files.proofs.Flushing.{export_last}
use Rattle.mirror_files.proofs.Prefixes.{files_more, files_result, put_result}
use Rattle.mirror_files.proofs.exported_files.put_served.Goals as goal

pub returns-in_err-put_parts-clause-recorded : goal.returns-in_err-put_parts-clause-recorded
returns-in_err-put_parts-clause-recorded g c =
    let puts = g.S.Shelf.puts in
    let n = c.args.top.now.size in
    let p = err_from_is_err_and c.from_residual.result c.from_residual.ensures.1 in
    λ entries is. let file = file_at g.H.TreeHash.digest c.args.top.now.note entries in
    rw p.1 (files_more file (is_new 0) (puts c.args.shelf.now) (puts c.put_parts.new.shelf) (tile_paths n ++ kind_paths n Bundles)
    (Checkpoint ∷ []) (c.in_err-put_parts.ensures.recorded entries is))

pub returns-clause-recorded : goal.returns-clause-recorded
returns-clause-recorded g c =
    let puts = g.S.Shelf.puts in
    let n = c.args.top.now.size in
    let note : c.bytes.result.now ≡ c.args.top.now.note = c.bytes.ensures.bytes ∙ c.note.ensures in
    λ entries is. let file = file_at g.H.TreeHash.digest c.args.top.now.note entries in
    let last = subst (λ (bytes : List ℕ). RecordsPut (puts c.put_parts.new.shelf) (puts c.put.new.self) (Checkpoint, bytes) c.put.result)
    note c.put.ensures.recorded in
    files_result file (is_new 0) (puts c.args.shelf.now) (puts c.put_parts.new.shelf) (puts c.put.new.self)
    (tile_paths n ++ kind_paths n Bundles) (Checkpoint ∷ []) c.put.result (c.in_ok-put_parts.ensures.recorded entries is)
    (put_result file (puts c.put_parts.new.shelf) (puts c.put.new.self) Checkpoint c.put.result last)

pub returns-in_err-put_parts-clause-flushed : goal.returns-in_err-put_parts-clause-flushed
returns-in_err-put_parts-clause-flushed g c =
    let p = err_from_is_err_and c.from_residual.result c.from_residual.ensures.1 in
    rw p.1 c.in_err-put_parts.ensures.secured

pub returns-clause-flushed : goal.returns-clause-flushed
returns-clause-flushed g c =
    let puts = g.S.Shelf.puts in
    let flushes = g.S.Shelf.flushes in
    export_last (puts c.args.shelf.now) (puts c.put_parts.new.shelf) (puts c.put.new.self) (flushes c.args.shelf.now)
    (flushes c.put_parts.new.shelf) (flushes c.put.new.self) c.in_ok-put_parts.ensures.secured _ c.put.result
    c.put.ensures.recorded c.put.ensures.secured c.put.ensures.flushed
