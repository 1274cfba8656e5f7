use Rattle.std.proofs.Common.{◌∙◌}
use Rattle.std.proofs.lemmas.Result.{err_from_is_err_and}
use Rattle.tlog_tiles.specs.declared.paths.Path.TheVariants.{Checkpoint}
use Rattle.mirror_folders.specs.Files.{file_at}
use Rattle.state_commands.proofs.PutPaths.{path_put, path_cut}
use Rattle.state_commands.proofs.putting.put_paths.Goals as goal

pub returns-in_err-put_path-clause-recorded : goal.returns-in_err-put_path-clause-recorded
returns-in_err-put_path-clause-recorded g c =
    let puts = g.S.Shelf.puts in
    let p = err_from_is_err_and c.from_residual.result c.from_residual.ensures.1 in
    rw p.1 (path_cut (file_at g.H.TreeHash.digest c.args.source.now.note c.args.source.now.entries) (puts c.args.shelf.now)
    (puts c.loop-path.shelf) (puts c.put_path.new.shelf) c.args.paths.now c.loop-path.path-index Checkpoint
    c.loop-path-test.true c.loop-path.invariant.recorded c.in_err-put_path.ensures.recorded)

pub loop-path-preserved : goal.loop-path-preserved
loop-path-preserved g c =
    let puts = g.S.Shelf.puts in
    record {
      recorded = path_put (file_at g.H.TreeHash.digest c.args.source.now.note c.args.source.now.entries) (puts c.args.shelf.now)
          (puts c.loop-path.shelf) (puts c.put_path.new.shelf) c.args.paths.now c.loop-path.path-index Checkpoint
          c.loop-path-test.true c.loop-path.invariant.recorded c.in_ok-put_path.ensures.recorded;
      counted = c.in_ok-put_path.ensures.counted ∙ c.loop-path.invariant.counted;
    }
