use Rattle.std.proofs.Common.{option_map}
use Rattle.program_copies.proofs.Noted.{looks_early, runs_early}
use Rattle.program_copies.proofs.following.run_follow.Goals as goal

pub returns-in-Err-clause-runs : goal.returns-in-Err-clause-runs
returns-in-Err-clause-runs g c =
    runs_early g.H.TreeHash.digest g.S.Source.may_answer g.S.Source.failed g.S.Source.asked _ _ c.args.places.now _ _
    (g.D.NamedFolders.held c.args.folders.now c.args.following.now.folder.now) (g.D.Shelf.puts c.args.folders.now)
    (g.D.Shelf.puts c.begin_run.new.folders) (g.D.Shelf.failed c.args.folders.now) (g.D.Shelf.failed c.begin_run.new.folders)
    (g.F.NamedFiles.puts c.args.files.now) (g.W.Write.contents c.args.output.now) c.in-Err.fault c.in-Err.ensures.early
    c.begin_run.ensures.counted

pub returns-clause-runs : goal.returns-clause-runs
returns-clause-runs g c =
    rw c.in-Ok.ensures.opened at
    (rw c.begin_run.ensures.counted at (c.follow_open.ensures.runs (g.D.Shelf.puts c.args.folders.now)))

pub returns-in-Err-clause-looks : goal.returns-in-Err-clause-looks
returns-in-Err-clause-looks g c =
    looks_early g.D.Shelf.puts g.S.Source.may_answer (g.F.NamedFiles.puts c.args.files.now)
    (option_map (λ name. name.now) c.args.following.now.checkpoint) c.args.places.now
    (g.D.NamedFolders.held c.args.folders.now c.args.following.now.folder.now) (g.D.Shelf.puts c.args.folders.now)
    (g.D.Shelf.puts c.begin_run.new.folders) c.in-Err.fault c.in-Err.ensures.early

pub returns-clause-looks : goal.returns-clause-looks
returns-clause-looks g c = rw c.in-Ok.ensures.opened at c.follow_open.ensures.looks
