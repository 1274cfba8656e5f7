use Rattle.std.proofs.lemmas.Result.{err_from_is_err_and}
use Rattle.state_commands.proofs.Logs.{log_opens, log_put, log_ended, log_refused}
use Rattle.state_commands.proofs.building.put_log.Goals as goal

pub returns-clause-builds : goal.returns-clause-builds
returns-clause-builds g c =
    let s = c.in_ok-source.source in
    log_put g.H.TreeHash.digest c.args.origin.now _ _ s.entries s.note c.in_ok-source.ensures.entries
    c.in_ok-source.ensures.honest _ c.args.mirror.now.view c.requires.empty c.in_ok-check_note.ensures.opens
    (g.S.Shelf.puts c.args.shelf.now) (g.S.Shelf.puts c.put_files.new.shelf)
    (Unit {0}) (Unit {0}) (tt {0}) (tt {0}) c.in_ok-put_files.ensures.puts

pub returns-in_err-put_files-clause-builds : goal.returns-in_err-put_files-clause-builds
returns-in_err-put_files-clause-builds g c =
    let s = c.in_ok-source.source in
    let p = err_from_is_err_and c.from_residual-in_err-put_files.result c.from_residual-in_err-put_files.ensures.1 in
    rw (p.1, p.2)
    (log_ended g.H.TreeHash.digest c.args.origin.now _ _ s.entries s.note c.in_ok-source.ensures.entries
    c.in_ok-source.ensures.honest _ c.args.mirror.now.view c.requires.empty c.in_ok-check_note.ensures.opens
    (g.S.Shelf.puts c.args.shelf.now) (g.S.Shelf.puts c.put_files.new.shelf)
    (Unit {0}) (Unit {0}) c.in_err-put_files.field-0.0 c.in_err-put_files.ensures.puts)

pub returns-in_err-check_note-clause-builds : goal.returns-in_err-check_note-clause-builds
returns-in_err-check_note-clause-builds g c =
    let s = c.in_ok-source.source in
    let p = err_from_is_err_and c.from_residual-in_err-check_note.result c.from_residual-in_err-check_note.ensures.1 in
    rw (p.1, p.2)
    (log_refused g.H.TreeHash.digest c.args.origin.now _ _ _ (g.S.Shelf.puts c.args.shelf.now) (Unit {0})
    c.in_err-check_note.field-0.0
    (λ has. c.in_err-check_note.ensures.fault _ _
    (log_opens g.H.TreeHash.digest c.args.origin.now _ _ s.entries s.note c.in_ok-source.ensures.entries
    c.in_ok-source.ensures.honest _ c.args.mirror.now.view c.requires.empty has)))
