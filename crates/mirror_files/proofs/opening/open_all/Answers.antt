use Rattle.std.proofs.lemmas.Result.{err_from_is_err_and}
use Rattle.mirror_files.proofs.OpenedNotes.{one_refused}
use Rattle.mirror_files.proofs.OpenedNotes.{all_opened, more_opened, none_opened}
use Rattle.mirror_files.proofs.opening.open_all.Goals as goal

pub loop-note-init : goal.loop-note-init
loop-note-init g c = none_opened c.args.origin.now _ c.new-heads.result.items c.new-heads.ensures.items

pub returns-in_err-head : goal.returns-in_err-head
returns-in_err-head g c =
    let p = err_from_is_err_and c.from_residual.result c.from_residual.ensures.1 in
    rw (p.1, p.2) (one_refused c.args.origin.now _ c.args.notes.now c.loop-note.note-index _ c.loop-note-test.true
    c.in_err-head.field-0.0 c.in_err-head.ensures)

pub loop-note-preserved : goal.loop-note-preserved
loop-note-preserved g c =
    more_opened c.args.origin.now _ c.args.notes.now c.loop-note.note-index _ c.loop-note-test.true
    c.loop-note.heads.items c.push.new.self.items c.in_ok-head.head c.loop-note.invariant c.in_ok-head.ensures
    c.in-Ok.ensures.items

pub returns : goal.returns
returns g c =
    all_opened c.args.origin.now _ c.args.notes.now c.loop-note.note-index c.loop-note-test.false
    c.loop-note.heads.items c.loop-note.invariant
