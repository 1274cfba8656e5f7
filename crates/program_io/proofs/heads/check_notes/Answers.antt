use Rattle.std.proofs.Common.{◌∙◌, ap}
use Rattle.std.proofs.lemmas.Result.{err_from_is_err_and}
use Rattle.program_io.proofs.HeadNotes.{opened_more, refused_here}
use Rattle.program_io.proofs.heads.check_notes.Goals as goal

pub returns-in_err-checkpoint : goal.returns-in_err-checkpoint
returns-in_err-checkpoint g c =
    let p = err_from_is_err_and c.from_residual.result c.from_residual.ensures.1 in
    rw (p.1, p.2) (refused_here c.args.mirror.now.view.origin _ (λ note. note.items) c.args.notes.now c.loop-note.note-index
    c.note-item.result c.loop-note-test.true c.loop-note.heads.items c.in_err-checkpoint.field-0.0
    c.as_slice.result.now c.loop-note.invariant (c.as_slice.ensures.value ∙ ap (λ n. n.items) c.note-item.is) c.in_err-checkpoint.ensures)

pub returns-in-Err : goal.returns-in-Err
returns-in-Err g c =
    refused_here c.args.mirror.now.view.origin _ (λ note. note.items) c.args.notes.now c.loop-note.note-index
    c.note-item.result c.loop-note-test.true c.loop-note.heads.items _ c.as_slice.result.now
    c.loop-note.invariant (c.as_slice.ensures.value ∙ ap (λ n. n.items) c.note-item.is) tt

pub loop-note-preserved : goal.loop-note-preserved
loop-note-preserved g c =
    opened_more c.args.mirror.now.view.origin _ (λ note. note.items) c.args.notes.now c.loop-note.note-index
    c.note-item.result c.loop-note-test.true c.loop-note.heads.items c.push.new.self.items c.in_ok-checkpoint.checkpoint
    c.in-Ok.ensures.items c.loop-note.invariant
    (rw (c.as_slice.ensures.value, c.note-item.is) at c.in_ok-checkpoint.ensures)
