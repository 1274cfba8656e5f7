use Rattle.std.proofs.Common.{◌≡◌}
use Rattle.std.proofs.lemmas.Result.{err_from_is_err_and}
use Rattle.mirror_pull.proofs.HeadsRead.{opened_head}
use Rattle.mirror_pull.proofs.TruePulls.{some_same}
use Rattle.state_commands.proofs.Logs.{note_opens, note_refused}
use Rattle.state_commands.proofs.building.check_note.Goals as goal

pub returns-clause-opens : goal.returns-clause-opens
returns-clause-opens g c =
    let s = c.args.source.now in
    let note_is : c.in-Some.note.now ≡ s.note = some_same c.in-Some.note.now s.note (rw c.in-Some.is at c.file_at.ensures) in
    note_opens c.in-Some.note.now s.note c.args.mirror.now.view.origin _ _ _ note_is
    (opened_head c.in-Some.note.now c.args.mirror.now.view.origin _ c.in_ok-check_head.field-0 c.in_ok-check_head.ensures)

pub returns-in_err-check_head-clause-fault : goal.returns-in_err-check_head-clause-fault
returns-in_err-check_head-clause-fault g c =
    let p = err_from_is_err_and c.from_residual.result c.from_residual.ensures.1 in
    let s = c.args.source.now in
    let note_is : c.in-Some.note.now ≡ s.note = some_same c.in-Some.note.now s.note (rw c.in-Some.is at c.file_at.ensures) in
    rw (p.1, p.2)
    (note_refused c.in-Some.note.now s.note c.args.mirror.now.view.origin _ c.in_err-check_head.field-0.0 note_is
    c.in_err-check_head.ensures)
