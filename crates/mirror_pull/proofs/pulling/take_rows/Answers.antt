use Rattle.std.proofs.Common.{refl}
use Rattle.std.proofs.lemmas.Result.{err_from_is_err_and}
use Rattle.mirror_pull.proofs.Gains.{takes_head_err}
use Rattle.mirror_pull.proofs.Followed.{refuses_rows}
use Rattle.mirror_pull.proofs.pulling.take_rows.Goals as goal

pub returns-in_err-take_opened_rows-clause-takes : goal.returns-in_err-take_opened_rows-clause-takes
returns-in_err-take_opened_rows-clause-takes g c = λ keys opened.
    let p = err_from_is_err_and c.from_residual.result c.from_residual.ensures.1 in
    rw (p.1, p.2)
    (takes_head_err g.H.TreeHash.digest keys c.args.mirror.now.view c.take_opened_rows.new.self.view c.args.head.note.bytes _
    c.in_err-take_opened_rows.field-0.0 (c.in_err-take_opened_rows.ensures.takes keys opened))

pub returns-in_err-take_opened_rows-clause-judged : goal.returns-in_err-take_opened_rows-clause-judged
returns-in_err-take_opened_rows-clause-judged g c = λ keys opened.
    let p = err_from_is_err_and c.from_residual.result c.from_residual.ensures.1 in
    rw (p.1, p.2)
    (refuses_rows g.H.TreeHash.digest c.args.mirror.now.view.origin keys c.args.head.note.bytes _ _
    c.in_err-take_opened_rows.field-0.0 refl (c.in_err-take_opened_rows.ensures.judged keys opened))

pub returns-clause-judged : goal.returns-clause-judged
returns-clause-judged g c = λ keys opened. tt

pub returns-clause-takes : goal.returns-clause-takes
returns-clause-takes g c = λ keys opened.
    rw c.note_held.ensures (c.in_ok-take_opened_rows.ensures.takes keys opened)
