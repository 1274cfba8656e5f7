use Rattle.tlog_mirror.proofs.mirror.Mirror.take_opened_rows.Goals as goal

pub returns-in-Ok-clause-takes : goal.returns-in-Ok-clause-takes
returns-in-Ok-clause-takes g c = λ keys opened.
    rw c.in-Ok.ensures at (rw c.as_slice.ensures.value at c.take_opened.ensures.takes keys opened)

pub returns-in-Ok-clause-judged : goal.returns-in-Ok-clause-judged
returns-in-Ok-clause-judged g c = λ keys opened.
    rw c.in-Ok.ensures at (rw c.as_slice.ensures.value at c.take_opened.ensures.judged keys opened)
