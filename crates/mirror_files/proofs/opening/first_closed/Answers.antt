use Rattle.mirror_files.proofs.OpenedNotes.{one_opens, all_open}
use Rattle.mirror_files.proofs.opening.first_closed.Goals as goal

pub loop-i-preserved : goal.loop-i-preserved
loop-i-preserved g c =
    one_opens c.args.origin.now _ c.args.notes.now c.loop-i.i _ c.loop-i-test.true
    c.loop-i.invariant (c.in_ok-is_open.ensures.0 c.if-not-branch.false)

pub returns-clause-none : goal.returns-clause-none
returns-clause-none g c =
    all_open c.args.origin.now _ c.args.notes.now c.loop-i.i c.loop-i-test.false c.loop-i.invariant
