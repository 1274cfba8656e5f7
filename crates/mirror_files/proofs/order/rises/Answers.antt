use Rattle.mirror_files.proofs.ListedItems.{rises_all, rises_more, falls_here}
use Rattle.mirror_files.proofs.order.rises.Goals as goal

pub returns-then-not-is_before : goal.returns-then-not-is_before
returns-then-not-is_before c =
    falls_here c.args.items.now c.loop-i.i c.loop-i.auto.i c.loop-i-test.true c.is_before.result _ _ c.is_before.ensures
    c.if-not-is_before.true

pub loop-i-preserved : goal.loop-i-preserved
loop-i-preserved c =
    rises_more c.args.items.now c.loop-i.i c.loop-i.auto.i c.loop-i-test.true c.is_before.result _ _ c.is_before.ensures
    c.if-not-is_before.false
    c.loop-i.invariant

pub returns : goal.returns
returns c = rises_all c.args.items.now c.loop-i.i c.loop-i-test.false c.loop-i.invariant
