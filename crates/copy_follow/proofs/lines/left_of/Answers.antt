use Rattle.std.proofs.Common.{arith, subst, sym}
use Rattle.copy_follow.specs.Lining.{HasLeft}
use Rattle.copy_follow.proofs.Lining.{left_all, left_none}
use Rattle.copy_follow.proofs.lines.left_of.Goals as goal

pub loop-i-init : goal.loop-i-init
loop-i-init c =
    subst (HasLeft c.args.copy.now c.args.candidates.now c.args.lines.now 0) (sym c.new-larger.ensures.items)
    (left_none c.args.copy.now c.args.candidates.now c.args.lines.now)

pub loop-i-preserved : goal.loop-i-preserved
loop-i-preserved c = c.in_ok-add_left.ensures c.loop-i.invariant

pub returns : goal.returns
returns c =
    left_all c.args.copy.now c.args.candidates.now c.args.lines.now c.loop-i.i c.loop-i.larger.items
    (omega (arith, c.loop-i-test.false)) c.loop-i.invariant
