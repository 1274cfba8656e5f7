use Rattle.std.proofs.Common.{arith}
use Rattle.copy_follow.proofs.Lining.{beside_all, beside_first, beside_then}
use Rattle.copy_follow.proofs.lines.add_all_beside.Goals as goal

pub loop-candidate-init : goal.loop-candidate-init
loop-candidate-init c = beside_first c.args.copy.now c.args.lines.now.items

pub loop-candidate-preserved : goal.loop-candidate-preserved
loop-candidate-preserved c =
    beside_then c.args.copy.now c.args.candidates.now c.loop-candidate.candidate-index c.candidate-item.result
    c.args.lines.now.items c.loop-candidate.lines.items c.add_beside.new.lines.items
    (omega (arith, c.loop-candidate-test.true)) c.candidate-item.is c.loop-candidate.invariant c.in_ok-add_beside.ensures

pub returns : goal.returns
returns c =
    beside_all c.args.copy.now c.args.candidates.now c.loop-candidate.candidate-index c.args.lines.now.items
    c.loop-candidate.lines.items (omega (arith, c.loop-candidate-test.false)) c.loop-candidate.invariant
