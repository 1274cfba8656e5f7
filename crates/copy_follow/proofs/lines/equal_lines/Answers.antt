use Rattle.std.proofs.Common.{arith, []}
use Rattle.copy_follow.proofs.Lining.{equal_all, equal_then}
use Rattle.copy_follow.proofs.lines.equal_lines.Goals as goal

pub loop-candidate-preserved : goal.loop-candidate-preserved
loop-candidate-preserved c =
    equal_then c.args.copy.now c.args.candidates.now c.loop-candidate.candidate-index c.candidate-item.result []
    c.loop-candidate.lines.items c.add_equal.new.lines.items (omega (arith, c.loop-candidate-test.true))
    c.candidate-item.is c.loop-candidate.invariant c.in_ok-add_equal.ensures

pub returns : goal.returns
returns c =
    equal_all c.args.copy.now c.args.candidates.now c.loop-candidate.candidate-index c.loop-candidate.lines.items
    (omega (arith, c.loop-candidate-test.false)) c.loop-candidate.invariant
