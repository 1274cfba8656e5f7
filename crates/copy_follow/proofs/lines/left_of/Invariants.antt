use Rattle.copy_follow.specs.Lining.{HasLeft}
use Rattle.copy_follow.proofs.lines.left_of.Given as goal

abbrev pub invariant-loop-i : goal.invariant-loop-i
invariant-loop-i l = HasLeft l.copy l.candidates l.lines l.i l.larger.items
