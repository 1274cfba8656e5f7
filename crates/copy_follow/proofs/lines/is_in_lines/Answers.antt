use Rattle.std.proofs.Common.{arith, sym}
use Rattle.copy_follow.proofs.lines.is_in_lines.Goals as goal

pub returns-then-is_in_line-clause-yes : goal.returns-then-is_in_line-clause-yes
returns-then-is_in_line-clause-yes c = λ e. record {
  line = c.line-item.result;
  listed = (c.loop-line.line-index, omega (arith, c.loop-line-test.true), sym c.line-item.is);
  is_in = c.is_in_line.ensures.0 c.if-is_in_line.true;
}
