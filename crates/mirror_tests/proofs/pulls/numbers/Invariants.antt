use Rattle.std.proofs.Common.{map}
use Rattle.mirror_model.specs.TrueLaws.{AreShort}
use Rattle.mirror_tests.proofs.pulls.numbers.Given as goal

-- each number up to here has two bytes
abbrev pub invariant-loop-i : goal.invariant-loop-i
invariant-loop-i l = AreShort (map (λ e. e.items) l.entries.items)
