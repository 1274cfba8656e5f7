use Rattle.std.proofs.Common.{map}
use Rattle.mirror_model.specs.TrueLaws.{AreShort}
use Rattle.mirror_tests.proofs.client.pulls.numbers.Given as goal

-- each number up to here has two bytes
abbrev pub invariant-loop-number : goal.invariant-loop-number
invariant-loop-number l = AreShort (map (λ e. e.items) l.entries.items)
