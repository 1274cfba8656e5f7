use Rattle.std.proofs.Common.{◌≡◌}
use Rattle.state_commands.specs.Signing.{first_secret}
use Rattle.state_commands.proofs.signing.signing_key.Given as goal

-- the first key with a shared secret is the first one in the lines that are left
abbrev pub invariant-loop-line : goal.invariant-loop-line
invariant-loop-line l =
    (goal.iterator-loop-line).can_next l.line-iterator ×
    (goal.iterator-loop-line).is_finite l.line-iterator ×
    (first_secret l.line-iterator.rest.items ≡ first_secret l.fn.keys.items)
