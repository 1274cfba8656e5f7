use Rattle.std.proofs.Common.{map, take, All}
use Rattle.mirror_files.specs.Content.{IsStateString}
use Rattle.mirror_files.proofs.order.all_state_strings.Given as goal

-- the strings so far are strings of trees
abbrev pub invariant-loop-string : goal.invariant-loop-string
invariant-loop-string l = All IsStateString (take l.string-index (map (λ x. x.now) l.strings))
