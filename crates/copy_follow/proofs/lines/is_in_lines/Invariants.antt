use Rattle.std.proofs.Common.{ℕ, ◌<◌, get_or}
use Rattle.copy_places.specs.Lines.{IsInLine}
use Rattle.copy_places.specs.declared.fork_line.ForkLine.{ForkLine}
use Rattle.copy_follow.proofs.lines.is_in_lines.Given as goal

-- no earlier line has the candidate
abbrev pub invariant-loop-line : goal.invariant-loop-line
invariant-loop-line l =
    (k : ℕ) (d : ForkLine) → k < l.line-index → ¬ IsInLine l.candidate (get_or l.lines k d)
