use Rattle.std.proofs.Common.{◌≡◌, ℕ, ◌<◌, get_or, Greater}
use Rattle.copy_places.specs.Lines.{fork_line_cmp}
use Rattle.copy_places.specs.declared.fork_line.ForkLine.{ForkLine}
use Rattle.copy_places.proofs.fork_line.place_in.Given as goal

-- the line comes after the lines so far
abbrev pub invariant-loop-i : goal.invariant-loop-i
invariant-loop-i l = (k : ℕ) (none : ForkLine) → k < l.i → fork_line_cmp l.line (get_or l.lines k none) ≡ Greater
