use Rattle.std.proofs.Common.{◌≡◌, ◌++◌, length}
use Rattle.program_io.specs.ProgressText.{with_commas}
use Rattle.program_io.proofs.line.push_with_commas.Given as goal

abbrev pub invariant-loop-digit : goal.invariant-loop-digit
invariant-loop-digit l = l.text.items ++ with_commas l.rest ≡ l.initial.text.items ++ with_commas l.digits

abbrev pub decreases-loop-digit : goal.decreases-loop-digit
decreases-loop-digit l = length l.rest
