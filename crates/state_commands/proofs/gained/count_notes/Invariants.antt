use Rattle.std.proofs.Common.{◌≤◌}
use Rattle.std.specs.FinSet.{len}
use Rattle.state_commands.proofs.gained.count_notes.Given as goal

-- the mirror has at least `i` notes
abbrev pub invariant-loop-i : goal.invariant-loop-i
invariant-loop-i g l = l.i ≤ len l.mirror.view.notes
