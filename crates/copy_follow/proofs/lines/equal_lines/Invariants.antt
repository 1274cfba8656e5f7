use Rattle.std.proofs.Common.{[], take}
use Rattle.copy_follow.specs.Lining.{AddsEqual}
use Rattle.copy_follow.proofs.lines.equal_lines.Given as goal

abbrev pub invariant-loop-candidate : goal.invariant-loop-candidate
invariant-loop-candidate l = AddsEqual l.copy l.candidates (take l.candidate-index l.candidates) [] l.lines.items
