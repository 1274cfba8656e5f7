use Rattle.std.proofs.Common.{take}
use Rattle.copy_follow.specs.Lining.{AddsBeside}
use Rattle.copy_follow.proofs.lines.add_all_beside.Given as goal

abbrev pub invariant-loop-candidate : goal.invariant-loop-candidate
invariant-loop-candidate l =
    AddsBeside l.copy (take l.candidate-index l.candidates) l.initial.lines.items l.lines.items
