use Rattle.std.proofs.Common.{◌≡◌, ◌++◌, take, string_bytes}
use Rattle.std.specs.List.{flat_map}
use Rattle.program_copies.specs.Text.{larger_line}
use Rattle.program_copies.proofs.text.push_larger.Given as goal

abbrev pub invariant-loop-point : goal.invariant-loop-point
invariant-loop-point l =
    string_bytes l.text ≡ string_bytes l.initial.text ++ flat_map larger_line (take l.point-index l.points)
