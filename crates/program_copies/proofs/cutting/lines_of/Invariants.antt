use Rattle.std.proofs.Common.{◌≡◌, take, string_bytes}
use Rattle.std.specs.List.{flat_map}
use Rattle.program_copies.specs.Texts.{entry_line}
use Rattle.program_copies.proofs.cutting.lines_of.Given as goal

abbrev pub invariant-loop-entry : goal.invariant-loop-entry
invariant-loop-entry l = string_bytes l.text ≡ flat_map (λ e. entry_line e.now) (take l.entry-index l.entries)
