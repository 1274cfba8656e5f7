use Rattle.std.proofs.Common.{◌≡◌, length, map}
use Rattle.mirror_model.specs.TrueLaws.{AreShort}
use Rattle.bench.proofs.list.entries_of.Given as goal

-- the list has l.number entries, and each has 100 bytes
abbrev pub invariant-loop-number : goal.invariant-loop-number
invariant-loop-number l =
    AreShort (map (λ e. e.items) l.entries.items) × (length l.entries.items ≡ l.number)
