use Rattle.std.proofs.Common.{◌≡◌, ℕ, ◌<◌, ◌^◌, [], ◌++◌, length, map, All}
use Rattle.std.specs.List.{flat_map}
use Rattle.tlog_tiles.specs.Bundle.{entry_text, HasBundle}
use Rattle.state_commands.proofs.entries.entries_of.Given as goal

abbrev pub invariant-loop-rest : goal.invariant-loop-rest
invariant-loop-rest l = record {
  fits : All (λ e. length e < 2 ^ 16) (map (λ e. e.items) l.entries.items);
  text : l.bytes ≡ flat_map entry_text (map (λ e. e.items) l.entries.items) ++ l.rest;
  others : (k : ℕ) → HasBundle k l.bytes [] → (j : ℕ) × HasBundle j l.rest [];
}

abbrev pub decreases-loop-rest : goal.decreases-loop-rest
decreases-loop-rest l = length l.rest
