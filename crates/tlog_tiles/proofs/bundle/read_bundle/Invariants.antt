use Rattle.std.proofs.Common.{◌≡◌, ℕ, ◌-◌, ◌<◌, ◌^◌, List, ◌++◌, length, map, All}
use Rattle.std.specs.List.{flat_map}
use Rattle.tlog_tiles.specs.Bundle.{entry_text, HasBundle}
use Rattle.tlog_tiles.proofs.bundle.read_bundle.Given as goal

abbrev pub invariant-loop : goal.invariant-loop
invariant-loop l = record {
  count : length l.entries.items ≡ l.counter;
  fits : All (λ e. length e < 2 ^ 16) (map (λ e. e.now) l.entries.items);
  text : l.bytes ≡ flat_map entry_text (map (λ e. e.now) l.entries.items) ++ l.rest;
  others : (r : List ℕ) → HasBundle l.width l.bytes r → HasBundle (l.width - l.counter) l.rest r;
}
