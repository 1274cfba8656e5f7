use Rattle.std.proofs.Common.{◌-◌, List, ℕ}
use Rattle.tlog_tiles.specs.Bundle.{HasBundle}
use Rattle.tlog_tiles.proofs.cut.after_entries.Given as goal

abbrev pub invariant-loop : goal.invariant-loop
invariant-loop l = record {
  read : HasBundle l.counter l.bytes l.rest;
  others : (r : List ℕ) → HasBundle l.count l.bytes r → HasBundle (l.count - l.counter) l.rest r;
}
