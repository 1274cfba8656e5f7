use Rattle.std.proofs.Common.{◌≡◌, ◌<◌, ℕ, get_or, length}
use Rattle.copy_places.specs.Mixes.{AreTwoAt}
use Rattle.copy_places.specs.declared.mix.TwoRows.{TwoRows}
use Rattle.copy_places.proofs.mix.rows_of_two.Given as goal

-- the rows of the levels so far
abbrev pub invariant-loop-level : goal.invariant-loop-level
invariant-loop-level l = record {
  long : length l.levels.items ≡ l.level;
  each : (k : ℕ) (d : TwoRows) → k < l.level → AreTwoAt l.first l.second k (get_or l.levels.items k d);
}
