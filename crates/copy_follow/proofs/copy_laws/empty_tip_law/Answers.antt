use Rattle.std.proofs.Common.{◌≡◌, ℕ, ◌*◌, ◌%◌, ◌^◌, ◌<◌, List, [], length, refl, sym, ap}
use Rattle.std.proofs.Math.Nat.{div-eq_of_lt}
use Rattle.std.proofs.lemmas.List.Elements.{All-nil}
use Rattle.tlog_shape.specs.Edge.{edge_index_of, width_of}
use Rattle.tlog_shape.proofs.Levels.{level_positive}
use Rattle.tlog_hash.specs.Rows.{level_row}
use Rattle.copy_follow.proofs.copy_laws.empty_tip_law.Goals as goal

no_width : (level : ℕ) → width_of 0 level ≡ 0
no_width level = ap (λ q. q % 256) (div-eq_of_lt (level_positive level))

pub returns : goal.returns
returns c = λ digest. record {
  size_is = refl;
  short = All-nil (λ (e : List ℕ). length e < 2 ^ 16);
  rows_are = λ level upto. sym (ap (λ w. level_row digest [] level (256 * edge_index_of 0 level) w) (no_width level));
  bundle_is = refl;
}
