-- The levels of a way.
use Rattle.std.proofs.Common.{◌≡◌, ◌≢◌, ℕ, ◌+◌, ◌/◌, ◌^◌, ◌<◌, ◌≤◌, List, [], ◌∷◌, refl, subst, arith}
use Rattle.tlog_shape.specs.Edge.{edge_index_of}
use Rattle.tlog_shape.proofs.Edges.{level_within, rest_positive}
use Rattle.tlog_shape.proofs.Levels.{level_positive, shift_level}
use Rattle.log_reader.specs.EdgeRows.{Edge}
use Rattle.log_reader.specs.Ways.{IsShownRow, IsWay, Reader}

module _ (digest : List ℕ → List ℕ) (edge : Edge) where
  pub way_low : (level index : ℕ) (way : List (List (List ℕ))) → IsWay digest edge level index way → level ≤ 7
  way_low level index [] w = w.0
  way_low level index (row ∷ above) w = let up = way_low (level + 1) (index / 256) above w.1 in omega (arith, up)

  pub way_lower : (level index : ℕ) (way : List (List (List ℕ))) → IsWay digest edge level index way → way ≢ [] → level + 1 ≤ 7
  way_lower level index [] w some = absurd (some refl)
  way_lower level index (row ∷ above) w some = way_low (level + 1) (index / 256) above w.1

-- the row of the tile to which a reader went is shown
pub shown_there : (digest : List ℕ → List ℕ) (edge : Edge) (reader : Reader) (level index : ℕ) (row : List (List ℕ)) →
    reader.edge ≡ edge → (reader.level ≡ level) × (reader.index ≡ index) →
    IsShownRow digest reader.edge reader.level reader.index row → IsShownRow digest edge level index row
shown_there digest edge reader level index row same there shown =
    subst (λ e. IsShownRow digest e level index row) same
    (subst (λ l. IsShownRow digest reader.edge l index row) there.0
    (subst (λ j. IsShownRow digest reader.edge reader.level j row) there.1 shown))

-- a full tile has a tile above it
pub above_full : (n level index : ℕ) → n < 2 ^ 64 → index < edge_index_of n level →
    (level + 1 ≤ 7) × (index / 256 ≤ edge_index_of n (level + 1))
above_full n level index small full =
    let whole : 256 ^ (level + 1) ≤ n = rest_positive n (256 ^ (level + 1)) (level_positive (level + 1)) (omega (arith, full)) in
    let shift : n / 256 ^ (level + 1) / 256 ≡ n / 256 ^ (level + 1 + 1) = shift_level n (level + 1) in
    (level_within (level + 1) n whole small, omega (arith, full, shift))
