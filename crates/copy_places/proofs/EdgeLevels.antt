-- The edge rows of a place are requested level by level, so no path twice.
use Rattle.std.proofs.Common.{◌≡◌, ◌≢◌, ℕ, ◌+◌, ◌≤◌, List, Option, inl, inr, refl, sym, subst, ap, ◌∙◌, arith}
use Rattle.tlog_shape.specs.Edge.{edge_index_of, width_of}
use Rattle.tlog_tiles.specs.Edge.{level_of}
use Rattle.tlog_tiles.specs.declared.paths.Path.{Path}
use Rattle.tlog_tiles.specs.declared.paths.Path.TheVariants.{Tile}
use Rattle.mirror_sources.specs.Files.{full_of, width_named}
use Rattle.copy_places.specs.Asked.{IsEdgeTile, IsPathOrFull}
use Rattle.copy_places.specs.AskedOnce.{AsksOnce, IsAtPlace, IsEdgeTileAt, IsEdgeTileBelow}
use Rattle.copy_places.specs.declared.places.Places.{Places}
use Rattle.copy_places.proofs.AskingOnce.{once_then, once_weaker}

pub edge_tile_asked : (n level : ℕ) → level ≤ 7 → 1 ≤ width_of n level → (whole path : Path) →
    whole ≡ Tile level (edge_index_of n level) (width_of n level) → IsPathOrFull whole path → IsEdgeTile n path
edge_tile_asked n level upto some whole path is h = record {
  level = level;
  upto = upto;
  some = some;
  is = subst (λ p. IsPathOrFull p path) is h;
}

edge_level : (n : ℕ) (path : Path) (tile : IsEdgeTile n path) → level_of path ≡ tile.level
edge_level n path tile = elim tile.is [ inl e ↦ ap level_of e | inr e ↦ ap level_of e ]

pub edge_apart : (n level : ℕ) (path : Path) → IsEdgeTileBelow n level path → IsEdgeTileAt n level path → ⊥
edge_apart n level path below at =
    let lower = edge_level n path below.0 in
    let this = edge_level n path at.0 in
    omega (arith, lower, this, below.1, at.1)

-- a path with a width below 256 is not that of its full file
pub tile_partial : (level index n at : ℕ) (path : Path) → path ≡ Tile level index (width_of n at) → path ≢ full_of path
tile_partial level index n at path is e =
    let named : width_of n at ≡ 256 = ap width_named (sym is ∙ (e ∙ ap full_of is)) in omega (arith, named)

-- the path of the partial tile of a level, or its full path
pub tile_at : (n level : ℕ) → level ≤ 7 → 1 ≤ width_of n level → (whole path : Path) →
    whole ≡ Tile level (edge_index_of n level) (width_of n level) → IsPathOrFull whole path → IsEdgeTileAt n level path
tile_at n level upto some whole path is h = (
  record {
    level = level;
    upto = upto;
    some = some;
    is = subst (λ p. IsPathOrFull p path) is h;
  },
  refl,
)

module _ {S : Type 0} (asked : S → Option (List Path)) where
  -- the edge rows of a place, level by level
  pub once_level : (n level index : ℕ) (x y z : Places S) → AsksOnce asked (IsAtPlace index (IsEdgeTileBelow n level)) x y →
      AsksOnce asked (IsAtPlace index (IsEdgeTileAt n level)) y z → AsksOnce asked (IsAtPlace index (IsEdgeTileBelow n (level + 1))) x z
  once_level n level index = once_then asked (IsAtPlace index (IsEdgeTileBelow n level)) (IsAtPlace index (IsEdgeTileAt n level))
      (IsAtPlace index (IsEdgeTileBelow n (level + 1))) (λ k path below at. edge_apart n level path below.1 at.1)
      (λ k path below. (below.0, (below.1.0, let lt = below.1.1 in omega (arith, lt))))
      (λ k path at. (at.0, (at.1.0, let is = at.1.1 in omega (arith, is))))

  pub once_levels : (n level index : ℕ) (x y : Places S) → AsksOnce asked (IsAtPlace index (IsEdgeTileBelow n level)) x y →
      AsksOnce asked (IsAtPlace index (IsEdgeTile n)) x y
  once_levels n level index = once_weaker asked (IsAtPlace index (IsEdgeTileBelow n level)) (IsAtPlace index (IsEdgeTile n))
      (λ k path below. (below.0, below.1.0))

  pub once_last_level : (n level index : ℕ) (x y z : Places S) → AsksOnce asked (IsAtPlace index (IsEdgeTileBelow n level)) x y →
      AsksOnce asked (IsAtPlace index (IsEdgeTileAt n level)) y z → AsksOnce asked (IsAtPlace index (IsEdgeTile n)) x z
  once_last_level n level index x y z p q = once_levels n (level + 1) index x z (once_level n level index x y z p q)
