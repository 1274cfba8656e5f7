-- Items of true bytes: the files that a log serves for a list of entries, taken by a mirror (C2SP
-- tlog-tiles).
use Rattle.std.specs.Prelude.{◌-◌, min, ◌≡◌, ℕ, ◌*◌, ◌^◌, ◌≤◌, ◌<◌, All, List, length, map, take}
use Rattle.std.specs.List.{Contains}
use Rattle.tlog_shape.specs.Edge.{width_of, edge_index_of}
use Rattle.tlog_hash.specs.Tree.{mth, strings}
use Rattle.tlog_tiles.specs.declared.paths.Path.{Path}
use Rattle.tlog_tiles.specs.declared.paths.Path.TheVariants.{Checkpoint, Tile, Entries}
use Rattle.tlog_tiles.specs.Row.{row_text}
use Rattle.tlog_tiles.specs.Edge.{edge_of}
use Rattle.tlog_tiles.specs.Tiles.{tile_bytes, bundle_bytes, IsTileWithin, IsWithin}
use Rattle.node_store.specs.Strings.{Strings, HasAll}
use Rattle.mirror_model.specs.Edge.{edge_levels, edge_rows, edge_strings}
use Rattle.mirror_model.specs.Front.{IsFront}
use Rattle.mirror_model.specs.Rounds.{true_strings}
use Rattle.mirror_model.specs.declared.items.Item.TheVariants as item
use Rattle.mirror_model.specs.Item.{row_of, IsWidth, IsGoodTile, IsGoodBundle, HasEdgeRows}
use Rattle.mirror_model.specs.Item.{strings_of}
use Rattle.mirror_model.specs.Strings.{IsDigest}

-- each entry fits into a bundle
abbrev pub AreShort : List (List ℕ) → Type 0
AreShort entries = All (λ entry. length entry < 2 ^ 16) entries

-- the tile of true bytes is valid, and its strings are those of its row
pub record IsTrueTile (digest : List ℕ → List ℕ) (entries : List (List ℕ))
    (level index width : ℕ) : Type 0 where
  pub good : IsGoodTile width (tile_bytes digest entries level index width)
  pub strings_are :
      strings_of digest (item.Tile width (tile_bytes digest entries level index width))
      ≡ true_strings digest entries (Tile level index width)

-- each tile that a log serves for a list of entries is valid, and its strings are those of its row
abbrev pub TrueTilesAreGood : Type 0
TrueTilesAreGood =
    (digest : List ℕ → List ℕ) → IsDigest digest → (entries : List (List ℕ)) → AreShort entries →
    (level index width : ℕ) → IsWidth width → IsTrueTile digest entries level index width

-- the bundle of true bytes is valid, and its strings are those of the tree hash of its entries
pub record IsTrueBundle (digest : List ℕ → List ℕ) (entries : List (List ℕ)) (index width : ℕ)
    : Type 0 where
  pub good : IsGoodBundle width (bundle_bytes entries index width)
  pub strings_are :
      strings_of digest (item.Bundle width (bundle_bytes entries index width))
      ≡ true_strings digest entries (Entries index width)

-- each bundle that a log serves for a list of entries is valid, and its strings are those of the
-- tree hash of its entries
abbrev pub TrueBundlesAreGood : Type 0
TrueBundlesAreGood =
    (digest : List ℕ → List ℕ) → IsDigest digest → (entries : List (List ℕ)) → AreShort entries →
    (index width : ℕ) →
    IsTileWithin (length entries) 0 index width → IsTrueBundle digest entries index width

-- the bytes of the true edge rows
abbrev pub edge_bytes : (List ℕ → List ℕ) → List (List ℕ) → List (List ℕ)
edge_bytes digest entries = map row_text (edge_rows digest entries)

-- the true edge rows lead to the tree hash of the entries, and their strings are those of the right
-- edge
pub record IsTrueEdge (digest : List ℕ → List ℕ) (entries : List (List ℕ)) : Type 0 where
  pub has_edge :
      HasEdgeRows digest (length entries) (mth digest entries) (edge_bytes digest entries)
  pub strings_are :
      edge_strings digest (map row_of (edge_bytes digest entries))
      ≡ edge_strings digest (edge_rows digest entries)

-- the true edge rows of a list of entries are edge rows for its size and tree hash
abbrev pub TrueEdgesLeadToRoot : Type 0
TrueEdgesLeadToRoot =
    (digest : List ℕ → List ℕ) → IsDigest digest → (entries : List (List ℕ)) →
    length entries < 256 ^ 8 →
    IsTrueEdge digest entries

-- the right edge of a size has the partial tile of each level with one
abbrev pub EdgeHasEachPartialTile : Type 0
EdgeHasEachPartialTile =
    (size : ℕ) →
    edge_of size
    ≡ map (λ level. Tile level (edge_index_of size level) (width_of size level)) (edge_levels size)

-- if the strings of the right edge are held, each path of the front is within the entries
abbrev pub FrontIsWithin : Type 0
FrontIsWithin =
    (digest : List ℕ → List ℕ) (held : Strings) (entries : List (List ℕ)) →
    length entries ≤ 256 ^ 8 →
    HasAll held (edge_strings digest (edge_rows digest entries)) → (path : Path) →
    IsFront digest held entries path → IsWithin (length entries) path

-- the path is the widest with its level and index in a tree of n entries: a full tile, or a bundle
-- as wide as the entries allow
abbrev pub IsWidest : ℕ → Path → Type 0
IsWidest n Checkpoint = ⊥
IsWidest n (Tile level index width) = width ≡ 256
IsWidest n (Entries index width) = width ≡ min 256 (n - 256 * index)

-- the true bytes of the widest path with its level and index, within the entries, have only strings
-- of their tree
abbrev pub TrueStringsAreOfTree : Type 0
TrueStringsAreOfTree =
    (digest : List ℕ → List ℕ) (entries : List (List ℕ)) (path : Path) →
    IsWithin (length entries) path → IsWidest (length entries) path → (y : List ℕ) →
    Contains (true_strings digest entries path) y → Contains (strings digest entries) y

-- each path of a front is the widest with its level and index
abbrev pub FrontIsWidest : Type 0
FrontIsWidest =
    (digest : List ℕ → List ℕ) (held : Strings) (entries : List (List ℕ)) (path : Path) →
    IsFront digest held entries path → IsWidest (length entries) path

-- a path within the first n entries has the same bytes for these as for all entries
pub record IsSameIn (digest : List ℕ → List ℕ) (entries : List (List ℕ)) (n : ℕ) : Type 0 where
  pub tile :
      (level index width : ℕ) → IsTileWithin n level index width →
      tile_bytes digest (take n entries) level index width
      ≡ tile_bytes digest entries level index width
  pub bundle :
      (index width : ℕ) → IsTileWithin n 0 index width →
      bundle_bytes (take n entries) index width ≡ bundle_bytes entries index width

-- a log that has grown serves its old paths with the same bytes
abbrev pub PrefixesServeSame : Type 0
PrefixesServeSame =
    (digest : List ℕ → List ℕ) (entries : List (List ℕ)) (n : ℕ) → n ≤ length entries →
    IsSameIn digest entries n
