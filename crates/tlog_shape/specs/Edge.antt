-- The tiles of a tree of n entries, computed from numbers (C2SP tlog-tiles, "Merkle Tree").
--
-- A tile of level L has up to 256 hashes, and each hash covers 256^L entries.
use Rattle.std.specs.Prelude.{◌≡◌, ◌⊎◌, ℕ, ◌+◌, ◌*◌, ◌/◌, ◌%◌, ◌^◌, ◌<◌, ◌≤◌}

-- the width of the partial tile of a level in a tree of n entries; 0 if the level has no partial
-- tile
abbrev pub width_of : ℕ → ℕ → ℕ
width_of n level = n / 256 ^ level % 256

-- the index of the partial tile of a level, which is also the number of full tiles of that level
abbrev pub edge_index_of : ℕ → ℕ → ℕ
edge_index_of n level = n / 256 ^ (level + 1)

-- top is the greatest level that has a partial tile in a tree of n entries; it is 0 for n = 0
pub record IsTop (n top : ℕ) : Type 0 where
  pub within : top ≤ 7
  pub some : 0 < n → 0 < width_of n top
  pub none : n ≡ 0 → top ≡ 0
  pub greatest : (level : ℕ) → level ≤ 7 → 0 < width_of n level → level ≤ top

-- a tree of n entries has all 256 hashes of the tile
pub record IsFullTile (n level index width : ℕ) : Type 0 where
  pub fits : (index + 1) * 256 ^ (level + 1) ≤ n
  pub width_is : width ≡ 256

-- the tile is the partial tile of its level in a tree of n entries
pub record IsPartialTile (n level index width : ℕ) : Type 0 where
  pub index_is : index ≡ edge_index_of n level
  pub width_is : width ≡ width_of n level
  pub some : 0 < width

-- a tree of n entries has the tile with that width
abbrev pub IsTile : ℕ → ℕ → ℕ → ℕ → Type 0
IsTile n level index width = IsFullTile n level index width ⊎ IsPartialTile n level index width

-- the tile whose hashes fold to the two children of the node of size entries from start: each hash
-- covers fewer entries than the node, a full tile of its level covers at least as many, and the
-- node begins in the tile
pub record IsTileOfNode (start size level index : ℕ) : Type 0 where
  pub above : 256 ^ level < size
  pub upto : size ≤ 256 ^ (level + 1)
  pub index_is : index ≡ start / 256 ^ (level + 1)

-- the range of the tile covers the whole node of size entries from start
pub record RangeHasNode (level index start size : ℕ) : Type 0 where
  pub from : index * 256 ^ (level + 1) ≤ start
  pub to : start + size ≤ (index + 1) * 256 ^ (level + 1)
