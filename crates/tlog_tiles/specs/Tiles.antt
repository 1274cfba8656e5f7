-- The files that a log serves for a list of entries (C2SP tlog-tiles, "Merkle Tree" and "Log
-- Entries").
use Rattle.std.specs.Prelude.{ℕ, ◌+◌, ◌*◌, ◌^◌, ◌<◌, ◌≤◌, List}
use Rattle.tlog_hash.specs.Rows.{part, level_row}
use Rattle.tlog_tiles.specs.declared.paths.Path.{Path}
use Rattle.tlog_tiles.specs.declared.paths.Path.TheVariants.{Checkpoint, Tile, Entries}
use Rattle.tlog_tiles.specs.Bundle.{bundle_text}
use Rattle.tlog_tiles.specs.Row.{row_text}

-- the bytes of a tile: width hashes of its level, in order, from the hash with the number 256 *
-- index on
abbrev pub tile_bytes : (List ℕ → List ℕ) → List (List ℕ) → ℕ → ℕ → ℕ → List ℕ
tile_bytes digest entries level index width =
    row_text (level_row digest entries level (256 * index) width)

-- the bytes of a bundle: width entries from the entry 256 * index on, each after its length of two
-- bytes
abbrev pub bundle_bytes : List (List ℕ) → ℕ → ℕ → List ℕ
bundle_bytes entries index width = bundle_text (part (256 * index) width entries)

-- the tile covers only entries below n
pub record IsTileWithin (n level index width : ℕ) : Type 0 where
  pub level_fits : level ≤ 7
  pub some : 1 ≤ width
  pub upto : width ≤ 256
  pub within : (256 * index + width) * 256 ^ level ≤ n

-- n entries determine the file at the path
abbrev pub IsWithin : ℕ → Path → Type 0
IsWithin n Checkpoint = ⊥
IsWithin n (Tile level index width) = IsTileWithin n level index width
IsWithin n (Entries index width) = IsTileWithin n 0 index width

-- the tile is partial and within n entries, and no wider tile with the same level and index is
pub record IsPartialIn (n level index width : ℕ) : Type 0 where
  pub within : IsWithin n (Tile level index width)
  pub partial : width < 256
  pub widest : (wider : ℕ) → width < wider → ¬ IsWithin n (Tile level index wider)

-- the path is a partial tile within n entries, and no wider tile with the same level and index is
abbrev pub IsEdgeTile : ℕ → Path → Type 0
IsEdgeTile n Checkpoint = ⊥
IsEdgeTile n (Tile level index width) = IsPartialIn n level index width
IsEdgeTile n (Entries index width) = ⊥
