-- The right edge of a tree: the partial tiles of its levels (C2SP tlog-tiles, "Merkle Tree").
use Rattle.std.specs.Prelude.{ℕ, zero, suc, List, [], ◌∷◌, ◌++◌, ◌==◌, if◌then◌else◌}
use Rattle.tlog_shape.specs.Edge.{width_of, edge_index_of}
use Rattle.tlog_tiles.specs.declared.paths.Path.{Path}
use Rattle.tlog_tiles.specs.declared.paths.Path.TheVariants.{Checkpoint, Tile, Entries}

-- the partial tile of a level in a tree of n entries, if the level has one
abbrev pub edge_at : ℕ → ℕ → List Path
edge_at n level =
    if width_of n level == 0 then [] else Tile level (edge_index_of n level) (width_of n level) ∷ []

-- the partial tiles of the levels below the given number, lowest level first
abbrev pub edge_below : ℕ → ℕ → List Path
edge_below n zero = []
edge_below n (suc level) = edge_below n level ++ edge_at n level

-- the right edge of a tree of n entries: its partial tiles, lowest level first. No tree has a level
-- above 7
unfoldable pub edge_of : ℕ → List Path
edge_of n = edge_below n 8

-- the level of a path; 0 for a path without a level
abbrev pub level_of : Path → ℕ
level_of Checkpoint = 0
level_of (Tile level index width) = level
level_of (Entries index width) = 0
