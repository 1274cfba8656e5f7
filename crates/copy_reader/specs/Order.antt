-- The order in which the files of a log are read: the rows of the edge, then the files below them, from left to right (C2SP tlog-tiles).
use Rattle.std.specs.Prelude.{ℕ, zero, suc, ◌+◌, ◌-◌, ◌*◌, List, [], ◌∷◌, ◌++◌}
use Rattle.tlog_shape.specs.Edge.{edge_index_of, width_of}
use Rattle.tlog_tiles.specs.declared.paths.Path.{Path}
use Rattle.tlog_tiles.specs.declared.paths.Path.TheVariants.{Checkpoint, Tile, Entries}

-- the paths of each of "count" numbers, from the first on
unfoldable pub each_order : (ℕ → List Path) → ℕ → ℕ → List Path
each_order order first zero = []
each_order order first (suc count) = each_order order first count ++ order (first + count)

-- a full tile of a level, and then all files below it. A tile of level 0 comes after its bundle
unfoldable pub tile_order : ℕ → ℕ → List Path
tile_order zero index = Entries index 256 ∷ Tile 0 index 256 ∷ []
tile_order (suc level) index = Tile (suc level) index 256 ∷ each_order (tile_order level) (256 * index) 256

-- all files below the first hashes of a row of a level
abbrev pub row_order : ℕ → ℕ → ℕ → List Path
row_order level index width = each_order (tile_order (level - 1)) (256 * index) width

-- all files below the row of the level 7 - down of the edge of n entries
abbrev pub level_order : ℕ → ℕ → List Path
level_order n down = row_order (7 - down) (edge_index_of n (7 - down)) (width_of n (7 - down))

-- all files below the edge of n entries except the partial bundle: "count" levels, from level 7 down
abbrev pub levels_order : ℕ → ℕ → List Path
levels_order n count = each_order (level_order n) 0 count

-- the partial tile of a level, if it has hashes
abbrev pub tile_of_width : ℕ → ℕ → ℕ → List Path
tile_of_width level index zero = []
tile_of_width level index (suc width) = Tile level index (suc width) ∷ []

-- the partial tile of a level of the edge of n entries, if the level has one
abbrev pub edge_file : ℕ → ℕ → List Path
edge_file n level = tile_of_width level (edge_index_of n level) (width_of n level)

-- the rows of the edge of n entries, the lowest level first: "levels" levels
abbrev pub edge_order : ℕ → ℕ → List Path
edge_order n levels = each_order (edge_file n) 0 levels

-- the partial bundle of that width, if it has entries
abbrev pub bundle_of_width : ℕ → ℕ → List Path
bundle_of_width index zero = []
bundle_of_width index (suc width) = Entries index (suc width) ∷ []

-- the partial bundle of n entries, if there is one
abbrev pub edge_bundle : ℕ → List Path
edge_bundle n = bundle_of_width (edge_index_of n 0) (width_of n 0)

-- all files below the edge of n entries, the partial bundle last
abbrev pub below_edge : ℕ → List Path
below_edge n = levels_order n 7 ++ edge_bundle n

-- the tiles and bundles of a log of n entries
abbrev pub file_order : ℕ → List Path
file_order n = edge_order n 8 ++ below_edge n

-- the first of some paths. Without paths, the checkpoint's path
abbrev pub first_path : List Path → Path
first_path [] = Checkpoint
first_path (path ∷ paths) = path
