-- The files of a log, in the order in which they are put into a folder (C2SP tlog-tiles, "Merkle Tree", "Log
-- Entries" and "Checkpoints").
use Rattle.std.specs.Prelude.{ℕ, zero, suc, List, [], ◌∷◌, ◌++◌, map, ◌==◌, if◌then◌else◌}
use Rattle.std.specs.List.{range_with_len}
use Rattle.tlog_shape.specs.Edge.{width_of, edge_index_of}
use Rattle.tlog_tiles.specs.declared.paths.Path.{Path}
use Rattle.tlog_tiles.specs.declared.paths.Path.TheVariants.{Checkpoint, Tile, Entries}
use Rattle.tlog_tiles.specs.Tiles.{tile_bytes, bundle_bytes}
use Rattle.mirror_folders.specs.Shelf.{Put}
use Rattle.mirror_folders.specs.declared.kind.FileKind.{FileKind}
use Rattle.mirror_folders.specs.declared.kind.FileKind.TheVariants.{Tiles, Bundles}

-- the path of a file of that kind
abbrev pub kind_path : FileKind → ℕ → ℕ → Path
kind_path (Tiles level) index width = Tile level index width
kind_path Bundles index width = Entries index width

-- the level of the files of a kind; a bundle has the entries below a tile of level 0
abbrev pub kind_level : FileKind → ℕ
kind_level (Tiles level) = level
kind_level Bundles = 0

-- in a tree of n entries: the full files of a kind, by rising index
abbrev pub full_paths : ℕ → FileKind → List Path
full_paths n kind =
    map (λ index. kind_path kind index 256) (range_with_len 0 (edge_index_of n (kind_level kind)))

-- in a tree of n entries: the partial file of a kind, if there is one
abbrev pub partial_path : ℕ → FileKind → List Path
partial_path n kind =
    if width_of n (kind_level kind) == 0 then []
    else kind_path kind (edge_index_of n (kind_level kind)) (width_of n (kind_level kind)) ∷ []

-- in a tree of n entries: all files of a kind, the full ones first
abbrev pub kind_paths : ℕ → FileKind → List Path
kind_paths n kind = full_paths n kind ++ partial_path n kind

-- the tiles of the levels below a number of levels, by rising level and index
abbrev pub tiles_below : ℕ → ℕ → List Path
tiles_below n zero = []
tiles_below n (suc level) = tiles_below n level ++ kind_paths n (Tiles level)

-- every tile of a tree of n entries; no tree has a level above 7
unfoldable pub tile_paths : ℕ → List Path
tile_paths n = tiles_below n 8

-- every file of a log of n entries: its tiles, its bundles, and last the checkpoint
abbrev pub paths_of : ℕ → List Path
paths_of n = tile_paths n ++ kind_paths n Bundles ++ Checkpoint ∷ []

module _ (digest : List ℕ → List ℕ) where
  -- the bytes at a path, for these entries under that checkpoint's note
  abbrev pub served_bytes : List ℕ → List (List ℕ) → Path → List ℕ
  served_bytes note entries Checkpoint = note
  served_bytes note entries (Tile level index width) = tile_bytes digest entries level index width
  served_bytes note entries (Entries index width) = bundle_bytes entries index width

  -- the file at a path: the path, and its bytes
  abbrev pub file_at : List ℕ → List (List ℕ) → Path → Put
  file_at note entries path = (path, served_bytes note entries path)

  -- the files at these paths
  abbrev pub files_at : List ℕ → List (List ℕ) → List Path → List Put
  files_at note entries paths = map (file_at note entries) paths
