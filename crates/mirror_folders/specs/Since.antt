-- The files of a log that its first entries did not have yet. An update puts them into a folder that has the files of
-- the first entries.
use Rattle.std.specs.Prelude.{ℕ, Bool, true, not, List, ◌++◌, ◌==◌, nat_lt, if◌then◌else◌}
use Rattle.std.specs.List.{filter}
use Rattle.tlog_shape.specs.Edge.{width_of, edge_index_of}
use Rattle.tlog_tiles.specs.declared.paths.Path.{Path}
use Rattle.tlog_tiles.specs.declared.paths.Path.TheVariants.{Checkpoint, Tile, Entries}
use Rattle.mirror_folders.specs.Shelf.{Put}
use Rattle.mirror_folders.specs.Files.{files_at, kind_paths, paths_of, tile_paths}
use Rattle.mirror_folders.specs.declared.kind.FileKind.TheVariants.{Bundles}

-- the number of hashes of the tile with that level and index in a tree of m entries; 0 if there is no such tile
abbrev pub width_at : ℕ → ℕ → ℕ → ℕ
width_at m level index =
    if nat_lt index (edge_index_of m level) then 256
    else if index == edge_index_of m level then width_of m level else 0

-- a log of m entries lacks the file, or it is the checkpoint, which is put each time
abbrev pub is_new : ℕ → Path → Bool
is_new m Checkpoint = true
is_new m (Tile level index width) = not (width == width_at m level index)
is_new m (Entries index width) = not (width == width_at m 0 index)

-- the files of a log of n entries that a log of m entries lacks, in their order, and then the checkpoint
abbrev pub since_paths : ℕ → ℕ → List Path
since_paths m n = filter (is_new m) (paths_of n)

-- the tiles and bundles among these files
abbrev pub since_parts : ℕ → ℕ → List Path
since_parts m n = filter (is_new m) (tile_paths n ++ kind_paths n Bundles)

-- the files at these paths, of a log of n entries under that note
abbrev pub files_since :
    (List ℕ → List ℕ) → List ℕ → List (List ℕ) → ℕ → ℕ → List Put
files_since digest note entries m n = files_at digest note entries (since_paths m n)
