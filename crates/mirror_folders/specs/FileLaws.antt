-- The files of a log, in the words of its layout: a law of the list in which they are put.
use Rattle.std.specs.Prelude.{◌↔◌, ℕ, ◌<◌, Contains, ⊤}
use Rattle.tlog_tiles.specs.declared.paths.Path.{Path}
use Rattle.tlog_tiles.specs.declared.paths.Path.TheVariants.{Checkpoint, Tile, Entries}
use Rattle.tlog_tiles.specs.Tiles.{IsTileWithin}
use Rattle.mirror_folders.specs.Files.{paths_of}

-- the width is the widest at its level and index among n entries: n entries have that number of hashes there, up to
-- 256, and no more
pub record IsWidestIn (n level index width : ℕ) : Type 0 where
  pub within : IsTileWithin n level index width
  pub widest : (wider : ℕ) → width < wider → ¬ IsTileWithin n level index wider

-- a log of n entries has the file
abbrev pub IsFileOf : ℕ → Path → Type 0
IsFileOf n Checkpoint = ⊤
IsFileOf n (Tile level index width) = IsWidestIn n level index width
IsFileOf n (Entries index width) = IsWidestIn n 0 index width

-- a log's list of files has the checkpoint and, for each level and index with a tile or a bundle, the widest one. It
-- has nothing else
abbrev pub FilesAreAll : Type 0
FilesAreAll = (n : ℕ) (path : Path) → Contains (paths_of n) path ↔ IsFileOf n path
