-- The files of a log that its first entries did not have: laws of the definitions.
use Rattle.std.specs.Prelude.{◌≡◌, ◌↔◌, ℕ, [], ◌∷◌, Contains}
use Rattle.tlog_tiles.specs.declared.paths.Path.{Path}
use Rattle.tlog_tiles.specs.declared.paths.Path.TheVariants.{Checkpoint, Tile, Entries}
use Rattle.mirror_folders.specs.Files.{paths_of}
use Rattle.mirror_folders.specs.Since.{since_paths}

-- the files since m entries are the files of the log that a log of m entries lacks, and the checkpoint; since no
-- entries, they are all files
pub record FilesSinceAre (m n : ℕ) : Type 0 where
  pub new : (path : Path) → Contains (since_paths m n) path
      ↔ (Contains (paths_of n) path × (Contains (paths_of m) path → path ≡ Checkpoint))
  pub all : since_paths 0 n ≡ paths_of n

-- the files since m entries are the new ones, and since no entries they are all files of the log
abbrev pub FilesSinceAreNew : Type 0
FilesSinceAreNew = (m n : ℕ) → FilesSinceAre m n

-- the new files of some logs since a smaller size. One more entry begins a new tile and a new bundle. Two more widen
-- the tile and the bundle at the right edge. The same size gives only the checkpoint
pub record FilesOfSteps : Type 0 where
  pub first :
      since_paths 0 3 ≡ Tile 0 0 3 ∷ Entries 0 3 ∷ Checkpoint ∷ []
  pub wider :
      since_paths 3 5 ≡ Tile 0 0 5 ∷ Entries 0 5 ∷ Checkpoint ∷ []
  pub full :
      since_paths 255 256 ≡ Tile 0 0 256 ∷ Tile 1 0 1 ∷ Entries 0 256 ∷ Checkpoint ∷ []
  pub begun :
      since_paths 256 257 ≡ Tile 0 1 1 ∷ Entries 1 1 ∷ Checkpoint ∷ []
  pub same : since_paths 257 257 ≡ Checkpoint ∷ []
