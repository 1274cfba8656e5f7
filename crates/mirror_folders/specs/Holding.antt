-- A shelf with the files of a log, and the moments of a call that puts files.
use Rattle.std.specs.Prelude.{◌≡◌, ◌≢◌, List, ◌++◌, [], ℕ, length, Contains}
use Rattle.tlog_tiles.specs.declared.paths.Path.{Path}
use Rattle.tlog_tiles.specs.declared.paths.Path.TheVariants.{Checkpoint}
use Rattle.mirror_folders.specs.Shelf.{Put, Stands}
use Rattle.mirror_folders.specs.Files.{paths_of, served_bytes}

-- a moment of a call that puts files in order: some files were put so far, and the rest came later
pub record IsMoment (old new now : List Put) : Type 0 where
  pub so_far : List Put
  pub later : List Put
  pub now_is : now ≡ old ++ so_far
  pub new_is : new ≡ now ++ later

module _ (digest : List ℕ → List ℕ) where
  -- every tile and bundle of a log of these entries is there with its true bytes
  abbrev pub HoldsFiles : List (List ℕ) → List Put → Type 0
  HoldsFiles entries puts =
      (path : Path) → path ≢ Checkpoint → Contains (paths_of (length entries)) path →
      Stands puts path (served_bytes digest [] entries path)

  -- the complete log of these entries is there: its checkpoint with that note, and every tile and bundle with true
  -- bytes
  abbrev pub HoldsLog : List ℕ → List (List ℕ) → List Put → Type 0
  HoldsLog note entries puts =
      (path : Path) → Contains (paths_of (length entries)) path →
      Stands puts path (served_bytes digest note entries path)
