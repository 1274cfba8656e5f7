-- The files in the folder at each moment of an update: a law of the definitions.
use Rattle.std.specs.Prelude.{◌≡◌, ◌≢◌, ◌⊎◌, ℕ, ◌≤◌, List, ◌++◌, length, take, Contains, Option, Some, None}
use Rattle.tlog_tiles.specs.declared.paths.Path.{Path}
use Rattle.tlog_tiles.specs.declared.paths.Path.TheVariants.{Checkpoint}
use Rattle.mirror_folders.specs.Shelf.{Put, HasPut, Stands, RecordsRead}
use Rattle.mirror_folders.specs.Files.{served_bytes}
use Rattle.mirror_folders.specs.Since.{files_since, since_paths}
use Rattle.mirror_folders.specs.Holding.{HoldsFiles, HoldsLog, IsMoment}

module _ (digest : List ℕ → List ℕ) where
  -- the checkpoint that was found is still there, with every tile and bundle of these entries; if none was found, none
  -- is there
  abbrev pub HoldsFound : Option (List ℕ) → List (List ℕ) → List Put → Type 0
  HoldsFound None entries puts = ¬ HasPut puts Checkpoint
  HoldsFound (Some checkpoint) entries puts = HoldsLog digest checkpoint entries puts

  -- a moment of an update from the first m of these entries. The tiles and bundles of the first m entries are there.
  -- The complete log is there under its note, or the first m entries are there under the checkpoint that was found. A
  -- file did not change if its bytes were true, or if it is not among the files to put
  pub record IsWholeAt (note : List ℕ) (entries : List (List ℕ)) (found : Option (List ℕ)) (m : ℕ)
      (old now : List Put) : Type 0 where
    pub first : HoldsFiles digest (take m entries) now
    pub whole : HoldsLog digest note entries now ⊎ HoldsFound found (take m entries) now
    pub kept :
        (path : Path) (bytes : List ℕ) → path ≢ Checkpoint → Stands old path bytes →
        (bytes ≡ served_bytes digest note entries path)
        ⊎ (¬ Contains (since_paths m (length entries)) path) → Stands now path bytes

-- if every tile and bundle of the first m entries is there, the folder has a complete log at each moment of an update,
-- also of one that ends early. With m = 0 the folder may be empty, and this is an export
abbrev pub UpdatesStayWhole : Type 0
UpdatesStayWhole =
    (digest : List ℕ → List ℕ) (note : List ℕ) (entries : List (List ℕ))
    (found : Option (List ℕ)) (m count : ℕ) → m ≤ length entries → (old new now : List Put) →
    RecordsRead (Some old) Checkpoint found → HoldsFiles digest (take m entries) old →
    new ≡ old ++ take count (files_since digest note entries m (length entries)) →
    IsMoment old new now → IsWholeAt digest note entries found m old now
