-- A partial file by the answers of a source: its own bytes, or the first part of its full file (C2SP tlog-tiles, "Partial Tiles").
use Rattle.std.specs.Prelude.{◌≡◌, ◌⊎◌, ℕ, List, Option, Some, None}
use Rattle.tlog_tiles.specs.Cut.{IsFileCut, full_of}
use Rattle.tlog_tiles.specs.declared.paths.Path.{Path}

module _ (may : Path → Option (List ℕ) → Type 0) (path : Path) where
  -- the bytes are cut from the full file
  abbrev pub IsCutGiven : List ℕ → Type 0
  IsCutGiven bytes = (file : List ℕ) × may (full_of path) (Some file) × IsFileCut path 256 file bytes

  -- the bytes are those of the file, or are cut from the full one if there is none
  abbrev pub IsPartGiven : List ℕ → Type 0
  IsPartGiven bytes = may path (Some bytes) ⊎ (may path None × IsCutGiven bytes)

  -- nothing can be cut from the answer to the full path. The fault names that path, or the partial one if there is no full file
  abbrev pub HasNoCut : Path → Option (List ℕ) → Type 0
  HasNoCut named None = named ≡ path
  HasNoCut named (Some file) = (named ≡ full_of path) × ((part : List ℕ) → ¬ IsFileCut path 256 file part)

  abbrev pub LacksCut : Path → Type 0
  LacksCut named = (answer : Option (List ℕ)) × may (full_of path) answer × HasNoCut named answer

  -- there is no partial file, and it cannot be cut from the full one
  abbrev pub LacksPart : Path → Type 0
  LacksPart named = may path None × LacksCut named

  -- the source lacks the file, or gives bytes that are not as wanted
  abbrev pub IsFalseAt : (List ℕ → Type 0) → Path → Type 0
  IsFalseAt IsWanted named =
      LacksPart named ⊎ ((named ≡ path) × (bytes : List ℕ) × IsPartGiven bytes × (¬ IsWanted bytes))
