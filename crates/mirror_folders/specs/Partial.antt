-- The bytes that are read for a partial file: it may have been replaced by its full one (C2SP tlog-tiles, "Partial Tiles").
use Rattle.std.specs.Prelude.{◌≡◌, ℕ, List, Option, Some, None}
use Rattle.tlog_tiles.specs.Cut.{IsFileCut, full_of}
use Rattle.tlog_tiles.specs.declared.paths.Path.{Path}
use Rattle.mirror_folders.specs.Shelf.{Put, RecordsRead}

-- the bytes of a partial file, cut from a full one. None: it is no full file, or has no such part
abbrev pub IsFullCut : Path → List ℕ → Option (List ℕ) → Type 0
IsFullCut path full None = (part : List ℕ) → ¬ IsFileCut path 256 full part
IsFullCut path full (Some part) = IsFileCut path 256 full part

module _ (puts : Option (List Put)) (path : Path) where
  -- the bytes that are found for a partial file, by what was read of the full one
  abbrev pub IsCutOfRead : Option (List ℕ) → Option (List ℕ) → Type 0
  IsCutOfRead None found = found ≡ None
  IsCutOfRead (Some full) found = IsFullCut path full found

  -- the same by the full file on the shelf
  pub record IsReadCut (found : Option (List ℕ)) : Type 0 where
    pub full : Option (List ℕ)
    pub read : RecordsRead puts (full_of path) full
    pub gives : IsCutOfRead full found

  -- the bytes that are found for the partial file, by what was read of it. If there is none, those of the full file count
  abbrev pub IsOfRead : Option (List ℕ) → Option (List ℕ) → Type 0
  IsOfRead None found = IsReadCut found
  IsOfRead (Some bytes) found = found ≡ Some bytes

  -- the same by the file on the shelf
  pub record IsReadPartial (found : Option (List ℕ)) : Type 0 where
    pub own : Option (List ℕ)
    pub read : RecordsRead puts path own
    pub gives : IsOfRead own found
