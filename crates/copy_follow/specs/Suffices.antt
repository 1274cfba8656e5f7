-- One place that gives true files suffices to continue from each file, for all answers of the others.
use Rattle.std.specs.Prelude.{◌≡◌, ◌≢◌, ◌⊎◌, ⊤, ℕ, ◌+◌, ◌*◌, ◌/◌, ◌^◌, ◌≤◌, List, ◌++◌, length, take, Option}
use Rattle.tlog_hash.specs.Tree.{mth}
use Rattle.tlog_hash.specs.Rows.{level_row, part}
use Rattle.tlog_tiles.specs.declared.paths.Path.{Path}
use Rattle.mirror_model.specs.TrueLaws.{AreShort}
use Rattle.mirror_folders.specs.Shelf.{Put}
use Rattle.log_reader.specs.EdgeRows.{Edge, RowIsTrue}
use Rattle.copy_places.specs.TruePlaces.{HasTruePlace}
use Rattle.copy_follow.specs.Growing.{IsKnown, Tip}
use Rattle.copy_follow.specs.Taken.{FilesAreClear, MayTake}
use Rattle.copy_follow.specs.declared.bring_fault.BringFault.{BringFault}
use Rattle.copy_follow.specs.declared.bring_fault.BringFault.TheVariants.{BadCheckpoint, CopyDamaged, NotLarger}
use Rattle.copy_follow.specs.declared.bring_fault.BringFault.TheVariants.{Contradiction, Collision, NoFile, Source, CopyInUse}
use Rattle.copy_follow.specs.declared.bring_fault.BringFault.TheVariants.{ShelfFault, OutOfMemory}
use Rattle.copy_places.specs.declared.places.Places.{Places}

-- the fault is not about a missing file
abbrev pub IsNoLack : BringFault → Type 0
IsNoLack e = (e ≢ NoFile) × (e ≢ Source)

-- the fault is neither about a missing file, nor a contradiction or a collision
abbrev pub IsSpared : BringFault → Type 0
IsSpared BadCheckpoint = ⊤
IsSpared CopyDamaged = ⊤
IsSpared NotLarger = ⊤
IsSpared Contradiction = ⊥
IsSpared Collision = ⊥
IsSpared NoFile = ⊥
IsSpared Source = ⊥
IsSpared CopyInUse = ⊤
IsSpared ShelfFault = ⊤
IsSpared OutOfMemory = ⊤

module _ (digest : List ℕ → List ℕ) (entries : List (List ℕ)) (size : ℕ) where
  -- one of the places gives only true files of the entries, and answers in this call. No file that may be taken clashes with the
  -- tree of the first "size" entries
  pub record OneIsHonest {S : Type 0} (may : S → Path → Option (List ℕ) → Type 0) (puts : Option (List Put))
      (old new : Places S) : Type 0 where
    pub short : AreShort entries
    pub upto : size ≤ length entries
    pub place : HasTruePlace digest entries may old new
    pub clear : FilesAreClear digest (take size entries) (MayTake may old puts)

-- the tip is that of the first entries of the log
pub record IsTipOf (digest : List ℕ → List ℕ) (tip : Tip) (log : List (List ℕ)) : Type 0 where
  pub known : List (List ℕ)
  pub rest : List (List ℕ)
  pub log_is : log ≡ known ++ rest
  pub known_is : IsKnown digest tip 0 known

module _ (digest : List ℕ → List ℕ) (log : List (List ℕ)) where
  -- the hash is that of the full tile of that level and index
  pub record IsTileHash (level index : ℕ) (hash : List ℕ) : Type 0 where
    pub within : (index + 1) * 256 ^ (level + 1) ≤ length log
    pub is : hash ≡ mth digest (part (index * 256 ^ (level + 1)) (256 ^ (level + 1)) log)

  -- the row is that of the tile of that level and index, which is full or the last of its level
  pub record IsTileRow (level index : ℕ) (row : List (List ℕ)) : Type 0 where
    pub within : (256 * index + length row) * 256 ^ level ≤ length log
    pub whole : (length row ≡ 256) ⊎ (256 * index + length row ≡ length log / 256 ^ level)
    pub is : row ≡ level_row digest log level (256 * index) (length row)

  -- the edge rows are those of the log
  pub record IsEdgeTrue (edge : Edge) : Type 0 where
    pub size_is : edge.size ≡ length log
    pub rows_are : (level : ℕ) → level ≤ 7 → RowIsTrue digest edge log level
