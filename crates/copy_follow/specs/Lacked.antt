-- Files of a log that nobody has, and all others, which a repair goes on to.
use Rattle.std.specs.Prelude.{◌≡◌, ◌⊎◌, ⊤, ℕ, ◌+◌, ◌-◌, ◌*◌, ◌<◌, ◌≤◌, List, length, Option, Some, None, Result, Ok, Err}
use Rattle.tlog_shape.specs.Edge.{edge_index_of, width_of}
use Rattle.tlog_hash.specs.Tree.{mth}
use Rattle.tlog_tiles.specs.declared.paths.Path.{Path}
use Rattle.tlog_tiles.specs.declared.paths.Path.TheVariants.{Tile, Entries}
use Rattle.mirror_sources.specs.Honest.{true_bytes}
use Rattle.mirror_folders.specs.Shelf.{Put, Stands}
use Rattle.log_reader.specs.EdgeRows.{Edge, LeadsTo}
use Rattle.log_reader.specs.Holding.{IsTreeFile}
use Rattle.log_reader.specs.Verified.{HasLeaves, Verifies}
use Rattle.log_reader.specs.declared.verify.FullFile.{FullFile}
use Rattle.copy_places.specs.Giving.{IsEdgeFrom, PartOf}
use Rattle.copy_places.specs.InVain.{AreAskedInVain, ArePartsAskedInVain}
use Rattle.copy_places.specs.TrueAnswers.{IsRootOf}
use Rattle.copy_places.specs.TruePlaces.{HasTruePlace}
use Rattle.copy_places.specs.declared.places.Places.{Places}
use Rattle.copy_follow.specs.Damaged.{IsEdgeWrong}
use Rattle.copy_follow.specs.Growing.{IsBelow}
use Rattle.copy_follow.specs.Repaired.{RecordsHad}
use Rattle.copy_follow.specs.Standing.{RecordsStands}
use Rattle.copy_follow.specs.declared.bring_fault.BringFault.{BringFault}
use Rattle.copy_follow.specs.declared.bring_fault.BringFault.TheVariants.{BadCheckpoint, CopyDamaged, NotLarger}
use Rattle.copy_follow.specs.declared.bring_fault.BringFault.TheVariants.{Contradiction, Collision, NoFile, Source, CopyInUse}
use Rattle.copy_follow.specs.declared.bring_fault.BringFault.TheVariants.{ShelfFault, OutOfMemory}

-- the shelf records that it has the bytes at the path
abbrev pub IsRecorded : Option (List Put) → Path → List ℕ → Type 0
IsRecorded None path bytes = ⊥
IsRecorded (Some puts) path bytes = Stands puts path bytes

-- the bytes of a partial file are on the shelf: at its path, or its full file begins with them
abbrev pub IsOwnPart : Option (List Put) → Path → List ℕ → Type 0
IsOwnPart puts path bytes = PartOf (IsRecorded puts) path bytes

-- no mix of the partial tiles on the shelf, and of what its full ones begin with, is an edge of n entries that leads to the root
abbrev pub LeadsNowhere : (List ℕ → List ℕ) → Option (List Put) → ℕ → List ℕ → Type 0
LeadsNowhere digest puts n root = (edge : Edge) → IsEdgeFrom (IsRecorded puts) n edge → ¬ LeadsTo digest n root edge

-- the claim holds at Ok, and where nobody had a file
abbrev pub AtOkOrLack : {T : Type 0} → Result T BringFault → Type 0 → Type 0
AtOkOrLack (Ok x) claim = claim
AtOkOrLack (Err BadCheckpoint) claim = ⊤
AtOkOrLack (Err CopyDamaged) claim = ⊤
AtOkOrLack (Err NotLarger) claim = ⊤
AtOkOrLack (Err Contradiction) claim = ⊤
AtOkOrLack (Err Collision) claim = ⊤
AtOkOrLack (Err NoFile) claim = claim
AtOkOrLack (Err Source) claim = claim
AtOkOrLack (Err CopyInUse) claim = ⊤
AtOkOrLack (Err ShelfFault) claim = ⊤
AtOkOrLack (Err OutOfMemory) claim = ⊤

module _ (digest : List ℕ → List ℕ) (log : List (List ℕ)) {S : Type 0} (may : S → Path → Option (List ℕ) → Type 0)
    (old new : Places S) where
  module _ (before : Option (List Put)) where
    -- nobody has the true file at the path: not the shelf at the beginning, and no place that was asked gave it
    pub record IsNobodysFile (path : Path) : Type 0 where
      pub shelf : ¬ IsRecorded before path (true_bytes digest log path)
      pub places : AreAskedInVain path may old new (λ bytes. bytes ≡ true_bytes digest log path)

    -- the same for a partial file, which may also be cut from the full file
    pub record IsNobodysPart (path : Path) : Type 0 where
      pub shelf : ¬ IsOwnPart before path (true_bytes digest log path)
      pub places : ArePartsAskedInVain path may old new (λ bytes. bytes ≡ true_bytes digest log path)

    -- nobody has the file, or it is below a tile that nobody has. A tile of level 0 is made of its bundle too, so nobody has that
    pub data IsLacked (path : Path) : Type 0 where
      LacksBundle : (index : ℕ) → IsNobodysFile path → path ≡ Entries index 256 → IsLacked path
      LacksLeafTile :
          (index : ℕ) → IsNobodysFile path → IsNobodysFile (Entries index 256) → path ≡ Tile 0 index 256 → IsLacked path
      LacksTile :
          (level index : ℕ) → 1 ≤ level → IsNobodysFile (Tile level index 256) → IsBelow level index path → IsLacked path
      LacksEnd :
          IsNobodysPart path → path ≡ Entries (edge_index_of (length log) 0) (width_of (length log) 0) → IsLacked path

    -- nobody has the edge rows: those on the shelf do not lead to the root, nor do those that its full tiles begin with, and no place
    -- gives all files of the log
    pub record IsEdgeLacked : Type 0 where
      pub shelf : IsEdgeWrong before (length log) digest (mth digest log)
      pub own : LeadsNowhere digest before (length log) (mth digest log)
      pub places : ¬ HasTruePlace digest log may old new

    module _ (after : Option (List Put)) where
      -- the file is there at the end, or its full file begins with it, or it is lacked
      abbrev pub IsHadOrLacked : Path → Type 0
      IsHadOrLacked path = RecordsHad before after path (true_bytes digest log path) ⊎ IsLacked path

      -- each file of the log is. Or the edge rows are lacked
      abbrev pub GoesOverAll : Type 0
      GoesOverAll = ((path : Path) → IsTreeFile (length log) path → IsHadOrLacked path) ⊎ IsEdgeLacked

      -- ---- only contracts of private functions cite what follows

      -- the file is there at the end, or nobody has it
      abbrev pub StandsOrNobodys : Path → Type 0
      StandsOrNobodys path = RecordsStands before after path (true_bytes digest log path) ⊎ IsNobodysFile path

      -- each file below a full tile is there at the end, or lacked
      abbrev pub GoesBelow : ℕ → ℕ → Type 0
      GoesBelow level index =
          (path : Path) → IsBelow level index path →
          RecordsStands before after path (true_bytes digest log path) ⊎ IsLacked path

      -- the same for the files below the first "count" hashes of the row of a tile
      abbrev pub GoesAlong : ℕ → ℕ → ℕ → Type 0
      GoesAlong level index count = (k : ℕ) → k < count → GoesBelow (level - 1) (256 * index + k)

      -- the same for the files below the rows of the right edge, from level "low" on
      abbrev pub GoesDown : ℕ → Type 0
      GoesDown low =
          (level : ℕ) → low ≤ level → level ≤ 7 →
          GoesAlong level (edge_index_of (length log) level) (width_of (length log) level)

-- neither the file on the shelf nor one of a place verifies under the hash
pub record IsFoundNowhere (digest : List ℕ → List ℕ) {S : Type 0} (may : S → Path → Option (List ℕ) → Type 0) (old new : Places S)
    (puts : Option (List Put)) (kind : FullFile) (path : Path) (hash : List ℕ) : Type 0 where
  pub shelf : (bytes : List ℕ) → IsRecorded puts path bytes → (row : List (List ℕ)) → ¬ Verifies digest kind hash bytes row
  pub places : AreAskedInVain path may old new (λ bytes. (row : List (List ℕ)) × Verifies digest kind hash bytes row)

-- neither the edge rows on the shelf lead to the root, nor those of a place that gives only true files
pub record IsEdgeNowhere (digest : List ℕ → List ℕ) {S : Type 0} (may : S → Path → Option (List ℕ) → Type 0) (old new : Places S)
    (puts : Option (List Put)) (n : ℕ) (root : List ℕ) : Type 0 where
  pub shelf : IsEdgeWrong puts n digest root
  pub own : LeadsNowhere digest puts n root
  pub places : (log : List (List ℕ)) → IsRootOf digest log n root → ¬ HasTruePlace digest log may old new

-- neither the partial bundle on the shelf, nor one of a place, nor the first entries of a full one, has the leaf hashes of the row
pub record IsEndNowhere (digest : List ℕ → List ℕ) {S : Type 0} (may : S → Path → Option (List ℕ) → Type 0) (old new : Places S)
    (puts : Option (List Put)) (path : Path) (row : List (List ℕ)) : Type 0 where
  pub shelf : (bytes : List ℕ) → IsOwnPart puts path bytes → ¬ HasLeaves digest (length row) bytes row
  pub places : ArePartsAskedInVain path may old new (λ bytes. HasLeaves digest (length row) bytes row)
