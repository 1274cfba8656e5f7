-- What differs where a call ends by a contradiction or a collision.
use Rattle.std.specs.Prelude.{◌≡◌, ℕ, ◌+◌, ◌/◌, ◌%◌, ◌<◌, ◌≤◌, List, [], length, get_or, take, Option, ⊤}
use Rattle.tlog_shape.specs.Edge.{edge_index_of, width_of}
use Rattle.mirror_model.specs.Heads.{IsHead}
use Rattle.mirror_folders.specs.Shelf.{Put}
use Rattle.log_reader.specs.EdgeRows.{Edge, LeadsTo}
use Rattle.log_reader.specs.Verified.{HasLeaves}
use Rattle.log_reader.specs.Ways.{IsShownRow}
use Rattle.copy_follow.specs.Conflicts.{IsFalseEmpty}
use Rattle.copy_follow.specs.Found.{IsTipRead}
use Rattle.copy_follow.specs.Growing.{Tip}
use Rattle.copy_follow.specs.declared.bring_fault.BringFault.{BringFault}
use Rattle.copy_follow.specs.declared.bring_fault.BringFault.TheVariants.{BadCheckpoint, CopyDamaged, NotLarger}
use Rattle.copy_follow.specs.declared.bring_fault.BringFault.TheVariants.{Contradiction, Collision, NoFile, Source, CopyInUse}
use Rattle.copy_follow.specs.declared.bring_fault.BringFault.TheVariants.{ShelfFault, OutOfMemory}

module _ (digest : List ℕ → List ℕ) (edge : Edge) (tip : Tip) where
  -- a row of the larger tree, where the copy ends, does not begin with the copy's row
  pub record HasOtherRow : Type 0 where
    pub level : ℕ
    pub row : List (List ℕ)
    pub shown : IsShownRow digest edge level (edge_index_of tip.size level) row
    pub other : length (get_or tip.rows level []) ≡ width_of tip.size level → length (get_or tip.rows level []) ≤ length row →
        ¬ (take (length (get_or tip.rows level [])) row ≡ get_or tip.rows level [])

  -- a bundle of the larger tree, where the copy ends, begins with the copy's leaf hashes, but not with the bytes of its bundle
  pub record HasOtherBundle : Type 0 where
    pub row : List (List ℕ)
    pub bytes : List ℕ
    pub shown : IsShownRow digest edge 0 (edge_index_of tip.size 0) row
    pub begins : take (width_of tip.size 0) row ≡ get_or tip.rows 0 []
    pub leaves : HasLeaves digest (length row) bytes row
    pub other : length tip.bundle ≤ length bytes → ¬ (take (length tip.bundle) bytes ≡ tip.bundle)

  -- a contradiction has such a row, a collision such a bundle
  abbrev pub DiffersBy : BringFault → Type 0
  DiffersBy BadCheckpoint = ⊤
  DiffersBy CopyDamaged = ⊤
  DiffersBy NotLarger = ⊤
  DiffersBy Contradiction = HasOtherRow
  DiffersBy Collision = HasOtherBundle
  DiffersBy NoFile = ⊤
  DiffersBy Source = ⊤
  DiffersBy CopyInUse = ⊤
  DiffersBy ShelfFault = ⊤
  DiffersBy OutOfMemory = ⊤

-- the reason of a conflict: some verified rows of the larger tree differ from the tip of the copy on the shelf. Or it is a contradiction,
-- and the note is of no entries and another root than the empty list's
pub data IsExplained (digest : List ℕ → List ℕ) (origin note : List ℕ) (puts : Option (List Put)) (e : BringFault) : Type 0 where
  ByTree :
      (tip : Tip) → IsTipRead digest origin puts tip → (size : ℕ) (root : List ℕ) → IsHead note origin size root →
      (edge : Edge) → LeadsTo digest size root edge → DiffersBy digest edge tip e → IsExplained digest origin note puts e
  ByEmpty :
      (size : ℕ) (root : List ℕ) → IsHead note origin size root → IsFalseEmpty digest size root → e ≡ Contradiction →
      IsExplained digest origin note puts e

-- ---- only contracts of private functions cite what follows

-- the hash is that of a full tile, in a shown row of the level above
pub record IsShownHash (digest : List ℕ → List ℕ) (edge : Edge) (level index : ℕ) (hash : List ℕ) : Type 0 where
  pub above : List (List ℕ)
  pub shown : IsShownRow digest edge (level + 1) (index / 256) above
  pub within : index % 256 < length above
  pub is : hash ≡ get_or above (index % 256) []

-- the rows of the larger tree differ, or the note is of no entries and a false root
pub data IsConflictOf (digest : List ℕ → List ℕ) (tip : Tip) (size : ℕ) (root : List ℕ) (e : BringFault) : Type 0 where
  OfTree : (edge : Edge) → LeadsTo digest size root edge → DiffersBy digest edge tip e → IsConflictOf digest tip size root e
  OfEmpty : IsFalseEmpty digest size root → e ≡ Contradiction → IsConflictOf digest tip size root e
