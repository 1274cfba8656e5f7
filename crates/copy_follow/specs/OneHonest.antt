-- One honest place suffices to bring a copy to a checkpoint, for all answers of the others.
use Rattle.std.specs.Prelude.{◌≡◌, ◌⊎◌, ℕ, ◌≤◌, List, ◌++◌, length, take, Option, Some}
use Rattle.tlog_hash.specs.Tree.{mth}
use Rattle.tlog_tiles.specs.declared.paths.Path.{Path}
use Rattle.tlog_tiles.specs.declared.paths.Path.TheVariants.{Checkpoint}
use Rattle.mirror_folders.specs.Shelf.{HasPut, Put}
use Rattle.mirror_model.specs.Heads.{IsHead}
use Rattle.copy_follow.specs.Copies.{IsCopy}
use Rattle.copy_follow.specs.Pruned.{IsPrunedCopy}
use Rattle.copy_follow.specs.Suffices.{OneIsHonest}
use Rattle.copy_follow.specs.Taken.{EdgesAreClear, MayTake}
use Rattle.copy_follow.specs.declared.bring_fault.BringFault.{BringFault}
use Rattle.copy_follow.specs.declared.bring_fault.BringFault.TheVariants.{ShelfFault, OutOfMemory}
use Rattle.copy_places.specs.declared.places.Places.{Places}

-- the shelf failed, or memory was refused
abbrev pub IsShelfOrMemory : BringFault → Type 0
IsShelfOrMemory e = (e ≡ ShelfFault) ⊎ (e ≡ OutOfMemory)

-- the shelf records its puts. It has a copy of the first entries of the log, but not of all, or no checkpoint. Partial files of
-- the copy may be replaced by full ones
pub data HoldsFirst (digest : List ℕ → List ℕ) (origin : List ℕ) (log : List (List ℕ)) (puts : Option (List Put))
    : Type 0 where
  HoldsCopy :
      (held : List Put) → puts ≡ Some held → (note : List ℕ) (entries more : List (List ℕ)) →
      IsCopy digest origin note entries held → log ≡ entries ++ more → 1 ≤ length more →
      HoldsFirst digest origin log puts
  HoldsPruned :
      (held : List Put) → puts ≡ Some held → (note : List ℕ) (entries more : List (List ℕ)) →
      IsPrunedCopy digest origin note entries held → log ≡ entries ++ more → 1 ≤ length more →
      HoldsFirst digest origin log puts
  HoldsNone : (held : List Put) → puts ≡ Some held → ¬ HasPut held Checkpoint → HoldsFirst digest origin log puts

module _ (digest : List ℕ → List ℕ) {S : Type 0} (may : S → Path → Option (List ℕ) → Type 0) (puts : Option (List Put))
    (old new : Places S) where
  -- one of the places is honest for the entries, and the root is that of the first "size" of them. No edge that may be taken
  -- clashes with their tree
  pub record IsHonestFor (entries : List (List ℕ)) (size : ℕ) (root : List ℕ) : Type 0 where
    pub one : OneIsHonest digest entries size may puts old new
    pub root_is : root ≡ mth digest (take size entries)
    pub edges : EdgesAreClear digest (take size entries) (MayTake may old puts)

  -- the note is a checkpoint of a log, and one of the places is honest for it. The shelf has a copy of its first entries, or no
  -- checkpoint
  pub record IsHonestNote (origin note : List ℕ) : Type 0 where
    pub entries : List (List ℕ)
    pub size : ℕ
    pub root : List ℕ
    pub is_head : IsHead note origin size root
    pub honest : IsHonestFor entries size root
    pub holds : HoldsFirst digest origin (take size entries) puts
