-- The faults of a call that brings a copy, and their causes.
use Rattle.std.specs.Prelude.{◌≡◌, ◌≢◌, ◌⊎◌, ◌≤◌, ℕ, List, Option, None, IsTrue, IsFalse, IsSome, Result, Ok, Err}
use Rattle.tlog_tiles.specs.declared.paths.Path.TheVariants.{Checkpoint}
use Rattle.mirror_sources.specs.Recorded.{one_more}
use Rattle.mirror_folders.specs.Shelf.{Put, RecordsRead}
use Rattle.mirror_folders.specs.declared.shelf.ShelfError.{ShelfError}
use Rattle.mirror_folders.specs.declared.shelf.ShelfError.TheVariants as shelf
use Rattle.copy_follow.specs.Growing.{IsCutShort, IsKnown, Tip}
use Rattle.copy_places.specs.declared.places.Places.{Places}
use Rattle.copy_follow.specs.declared.bring_fault.BringFault.{BringFault}
use Rattle.copy_follow.specs.declared.bring_fault.BringFault.TheVariants.{BadCheckpoint, CopyDamaged, NotLarger}
use Rattle.copy_follow.specs.declared.bring_fault.BringFault.TheVariants.{Contradiction, Collision, NoFile, Source, CopyInUse}
use Rattle.copy_follow.specs.declared.bring_fault.BringFault.TheVariants.{ShelfFault, OutOfMemory}

-- the fault of the call for a fault of the shelf
abbrev pub by_shelf : ShelfError → BringFault
by_shelf shelf.Failed = ShelfFault
by_shelf shelf.OutOfMemory = OutOfMemory

-- how a shelf's number of failures changes at a fault: only a ShelfFault raises it
abbrev pub CountsFault : ℕ → ℕ → BringFault → Type 0
CountsFault old new BadCheckpoint = new ≡ old
CountsFault old new CopyDamaged = new ≡ old
CountsFault old new NotLarger = new ≡ old
CountsFault old new Contradiction = new ≡ old
CountsFault old new Collision = new ≡ old
CountsFault old new NoFile = new ≡ old
CountsFault old new Source = new ≡ old
CountsFault old new CopyInUse = new ≡ old
CountsFault old new ShelfFault = new ≡ one_more old
CountsFault old new OutOfMemory = new ≡ old

-- the same for an answer
abbrev pub CountsShelf : {T : Type 0} → ℕ → ℕ → Result T BringFault → Type 0
CountsShelf old new (Ok x) = new ≡ old
CountsShelf old new (Err e) = CountsFault old new e

-- neither the shelf nor a place gave a file, and its path is recorded. The fault is Source if a place failed in this call, else
-- NoFile. The note is not refused, the copy is not damaged, and its checkpoint was not read again
abbrev pub BlamesPlaces : {S : Type 0} → Places S → BringFault → Type 0
BlamesPlaces places BadCheckpoint = ⊥
BlamesPlaces places CopyDamaged = ⊥
BlamesPlaces places NotLarger = ⊥
BlamesPlaces places Contradiction = Unit {0}
BlamesPlaces places Collision = Unit {0}
BlamesPlaces places NoFile = IsFalse places.has_failed × IsSome places.lacked
BlamesPlaces places Source = IsTrue places.has_failed × IsSome places.lacked
BlamesPlaces places CopyInUse = ⊥
BlamesPlaces places ShelfFault = Unit {0}
BlamesPlaces places OutOfMemory = Unit {0}

-- the fault is not about a missing file. The note is not refused, the copy is not damaged, and its checkpoint was not read
-- again
abbrev pub IsOfNoPlace : BringFault → Type 0
IsOfNoPlace BadCheckpoint = ⊥
IsOfNoPlace CopyDamaged = ⊥
IsOfNoPlace NotLarger = ⊥
IsOfNoPlace Contradiction = Unit {0}
IsOfNoPlace Collision = Unit {0}
IsOfNoPlace NoFile = ⊥
IsOfNoPlace Source = ⊥
IsOfNoPlace CopyInUse = ⊥
IsOfNoPlace ShelfFault = Unit {0}
IsOfNoPlace OutOfMemory = Unit {0}

-- the shelf's checkpoint was read now, and it differs from the one that was found
pub record IsOtherFound (found : Option (List ℕ)) (puts : Option (List Put)) : Type 0 where
  pub now : Option (List ℕ)
  pub now_is : RecordsRead puts Checkpoint now
  pub other : now ≢ found

-- the last step ended since the checkpoint differs from the one that was found, or by a fault of the shelf
abbrev pub BlamesLast : Option (List ℕ) → Option (List Put) → BringFault → Type 0
BlamesLast found puts e = ((e ≡ CopyInUse) × IsOtherFound found puts) ⊎ IsOfNoPlace e

module _ (digest : List ℕ → List ℕ) where
  -- only new files were put, and then the shelf's checkpoint differs from that of the tip
  pub record IsOtherThen (tip : Tip) (old : Option (List Put)) : Type 0 where
    pub before : Option (List Put)
    pub found : IsOtherFound tip.checkpoint before
    pub cut : (known : List (List ℕ)) → IsKnown digest tip 0 known → IsCutShort digest tip.size known old before

  -- a call ended in its last step since the checkpoint differs from that of the tip, or by another fault
  abbrev pub BlamesRun : {S : Type 0} → Places S → Tip → Option (List Put) → BringFault → Type 0
  BlamesRun places tip old e = ((e ≡ CopyInUse) × IsOtherThen tip old) ⊎ BlamesPlaces places e

  -- a call for n entries ended since n is not larger, or by another fault
  abbrev pub BlamesFrom : {S : Type 0} → Places S → ℕ → Tip → Option (List Put) → BringFault → Type 0
  BlamesFrom places n tip old e =
      ((e ≡ NotLarger) × (n ≤ tip.size) × (n ≡ 0 → tip.checkpoint ≢ None)) ⊎ BlamesRun places tip old e
