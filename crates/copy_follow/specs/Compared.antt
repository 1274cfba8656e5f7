-- The checkpoint that the caller found before the call, compared with the shelf's.
use Rattle.std.specs.Prelude.{◌≡◌, ◌⊎◌, ℕ, List, Option, Result, Ok, Err, ⊤}
use Rattle.tlog_tiles.specs.declared.paths.Path.TheVariants.{Checkpoint}
use Rattle.mirror_folders.specs.Shelf.{Put, RecordsRead}
use Rattle.copy_follow.specs.Damaged.{IsDamaged}
use Rattle.copy_follow.specs.Faults.{IsOfNoPlace, IsOtherFound}
use Rattle.copy_follow.specs.declared.bring_fault.BringFault.{BringFault}
use Rattle.copy_follow.specs.declared.bring_fault.BringFault.TheVariants.{BadCheckpoint, CopyDamaged, NotLarger}
use Rattle.copy_follow.specs.declared.bring_fault.BringFault.TheVariants.{Contradiction, Collision, NoFile, Source, CopyInUse}
use Rattle.copy_follow.specs.declared.bring_fault.BringFault.TheVariants.{ShelfFault, OutOfMemory}

-- the shelf had the checkpoint that was found. This is known at Ok and at each fault that comes only after the two were compared
abbrev pub IsOverFound : {T : Type 0} → Option (List Put) → Option (List ℕ) → Result T BringFault → Type 0
IsOverFound puts found (Ok x) = RecordsRead puts Checkpoint found
IsOverFound puts found (Err BadCheckpoint) = ⊤
IsOverFound puts found (Err CopyDamaged) = ⊤
IsOverFound puts found (Err NotLarger) = RecordsRead puts Checkpoint found
IsOverFound puts found (Err Contradiction) = RecordsRead puts Checkpoint found
IsOverFound puts found (Err Collision) = RecordsRead puts Checkpoint found
IsOverFound puts found (Err NoFile) = RecordsRead puts Checkpoint found
IsOverFound puts found (Err Source) = RecordsRead puts Checkpoint found
IsOverFound puts found (Err CopyInUse) = ⊤
IsOverFound puts found (Err ShelfFault) = ⊤
IsOverFound puts found (Err OutOfMemory) = ⊤

-- ---- only contracts of private functions cite what follows

-- no tip was read: the checkpoint differs from the one that was found, the shelf has no copy, the shelf failed, or memory was refused
abbrev pub BlamesTip : (List ℕ → List ℕ) → List ℕ → Option (List ℕ) → Option (List Put) → BringFault → Type 0
BlamesTip digest origin found puts e =
    ((e ≡ CopyInUse) × IsOtherFound found puts) ⊎ (((e ≡ CopyDamaged) × IsDamaged digest origin puts) ⊎ IsOfNoPlace e)
