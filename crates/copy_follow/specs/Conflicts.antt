-- A call that ends by a contradiction or a collision puts nothing. It does not end so for an empty copy.
use Rattle.std.specs.Prelude.{◌≡◌, ◌≢◌, ℕ, ◌≤◌, List, [], Option, Some, Result, Ok, Err, ⊤}
use Rattle.tlog_tiles.specs.declared.paths.Path.TheVariants.{Checkpoint}
use Rattle.mirror_model.specs.Heads.{IsHead}
use Rattle.mirror_sources.specs.Recorded.{KeepsRecord}
use Rattle.mirror_folders.specs.Shelf.{Put, RecordsRead}
use Rattle.copy_follow.specs.declared.bring_fault.BringFault.{BringFault}
use Rattle.copy_follow.specs.declared.bring_fault.BringFault.TheVariants.{BadCheckpoint, CopyDamaged, NotLarger}
use Rattle.copy_follow.specs.declared.bring_fault.BringFault.TheVariants.{Contradiction, Collision, NoFile, Source, CopyInUse}
use Rattle.copy_follow.specs.declared.bring_fault.BringFault.TheVariants.{ShelfFault, OutOfMemory}

-- the fault is neither a contradiction nor a collision
abbrev pub IsNoConflict : BringFault → Type 0
IsNoConflict BadCheckpoint = ⊤
IsNoConflict CopyDamaged = ⊤
IsNoConflict NotLarger = ⊤
IsNoConflict Contradiction = ⊥
IsNoConflict Collision = ⊥
IsNoConflict NoFile = ⊤
IsNoConflict Source = ⊤
IsNoConflict CopyInUse = ⊤
IsNoConflict ShelfFault = ⊤
IsNoConflict OutOfMemory = ⊤

-- the fault is a contradiction or a collision
abbrev pub IsConflict : BringFault → Type 0
IsConflict BadCheckpoint = ⊥
IsConflict CopyDamaged = ⊥
IsConflict NotLarger = ⊥
IsConflict Contradiction = ⊤
IsConflict Collision = ⊤
IsConflict NoFile = ⊥
IsConflict Source = ⊥
IsConflict CopyInUse = ⊥
IsConflict ShelfFault = ⊥
IsConflict OutOfMemory = ⊥

-- at a contradiction or a collision, the file in question begins within the first m entries, and nothing was put
abbrev pub ConflictPutsNothing : {T : Type 0} → ℕ → ℕ → Option (List Put) → Option (List Put) →
    Result T BringFault → Type 0
ConflictPutsNothing start m old new (Ok x) = ⊤
ConflictPutsNothing start m old new (Err BadCheckpoint) = ⊤
ConflictPutsNothing start m old new (Err CopyDamaged) = ⊤
ConflictPutsNothing start m old new (Err NotLarger) = ⊤
ConflictPutsNothing start m old new (Err Contradiction) = (start ≤ m) × KeepsRecord old new
ConflictPutsNothing start m old new (Err Collision) = (start ≤ m) × KeepsRecord old new
ConflictPutsNothing start m old new (Err NoFile) = ⊤
ConflictPutsNothing start m old new (Err Source) = ⊤
ConflictPutsNothing start m old new (Err CopyInUse) = ⊤
ConflictPutsNothing start m old new (Err ShelfFault) = ⊤
ConflictPutsNothing start m old new (Err OutOfMemory) = ⊤

-- the size is 0, but the root is not the hash of the empty list
abbrev pub IsFalseEmpty : (List ℕ → List ℕ) → ℕ → List ℕ → Type 0
IsFalseEmpty digest size root = (size ≡ 0) × (root ≢ digest [])

-- the cause of a contradiction or a collision: the shelf had a checkpoint, or the note is that of a log without entries whose root is
-- not the hash of the empty list
pub data HasConflict (digest : List ℕ → List ℕ) (origin note : List ℕ) (puts : Option (List Put)) : Type 0 where
  WithCopy : (found : List ℕ) → RecordsRead puts Checkpoint (Some found) → HasConflict digest origin note puts
  WithEmpty :
      (size : ℕ) (root : List ℕ) → IsHead note origin size root → IsFalseEmpty digest size root →
      HasConflict digest origin note puts
