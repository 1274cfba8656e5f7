-- Calls that end before anything is put.
use Rattle.std.proofs.Common.{ℕ, ◌≤◌, List, Option, Some, None, Result, Ok, Err, IfErr, sym, subst}
use Rattle.std.proofs.Common.{◌∙◌}
use Rattle.mirror_sources.specs.Recorded.{KeepsRecord}
use Rattle.tlog_tiles.specs.declared.paths.Path.{Path}
use Rattle.mirror_folders.specs.Shelf.{Put, Stands}
use Rattle.copy_follow.specs.Standing.{RecordsStands}
use Rattle.copy_follow.specs.Conflicts.{ConflictPutsNothing, IsConflict, IsNoConflict}
use Rattle.copy_follow.specs.declared.bring_fault.BringFault.{BringFault}
use Rattle.copy_follow.specs.declared.bring_fault.BringFault.TheVariants.{BadCheckpoint, CopyDamaged, NotLarger, Contradiction}
use Rattle.copy_follow.specs.declared.bring_fault.BringFault.TheVariants.{Collision, NoFile, Source, CopyInUse, ShelfFault, OutOfMemory}

pub kept_then : (x y z : Option (List Put)) → KeepsRecord x y → KeepsRecord y z → KeepsRecord x z
kept_then None y z p q = tt
kept_then (Some xs) None z p q = absurd p
kept_then (Some xs) (Some ys) None p q = q
kept_then (Some xs) (Some ys) (Some zs) p q = q ∙ p

-- a file stays on the shelf while the puts are kept
pub stands_kept : (x y z : Option (List Put)) (path : Path) (bytes : List ℕ) → RecordsStands x y path bytes → KeepsRecord y z →
    RecordsStands x z path bytes
stands_kept None y z path bytes h k = tt
stands_kept (Some xs) None z path bytes h k = absurd h
stands_kept (Some xs) (Some ys) None path bytes h k = absurd k
stands_kept (Some xs) (Some ys) (Some zs) path bytes h k = subst (λ (puts : List Put). Stands puts path bytes) (sym k) h

pub early_other : (T : Type 0) (start m : ℕ) (x y : Option (List Put)) (e : BringFault) → IsNoConflict e →
    ConflictPutsNothing {T = T} start m x y (Err e)
early_other T start m x y BadCheckpoint h = tt
early_other T start m x y CopyDamaged h = tt
early_other T start m x y NotLarger h = tt
early_other T start m x y CopyInUse h = tt
early_other T start m x y Source h = tt
early_other T start m x y Contradiction h = absurd h
early_other T start m x y Collision h = absurd h
early_other T start m x y NoFile h = tt
early_other T start m x y ShelfFault h = tt
early_other T start m x y OutOfMemory h = tt

-- an answer with another fault
pub early_result : {T : Type 0} (start m : ℕ) (x y : Option (List Put)) (r : Result T BringFault) → IfErr r IsNoConflict →
    ConflictPutsNothing start m x y r
early_result {T} start m x y (Ok a) h = tt
early_result {T} start m x y (Err e) h = early_other T start m x y e h

-- a fault of a later part. If that part began within the m entries, nothing was put before it
pub early_later : (S T : Type 0) (start later m : ℕ) (x y z : Option (List Put)) (e : BringFault) →
    (later ≤ m → (start ≤ m) × KeepsRecord x y) → ConflictPutsNothing {T = S} later m y z (Err e) → ConflictPutsNothing {T = T} start m x z (Err e)
early_later S T start later m x y z Contradiction f h = ((f h.0).0, kept_then x y z (f h.0).1 h.1)
early_later S T start later m x y z Collision f h = ((f h.0).0, kept_then x y z (f h.0).1 h.1)
early_later S T start later m x y z BadCheckpoint f h = tt
early_later S T start later m x y z CopyDamaged f h = tt
early_later S T start later m x y z NotLarger f h = tt
early_later S T start later m x y z CopyInUse f h = tt
early_later S T start later m x y z Source f h = tt
early_later S T start later m x y z NoFile f h = tt
early_later S T start later m x y z ShelfFault f h = tt
early_later S T start later m x y z OutOfMemory f h = tt

-- at a conflict nothing was put
pub conflict_keeps : {T : Type 0} (start m : ℕ) (x y : Option (List Put)) (r : Result T BringFault) →
    ConflictPutsNothing start m x y r → IfErr r (λ e. IsConflict e → KeepsRecord x y)
conflict_keeps start m x y (Ok a) h = tt
conflict_keeps start m x y (Err BadCheckpoint) h = λ c. absurd c
conflict_keeps start m x y (Err CopyDamaged) h = λ c. absurd c
conflict_keeps start m x y (Err NotLarger) h = λ c. absurd c
conflict_keeps start m x y (Err Contradiction) h = λ c. h.1
conflict_keeps start m x y (Err Collision) h = λ c. h.1
conflict_keeps start m x y (Err NoFile) h = λ c. absurd c
conflict_keeps start m x y (Err CopyInUse) h = λ c. absurd c
conflict_keeps start m x y (Err Source) h = λ c. absurd c
conflict_keeps start m x y (Err ShelfFault) h = λ c. absurd c
conflict_keeps start m x y (Err OutOfMemory) h = λ c. absurd c

pub no_conflict : (e : BringFault) (P : Type 0) → IsNoConflict e → IsConflict e → P
no_conflict BadCheckpoint P h c = absurd c
no_conflict CopyDamaged P h c = absurd c
no_conflict NotLarger P h c = absurd c
no_conflict Contradiction P h c = absurd h
no_conflict Collision P h c = absurd h
no_conflict NoFile P h c = absurd c
no_conflict CopyInUse P h c = absurd c
no_conflict Source P h c = absurd c
no_conflict ShelfFault P h c = absurd c
no_conflict OutOfMemory P h c = absurd c

-- the same if the earlier puts were kept
pub conflict_later : {T : Type 0} (x y z : Option (List Put)) (r : Result T BringFault) → KeepsRecord x y →
    IfErr r (λ e. IsConflict e → KeepsRecord y z) → IfErr r (λ e. IsConflict e → KeepsRecord x z)
conflict_later x y z (Ok a) k h = tt
conflict_later x y z (Err e) k h = λ c. kept_then x y z k (h c)
