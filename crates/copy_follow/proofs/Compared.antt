-- The checkpoint that the caller found before the call, compared with the shelf's.
use Rattle.std.proofs.Common.{◌≡◌, inl, inr, ℕ, List, Option, Some, Result, Ok, Err, sym, subst}
use Rattle.tlog_tiles.specs.declared.paths.Path.TheVariants.{Checkpoint}
use Rattle.mirror_folders.proofs.FoundOnce.{read_once}
use Rattle.mirror_folders.specs.Shelf.{Put, RecordsRead}
use Rattle.copy_follow.specs.Compared.{BlamesTip, IsOverFound}
use Rattle.copy_follow.specs.Conflicts.{IsNoConflict}
use Rattle.copy_follow.specs.Faults.{IsOfNoPlace, IsOtherFound}
use Rattle.copy_follow.specs.declared.bring_fault.BringFault.{BringFault}
use Rattle.copy_follow.specs.declared.bring_fault.BringFault.TheVariants.{BadCheckpoint, CopyDamaged, NotLarger}
use Rattle.copy_follow.specs.declared.bring_fault.BringFault.TheVariants.{Contradiction, Collision, NoFile, Source, CopyInUse}
use Rattle.copy_follow.specs.declared.bring_fault.BringFault.TheVariants.{ShelfFault, OutOfMemory}

-- on a shelf that records its puts, no other checkpoint is read
pub none_other : (held : List Put) (puts : Option (List Put)) (found : Option (List ℕ)) → puts ≡ Some held →
    RecordsRead puts Checkpoint found → IsOtherFound found puts → ⊥
none_other held puts found is read o =
    let there : (answer : Option (List ℕ)) → RecordsRead puts Checkpoint answer → RecordsRead (Some held) Checkpoint answer =
    λ answer r. subst (λ (p : Option (List Put)). RecordsRead p Checkpoint answer) is r in
    o.other (read_once held Checkpoint o.now found (there o.now o.now_is) (there found read))

module _ (puts : Option (List Put)) (found : Option (List ℕ)) where
  -- once the checkpoint was compared
  pub over_found : {T : Type 0} (r : Result T BringFault) → RecordsRead puts Checkpoint found → IsOverFound puts found r
  over_found (Ok x) h = h
  over_found (Err BadCheckpoint) h = tt
  over_found (Err CopyDamaged) h = tt
  over_found (Err NotLarger) h = h
  over_found (Err Contradiction) h = h
  over_found (Err Collision) h = h
  over_found (Err NoFile) h = h
  over_found (Err Source) h = h
  over_found (Err CopyInUse) h = tt
  over_found (Err ShelfFault) h = tt
  over_found (Err OutOfMemory) h = tt

  over_read : (T : Type 0) (e : BringFault) → IsOfNoPlace e → IsNoConflict e → IsOverFound {T = T} puts found (Err e)
  over_read T BadCheckpoint h n = tt
  over_read T CopyDamaged h n = tt
  over_read T NotLarger h n = absurd h
  over_read T Contradiction h n = absurd n
  over_read T Collision h n = absurd n
  over_read T NoFile h n = absurd h
  over_read T Source h n = absurd h
  over_read T CopyInUse h n = tt
  over_read T ShelfFault h n = tt
  over_read T OutOfMemory h n = tt

  -- a fault of reading the tip
  pub over_tip : (T : Type 0) (digest : List ℕ → List ℕ) (origin : List ℕ) (e : BringFault) →
      BlamesTip digest origin found puts e → IsNoConflict e → IsOverFound {T = T} puts found (Err e)
  over_tip T digest origin e (inl h) n =
      subst (λ (f : BringFault). IsOverFound {T = T} puts found (Err f)) (sym h.0) tt
  over_tip T digest origin e (inr (inl h)) n =
      subst (λ (f : BringFault). IsOverFound {T = T} puts found (Err f)) (sym h.0) tt
  over_tip T digest origin e (inr (inr h)) n = over_read T e h n
