-- The checkpoint that is read in the last step.
use Rattle.std.proofs.Common.{◌≡◌, ◌⊎◌, inl, inr, ℕ, List, [], Option, Some, None, Result, Ok, Err, IfErr, sym, subst}
use Rattle.tlog_tiles.specs.declared.paths.Path.TheVariants.{Checkpoint}
use Rattle.mirror_sources.specs.Recorded.{KeepsRecord}
use Rattle.mirror_folders.specs.Shelf.{Put, RecordsRead}
use Rattle.copy_follow.specs.AskedForCopy.{IsInUse}
use Rattle.copy_follow.specs.Compared.{BlamesTip}
use Rattle.copy_follow.specs.Faults.{BlamesFrom, BlamesPlaces, BlamesRun, IsOfNoPlace, IsOtherFound, IsOtherThen}
use Rattle.copy_follow.specs.Found.{IsTipRead}
use Rattle.copy_follow.specs.Growing.{IsCutShort, IsKnown, Tip}
use Rattle.copy_follow.specs.declared.bring_fault.BringFault.{BringFault}
use Rattle.copy_follow.specs.declared.bring_fault.BringFault.TheVariants.{BadCheckpoint, CopyDamaged, NotLarger}
use Rattle.copy_follow.specs.declared.bring_fault.BringFault.TheVariants.{Contradiction, Collision, NoFile, Source, CopyInUse}
use Rattle.copy_follow.specs.declared.bring_fault.BringFault.TheVariants.{ShelfFault, OutOfMemory}
use Rattle.copy_places.specs.declared.places.Places.{Places}
use Rattle.copy_follow.proofs.Growth.{left_then}
use Rattle.mirror_folders.proofs.FoundOnce.{read_more, read_once}
use Rattle.copy_follow.proofs.WholeMoments.{new_no_checkpoint, none_found}

-- a fault that is not about a missing file is a fault of a call
pub of_no_place : {S : Type 0} (places : Places S) (e : BringFault) → IsOfNoPlace e → BlamesPlaces places e
of_no_place places BadCheckpoint h = absurd h
of_no_place places CopyDamaged h = absurd h
of_no_place places NotLarger h = absurd h
of_no_place places Contradiction h = tt
of_no_place places Collision h = tt
of_no_place places NoFile h = absurd h
of_no_place places Source h = absurd h
of_no_place places CopyInUse h = absurd h
of_no_place places ShelfFault h = tt
of_no_place places OutOfMemory h = tt

module _ (digest : List ℕ → List ℕ) {S : Type 0} (places : Places S) (tip : Tip) where
  -- a fault of the last step, after only new files were put
  pub last_blames : (x w : Option (List Put)) {T : Type 0} (r : Result T BringFault) →
      ((known : List (List ℕ)) → IsKnown digest tip 0 known → IsCutShort digest tip.size known x w) →
      IfErr r (λ e. ((e ≡ CopyInUse) × IsOtherFound tip.checkpoint w) ⊎ IsOfNoPlace e) →
      IfErr r (BlamesRun digest places tip x)
  last_blames x w (Ok a) cut h = tt
  last_blames x w (Err e) cut (inl h) = inl (h.0, record { before = w; found = h.1; cut = cut })
  last_blames x w (Err e) cut (inr h) = inr (of_no_place places e h)

  then_kept : (x y : Option (List Put)) → KeepsRecord x y → IsOtherThen digest tip y → IsOtherThen digest tip x
  then_kept x y kept o = record {
    before = o.before;
    found = o.found;
    cut = λ known is. left_then digest tip.size known x y o.before kept (o.cut known is);
  }

  -- the same for a later part of a call, if nothing was put before it
  pub later_blames : (x y : Option (List Put)) {T : Type 0} (r : Result T BringFault) → KeepsRecord x y →
      IfErr r (BlamesRun digest places tip y) → IfErr r (BlamesRun digest places tip x)
  later_blames x y (Ok a) kept h = tt
  later_blames x y (Err e) kept (inl h) = inl (h.0, then_kept x y kept h.1)
  later_blames x y (Err e) kept (inr h) = inr h

-- the last step of a call to a checkpoint without entries
pub last_empty : (digest : List ℕ → List ℕ) (tip : Tip) (x w : Option (List Put)) {T : Type 0} (r : Result T BringFault) →
    ((known : List (List ℕ)) → IsKnown digest tip 0 known → IsCutShort digest tip.size known x w) →
    IfErr r (λ e. ((e ≡ CopyInUse) × IsOtherFound tip.checkpoint w) ⊎ IsOfNoPlace e) →
    IfErr r (λ e. ((e ≡ CopyInUse) × IsOtherThen digest tip x) ⊎ IsOfNoPlace e)
last_empty digest tip x w (Ok a) cut h = tt
last_empty digest tip x w (Err e) cut (inl h) = inl (h.0, record { before = w; found = h.1; cut = cut })
last_empty digest tip x w (Err e) cut (inr h) = inr h

-- ---- a shelf that records its puts

-- the checkpoint of the start is read again, if only new files were put
same_found : (digest : List ℕ → List ℕ) (m : ℕ) (known : List (List ℕ)) (held : List Put) (w : Option (List Put))
    (first last : Option (List ℕ)) → RecordsRead (Some held) Checkpoint first → IsCutShort digest m known (Some held) w →
    RecordsRead w Checkpoint last → last ≡ first
same_found digest m known held None first last read cut again = absurd cut.gathers.recorded
same_found digest m known held (Some new) first last read cut again =
    let g = cut.gathers in
    read_once new Checkpoint last first again
    (subst (λ (l : List Put). RecordsRead (Some l) Checkpoint first) (sym g.recorded)
    (read_more held Checkpoint g.puts first (new_no_checkpoint digest m cut.next g.puts g.are_new) read))

pub in_use : (digest : List ℕ → List ℕ) (origin : List ℕ) (tip : Tip) (x : Option (List Put)) → IsTipRead digest origin x tip →
    IsOtherThen digest tip x → IsInUse digest origin x
in_use digest origin tip x t o = record {
  no_copy = λ held is note entries copy. same held is entries (t.copy held is note entries copy);
  no_pruned = λ held is note entries copy. same held is entries (t.pruned held is note entries copy);
  not_none = λ held is none.
      same held is [] (t.known (none_found held tip.checkpoint (there held is) none));
}
  where
    there : (held : List Put) → x ≡ Some held → RecordsRead (Some held) Checkpoint tip.checkpoint
    there held is = subst (λ (p : Option (List Put)). RecordsRead p Checkpoint tip.checkpoint) is t.checkpoint

    same : (held : List Put) → x ≡ Some held → (known : List (List ℕ)) → IsKnown digest tip 0 known → ⊥
    same held is known k =
        o.found.other (same_found digest tip.size known held o.before tip.checkpoint o.found.now (there held is)
        (subst (λ (p : Option (List Put)). IsCutShort digest tip.size known p o.before) is (o.cut known k)) o.found.now_is)

-- CopyInUse of a call that continues from a tip
pub in_use_later : (digest : List ℕ → List ℕ) (origin : List ℕ) {S : Type 0} (places : Places S) (tip : Tip) (n : ℕ)
    (x y : Option (List Put)) (e : BringFault) → KeepsRecord x y → IsTipRead digest origin x tip →
    BlamesFrom digest places n tip y e → e ≡ CopyInUse → IsInUse digest origin x
in_use_later digest origin places tip n x y e kept t (inl h) is = absurd (cc (h.0, is))
in_use_later digest origin places tip n x y e kept t (inr (inl h)) is =
    in_use digest origin tip x t (then_kept digest places tip x y kept h.1)
in_use_later digest origin places tip n x y e kept t (inr (inr h)) is =
    absurd (subst (λ (f : BringFault). BlamesPlaces places f) is h)

-- CopyInUse at the reading of the tip
pub tip_in_use : (digest : List ℕ → List ℕ) (origin : List ℕ) (found : Option (List ℕ)) (x : Option (List Put))
    (e : BringFault) → BlamesTip digest origin found x e → e ≡ CopyInUse → IsInUse digest origin x ⊎ IsOtherFound found x
tip_in_use digest origin found x e (inl h) is = inr h.1
tip_in_use digest origin found x e (inr (inl h)) is = absurd (cc (h.0, is))
tip_in_use digest origin found x e (inr (inr h)) is = absurd (subst (λ (f : BringFault). IsOfNoPlace f) is h)
