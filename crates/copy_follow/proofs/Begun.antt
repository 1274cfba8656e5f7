-- A call from its beginning.
use Rattle.std.proofs.Common.{◌≡◌, ◌⊎◌, inl, inr, ℕ, ◌<◌, List, length, get_or, Option, IsFalse, sym, subst, ap, ◌∙◌, arith}
use Rattle.tlog_tiles.specs.declared.paths.Path.{Path}
use Rattle.mirror_model.specs.Heads.{IsHead}
use Rattle.tlog_tiles.specs.declared.paths.Path.TheVariants.{Checkpoint}
use Rattle.mirror_folders.specs.Shelf.{Put, RecordsRead}
use Rattle.copy_follow.specs.AskedForCopy.{BlamesFailed, RefusesNote}
use Rattle.copy_follow.specs.Faults.{BlamesFrom, BlamesPlaces, IsOfNoPlace}
use Rattle.copy_follow.specs.Found.{IsTipRead}
use Rattle.copy_follow.specs.Growing.{Tip}
use Rattle.copy_follow.specs.Pruned.{HadSize}
use Rattle.copy_places.specs.PlaceGets.{APlaceFailed, AsksEach, AsksPlaces, IsAskedFor}
use Rattle.copy_places.specs.declared.place.Place.{Place}
use Rattle.copy_places.specs.declared.places.Places.{Places}
use Rattle.copy_follow.specs.declared.bring_fault.BringFault.{BringFault}
use Rattle.copy_follow.specs.declared.bring_fault.BringFault.TheVariants.{BadCheckpoint, CopyDamaged, NotLarger, Contradiction}
use Rattle.copy_follow.specs.declared.bring_fault.BringFault.TheVariants.{Collision, NoFile, Source, CopyInUse, ShelfFault, OutOfMemory}
use Rattle.copy_places.proofs.Asking.{asked_same}
use Rattle.copy_follow.proofs.WholeMoments.{none_found}

module _ {S : Type 0} (may : S → Path → Option (List ℕ) → Type 0) (failed : S → ℕ) (asked : S → Option (List Path)) where
  pub asks_begun : (so : Path → Type 0) (x y : Places S) → y.list.items ≡ x.list.items → AsksEach may failed asked so x y
  asks_begun so x y e = record {
    count = ap length e;
    each = λ k d. subst (λ (ys : List (Place S)). IsAskedFor may failed asked so (get_or x.list.items k d) (get_or ys k d)) (sym e)
        (asked_same may failed asked so (get_or x.list.items k d));
  }

  pub begun_then : (so : Path → Type 0) (x y z : Places S) → y.list.items ≡ x.list.items →
      AsksPlaces may failed asked so y z → AsksEach may failed asked so x z
  begun_then so x y z e p = record {
    count = p.count ∙ ap length e;
    each = λ k d. subst (λ (xs : List (Place S)). IsAskedFor may failed asked so (get_or xs k d) (get_or z.list.items k d)) e
        (p.each k d);
  }

  failed_begun : (x y z : Places S) → y.list.items ≡ x.list.items → APlaceFailed may failed asked y z →
      APlaceFailed may failed asked x z
  failed_begun x y z e f = record {
    index = f.index;
    none = f.none;
    rose = subst (λ (xs : List (Place S)). (get_or xs f.index f.none).failures < (get_or z.list.items f.index f.none).failures) e
        f.rose;
  }

  blames_failed : (so : Path → Type 0) (x y z : Places S) (e : BringFault) → y.list.items ≡ x.list.items →
      IsFalse y.has_failed → AsksPlaces may failed asked so y z → BlamesPlaces z e → BlamesFailed may failed asked x z e
  blames_failed so x y z BadCheckpoint list none p h = absurd h
  blames_failed so x y z CopyDamaged list none p h = absurd h
  blames_failed so x y z NotLarger list none p h = absurd h
  blames_failed so x y z Contradiction list none p h = tt
  blames_failed so x y z Collision list none p h = tt
  blames_failed so x y z NoFile list none p h = (
    λ k d. p.spares h.0 k d ∙ ap (λ (ys : List (Place S)). (get_or ys k d).failures) list,
    h.1,
  )
  blames_failed so x y z Source list none p h = (failed_begun x y z list (p.blames h.0 none), h.1)
  blames_failed so x y z CopyInUse list none p h = absurd h
  blames_failed so x y z ShelfFault list none p h = tt
  blames_failed so x y z OutOfMemory list none p h = tt

  blames_none : (x z : Places S) (e : BringFault) → IsOfNoPlace e → BlamesFailed may failed asked x z e
  blames_none x z BadCheckpoint h = absurd h
  blames_none x z CopyDamaged h = absurd h
  blames_none x z NotLarger h = absurd h
  blames_none x z Contradiction h = tt
  blames_none x z Collision h = tt
  blames_none x z NoFile h = absurd h
  blames_none x z Source h = absurd h
  blames_none x z CopyInUse h = absurd h
  blames_none x z ShelfFault h = tt
  blames_none x z OutOfMemory h = tt

  -- a fault of reading the tip
  pub blames_tip : {Q P : Type 0} (x z : Places S) (e : BringFault) →
      ((e ≡ CopyInUse) × Q) ⊎ (((e ≡ CopyDamaged) × P) ⊎ IsOfNoPlace e) → BlamesFailed may failed asked x z e
  blames_tip x z e (inl h) = subst (λ (f : BringFault). BlamesFailed may failed asked x z f) (sym h.0) tt
  blames_tip x z e (inr (inl h)) = subst (λ (f : BringFault). BlamesFailed may failed asked x z f) (sym h.0) tt
  blames_tip x z e (inr (inr h)) = blames_none x z e h

  pub blames_from : (so : Path → Type 0) (x y z : Places S) (digest : List ℕ → List ℕ) (n : ℕ) (tip : Tip)
      (puts : Option (List Put)) (e : BringFault) → y.list.items ≡ x.list.items → IsFalse y.has_failed →
      AsksPlaces may failed asked so y z → BlamesFrom digest z n tip puts e → BlamesFailed may failed asked x z e
  blames_from so x y z digest n tip puts e list none p (inl h) =
      subst (λ (f : BringFault). BlamesFailed may failed asked x z f) (sym h.0) tt
  blames_from so x y z digest n tip puts e list none p (inr (inl h)) =
      subst (λ (f : BringFault). BlamesFailed may failed asked x z f) (sym h.0) tt
  blames_from so x y z digest n tip puts e list none p (inr (inr h)) = blames_failed so x y z e list none p h

module _ (digest : List ℕ → List ℕ) (origin note : List ℕ) (puts : Option (List Put)) where
  -- a fault by which no note is refused
  pub refuses_none : (e : BringFault) → IsOfNoPlace e → RefusesNote digest origin note puts e
  refuses_none BadCheckpoint h = absurd h
  refuses_none CopyDamaged h = tt
  refuses_none NotLarger h = absurd h
  refuses_none Contradiction h = tt
  refuses_none Collision h = tt
  refuses_none NoFile h = absurd h
  refuses_none Source h = absurd h
  refuses_none CopyInUse h = absurd h
  refuses_none ShelfFault h = tt
  refuses_none OutOfMemory h = tt

  -- a fault of reading the tip
  pub refuses_tip : {Q P : Type 0} (e : BringFault) →
      ((e ≡ CopyInUse) × Q) ⊎ (((e ≡ CopyDamaged) × P) ⊎ IsOfNoPlace e) → RefusesNote digest origin note puts e
  refuses_tip e (inl h) = subst (λ (f : BringFault). RefusesNote digest origin note puts f) (sym h.0) tt
  refuses_tip e (inr (inl h)) = subst (λ (f : BringFault). RefusesNote digest origin note puts f) (sym h.0) tt
  refuses_tip e (inr (inr h)) = refuses_none e h

  refuses_places : {S : Type 0} (places : Places S) (e : BringFault) → BlamesPlaces places e → RefusesNote digest origin note puts e
  refuses_places places BadCheckpoint h = absurd h
  refuses_places places CopyDamaged h = tt
  refuses_places places NotLarger h = absurd h
  refuses_places places Contradiction h = tt
  refuses_places places Collision h = tt
  refuses_places places NoFile h = tt
  refuses_places places Source h = tt
  refuses_places places CopyInUse h = absurd h
  refuses_places places ShelfFault h = tt
  refuses_places places OutOfMemory h = tt

  pub refuses_from : {S : Type 0} (places : Places S) (tip : Tip) (old : Option (List Put)) (size : ℕ) (root : List ℕ)
      (e : BringFault) → IsTipRead digest origin puts tip → HadSize digest origin puts tip.size →
      IsHead note origin size root → BlamesFrom digest places size tip old e → RefusesNote digest origin note puts e
  refuses_from places tip old size root e t had_is head (inl h) =
      subst (λ (f : BringFault). RefusesNote digest origin note puts f) (sym h.0) (record {
        had = tip.size;
        size = size;
        root = root;
        had_is = had_is;
        is_head = head;
        upto = h.1;
        not_none = λ held is none.
            let gone = none_found held tip.checkpoint (subst (λ o. RecordsRead o Checkpoint tip.checkpoint) is t.checkpoint) none in
            let upto = h.1 in
            h.2 (omega (arith, upto, t.empty gone)) gone;
      })
  refuses_from places tip old size root e t had_is head (inr (inl h)) =
      subst (λ (f : BringFault). RefusesNote digest origin note puts f) (sym h.0) tt
  refuses_from places tip old size root e t had_is head (inr (inr h)) = refuses_places places e h
