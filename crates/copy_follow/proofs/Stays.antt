-- After a call that ended early, the shelf has the old copy at the end.
use Rattle.std.proofs.Common.{◌≡◌, ℕ, List, [], Option, Some, None, Result, Ok, Err, IfErr, refl, sym, subst}
use Rattle.std.proofs.lemmas.List.{append-nil}
use Rattle.tlog_tiles.specs.declared.paths.Path.TheVariants.{Checkpoint}
use Rattle.mirror_sources.specs.Recorded.{AddsToRecord, KeepsRecord}
use Rattle.mirror_folders.specs.Shelf.{Put, HasPut}
use Rattle.mirror_folders.specs.Holding.{IsMoment}
use Rattle.log_reader.specs.EdgeRows.{Edge}
use Rattle.copy_follow.specs.Copies.{IsCopy}
use Rattle.copy_follow.specs.Edges.{BringsToEdge, PutsNote}
use Rattle.copy_follow.specs.Found.{IsTipRead}
use Rattle.copy_follow.specs.Growing.{IsCutShort, IsKnown, Tip}
use Rattle.copy_follow.specs.Moments.{CopyStays, InTheEnd}
use Rattle.copy_follow.proofs.WholeMoments.{cut_copy, cut_none, none_found}

-- the end is a moment
ended : (held : List Put) (w : Option (List Put)) (puts : List Put) → AddsToRecord (Some held) w puts →
    (so : List Put → Type 0) → ((new : List Put) → w ≡ Some new → IsMoment held new new → so new) → InTheEnd w so
ended held None puts recorded so all = absurd recorded
ended held (Some new) puts recorded so all =
    all new refl (record { so_far = puts; later = []; now_is = recorded; new_is = sym (append-nil new) })

module _ (digest : List ℕ → List ℕ) (origin : List ℕ) (tip : Tip) where
  module _ (held : List Put) (w : Option (List Put)) (t : IsTipRead digest origin (Some held) tip)
      (cut : (known : List (List ℕ)) → IsKnown digest tip 0 known → IsCutShort digest tip.size known (Some held) w) where
    later : (new : List Put) → w ≡ Some new → (known : List (List ℕ)) → IsKnown digest tip 0 known →
        IsCutShort digest tip.size known (Some held) (Some new)
    later new is known k = subst (λ o. IsCutShort digest tip.size known (Some held) o) is (cut known k)

    copy_held : (note : List ℕ) (entries : List (List ℕ)) → IsCopy digest origin note entries held →
        InTheEnd w (IsCopy digest origin note entries)
    copy_held note entries copy =
        let c = cut entries (t.copy held refl note entries copy) in
        ended held w c.gathers.puts c.gathers.recorded (IsCopy digest origin note entries)
        (λ new is at. cut_copy digest origin [] tip held new t (later new is) note entries copy new at)

    none_held : (HasPut held Checkpoint → ⊥) → InTheEnd w (λ now. HasPut now Checkpoint → ⊥)
    none_held none =
        let c = cut [] (t.known (none_found held tip.checkpoint t.checkpoint none)) in
        ended held w c.gathers.puts c.gathers.recorded (λ now. HasPut now Checkpoint → ⊥)
        (λ new is at. cut_none digest origin [] tip held new t (later new is) none new at)

  pub stays_cut : (x w : Option (List Put)) → IsTipRead digest origin x tip →
      ((known : List (List ℕ)) → IsKnown digest tip 0 known → IsCutShort digest tip.size known x w) →
      CopyStays digest origin x w
  stays_cut x w t cut = record {
    copy = λ held is note entries copy.
        copy_held held w (subst (λ o. IsTipRead digest origin o tip) is t)
        (λ known k. subst (λ o. IsCutShort digest tip.size known o w) is (cut known k)) note entries copy;
    none = λ held is none.
        none_held held w (subst (λ o. IsTipRead digest origin o tip) is t)
        (λ known k. subst (λ o. IsCutShort digest tip.size known o w) is (cut known k)) none;
  }

-- a call that put nothing
pub stays_same : (digest : List ℕ → List ℕ) (origin : List ℕ) (x y : Option (List Put)) → KeepsRecord x y →
    CopyStays digest origin x y
stays_same digest origin None y k = record { copy = λ held is. absurd (cc is); none = λ held is. absurd (cc is) }
stays_same digest origin (Some xs) None k = absurd k
stays_same digest origin (Some xs) (Some ys) k = record {
  copy = λ held is note entries copy.
      let same : held ≡ ys = cc (is, k) in subst (IsCopy digest origin note entries) same copy;
  none = λ held is none.
      let same : held ≡ ys = cc (is, k) in subst (λ (l : List Put). HasPut l Checkpoint → ⊥) same none;
}

-- two calls in a row
pub stays_then : (digest : List ℕ → List ℕ) (origin : List ℕ) (x y w : Option (List Put)) → CopyStays digest origin x y →
    CopyStays digest origin y w → CopyStays digest origin x w
stays_then digest origin x None w p q = record {
  copy = λ held is note entries copy. absurd (p.copy held is note entries copy);
  none = λ held is none. absurd (p.none held is none);
}
stays_then digest origin x (Some ys) w p q = record {
  copy = λ held is note entries copy. q.copy ys refl note entries (p.copy held is note entries copy);
  none = λ held is none. q.none ys refl (p.none held is none);
}

-- a result of a later part of a call, if the earlier puts were kept
pub stays_later : (digest : List ℕ → List ℕ) (origin : List ℕ) (tip : Tip) (x y w : Option (List Put)) →
    {T E : Type 0} (r : Result T E) → KeepsRecord x y → IsTipRead digest origin x tip →
    (IsTipRead digest origin y tip → IfErr r (λ e. CopyStays digest origin y w)) →
    IfErr r (λ e. CopyStays digest origin x w)
stays_later digest origin tip x y w (Ok a) k t f = tt
stays_later digest origin tip None y w (Err e) k t f =
    record { copy = λ held is. absurd (cc is); none = λ held is. absurd (cc is) }
stays_later digest origin tip (Some xs) None w (Err e) k t f = absurd k
stays_later digest origin tip (Some xs) (Some ys) w (Err e) k t f =
    subst (λ (l : List Put). CopyStays digest origin (Some l) w) k
    (f (subst (λ (l : List Put). IsTipRead digest origin (Some l) tip) (sym k) t))

-- a call that brings a copy to an edge, for each answer
pub larger_stays : (digest : List ℕ → List ℕ) (origin note : List ℕ) (tip : Tip) (edge : Edge)
    (x w : Option (List Put)) → IsTipRead digest origin x tip → {T E : Type 0} (r : Result T E) →
    ((known : List (List ℕ)) → IsKnown digest tip 0 known → BringsToEdge digest tip edge note known x w r) →
    IfErr r (λ e. CopyStays digest origin x w)
larger_stays digest origin note tip edge x w t (Ok a) brings = tt
larger_stays digest origin note tip edge x w t (Err e) brings = stays_cut digest origin tip x w t brings

-- a call that puts only the checkpoint, for each answer
pub empty_stays : (digest : List ℕ → List ℕ) (origin note : List ℕ) (found : Option (List ℕ)) (x w : Option (List Put)) →
    {T E : Type 0} (r : Result T E) → PutsNote x w found note r → IfErr r (λ e. CopyStays digest origin x w)
empty_stays digest origin note found x w (Ok a) put = tt
empty_stays digest origin note found x w (Err e) kept = stays_same digest origin x w kept
