-- Views that gain strings.
use Rattle.std.proofs.Common.{◌≡◌, ◌⊎◌, ℕ, zero, suc, ◌^◌, ◌<◌, ◌≤◌, length, get_or, arith, List}
use Rattle.std.proofs.Common.{[], ◌∷◌, Result, Ok, Err, Bool, true, false, refl, sym, ap, ◌∙◌, Option, subst, inl, inr}
use Rattle.std.proofs.Common.{Contains}
use Rattle.std.specs.FinSet as set
use Rattle.node_store.specs.Strings.{Has}
use Rattle.signed_note.specs.Keys.{Key}
use Rattle.tlog_tiles.specs.declared.paths.Path.{Path}
use Rattle.tlog_tiles.specs.declared.paths.Path.TheVariants.{Checkpoint, Tile, Entries}
use Rattle.mirror_model.specs.View.{View, IsSubview}
use Rattle.mirror_model.specs.declared.items.Item.TheVariants as item
use Rattle.mirror_model.specs.Item.{notes_of, plus, IsGoodHead}
use Rattle.mirror_model.specs.Heads.{IsOpenHead, IsHead, HasHead}
use Rattle.mirror_model.specs.Listed.{ListsMissing}
use Rattle.mirror_model.specs.TreeLaws.{IsOfSize, MissingIsOfSize}
use Rattle.std.proofs.lemmas.List.{get_or_default}
use Rattle.mirror_model.specs.Steps.{Takes, Exhausted}
use Rattle.mirror_model.proofs.Views.{within_itself, within_trans, within_plus}
use Rattle.mirror_model.proofs.StringSets.{has_right, has_cases, has_empty, listed_from_has, has_from_listed}
use Rattle.mirror_model.proofs.HeadNotes.{head_of}
use Rattle.mirror_pull.specs.Taking.{GainsStrings, Grows, PullsTo, TakesItem, TakesHead, IsTakeable, item_at, EndsBeforeHead}
use Rattle.mirror_pull.specs.Taking.{EndsAfterHead}
use Rattle.mirror_pull.specs.Answering.{of_take, refused_of, refused_of_fault}
use Rattle.mirror_model.specs.Answered.{answer_of}
use Rattle.mirror_model.specs.declared.fault.TakeFault.{TakeFault}
use Rattle.mirror_model.specs.declared.fault.TakeFault.TheVariants as take
use Rattle.mirror_sources.specs.Source.{StaysWithin}
use Rattle.mirror_pull.specs.Asking.{BlamesSource}
use Rattle.mirror_pull.specs.Parts.{IsOutside}
use Rattle.mirror_pull.specs.Faults.{of_source}
use Rattle.mirror_sources.specs.declared.source.SourceFault.{SourceFault}
use Rattle.mirror_sources.specs.declared.source.SourceFault.TheVariants as source
use Rattle.mirror_pull.specs.declared.fault.PullFault.{PullFault}
use Rattle.mirror_pull.specs.declared.fault.PullFault.TheVariants.{NoCheckpoint, NoEdge, Head, Source, Collision}
use Rattle.mirror_pull.specs.declared.fault.PullFault.TheVariants.{OutOfMemory}

pub early_of_source : (f : SourceFault) → EndsBeforeHead {T = Bool} (Err (of_source f))
early_of_source source.Failed = tt
early_of_source source.OutOfMemory = tt

pub late_of_source : (f : SourceFault) → EndsAfterHead {T = Bool} (Err (of_source f))
late_of_source source.Failed = tt
late_of_source source.OutOfMemory = tt

pub gains_itself : (v : View) → GainsStrings v v
gains_itself v = record { grows = within_itself v; same_notes = λ note h. h }

pub gains_same : (v w : View) → w ≡ v → GainsStrings v w
gains_same v w e = subst (λ (x : View). GainsStrings v x) (sym e) (gains_itself v)

pub gains_then : (v w x : View) → GainsStrings v w → GainsStrings w x → GainsStrings v x
gains_then v w x p q =
    record {
      grows =
          within_trans v w x p.grows q.grows;
      same_notes = λ note h. p.same_notes note (q.same_notes note h);
    }

no_note : (digest : List ℕ → List ℕ) (path : Path) (bytes : List ℕ) → notes_of (item_at path bytes) ≡ []
no_note digest Checkpoint bytes = refl
no_note digest (Tile level index width) bytes = refl
no_note digest (Entries index width) bytes = refl

plus_notes : (digest : List ℕ → List ℕ) (v : View) (path : Path) (bytes note : List ℕ) →
    Has (plus digest v (item_at path bytes)).notes note → Has v.notes note
plus_notes digest v path bytes note h =
    let h' = subst (λ (notes : List (List ℕ)). Has (set.union v.notes (set.from_list notes)) note)
    (no_note digest path bytes) h in
    elim (has_cases v.notes (set.from_list []) note h') [ inl a ↦ a | inr b ↦ absurd (has_empty note b) ]

pub gains_plus : (digest : List ℕ → List ℕ) (v : View) (path : Path) (bytes : List ℕ) →
    GainsStrings v (plus digest v (item_at path bytes))
gains_plus digest v path bytes =
    record { grows = within_plus digest v (item_at path bytes); same_notes = plus_notes digest v path bytes }

pub gains_exhausted : (digest : List ℕ → List ℕ) (keys : List Key) (v w : View) (path : Path) (bytes : List ℕ) →
    Takes digest keys v (item_at path bytes) Exhausted w → GainsStrings v w
gains_exhausted digest keys v w path bytes (inl e) = gains_same v w e
gains_exhausted digest keys v w path bytes (inr t) =
    record {
      grows =
          t.2.grows;
      same_notes = λ note h. plus_notes digest v path bytes note (t.2.within.notes_are note h);
    }

-- for every answer to a tile or bundle, the view has gained only strings
pub gains_item : (digest : List ℕ → List ℕ) (v w : View) (path : Path) (bytes : List ℕ) (r : Result Bool PullFault) →
    TakesItem digest v (item_at path bytes) r w → GainsStrings v w
gains_item digest v w path bytes (Ok true) t = gains_same v w t.1
gains_item digest v w path bytes (Ok false) t =
    subst (λ (x : View). GainsStrings v x) (sym t.2) (gains_plus digest v path bytes)
gains_item digest v w path bytes (Err Collision) t = gains_same v w t.2
gains_item digest v w path bytes (Err OutOfMemory) t = gains_exhausted digest [] v w path bytes t
gains_item digest v w path bytes (Err NoCheckpoint) t = absurd t
gains_item digest v w path bytes (Err NoEdge) t = absurd t
gains_item digest v w path bytes (Err (Head f)) t = absurd t
gains_item digest v w path bytes (Err Source) t = absurd t

takes_fault : (digest : List ℕ → List ℕ) (v w : View) (path : Path) (bytes : List ℕ) (f : TakeFault) →
    Takes digest [] v (item_at path bytes) (answer_of (Err f)) w →
    TakesItem digest v (item_at path bytes) (refused_of_fault f) w
takes_fault digest v w path bytes (take.Note f) t = t
takes_fault digest v w path bytes (take.Checkpoint f) t = t
takes_fault digest v w path bytes take.OtherOrigin t = t
takes_fault digest v w path bytes take.NoTrustedSignature t = t
takes_fault digest v w path bytes take.EdgeCount t = t
takes_fault digest v w path bytes take.EdgeLength t = t
takes_fault digest v w path bytes take.EdgeMismatch t = t
takes_fault digest v w path bytes take.RowLength t = t
takes_fault digest v w path bytes take.BundleShort t = t
takes_fault digest v w path bytes take.BundleLong t = t
takes_fault digest v w path bytes take.Collision t = t
takes_fault digest v w path bytes take.OutOfMemory t = t

-- the answer of a take is the answer of the pull
pub takes_item : (digest : List ℕ → List ℕ) (v w : View) (path : Path) (bytes : List ℕ)
    (r : Result (Unit {0}) TakeFault) → Takes digest [] v (item_at path bytes) (answer_of r) w →
    TakesItem digest v (item_at path bytes) (refused_of r) w
takes_item digest v w path bytes (Ok x) t = t
takes_item digest v w path bytes (Err f) t = takes_fault digest v w path bytes f t

pub stays_itself : (may : Path → Option (List ℕ) → Type 0) → StaysWithin may may
stays_itself may = record { stays = λ path answer a. a }

pub stays_then : (a b c : Path → Option (List ℕ) → Type 0) → StaysWithin a b → StaysWithin b c → StaysWithin a c
stays_then a b c p q = record { stays = λ path answer h. p.stays path answer (q.stays path answer h) }

-- a fault that may come both before and after the tree head comes from outside
pub outside : (e : PullFault) → EndsBeforeHead {T = Bool} (Err e) → EndsAfterHead {T = Bool} (Err e) → IsOutside e
outside NoCheckpoint early late = absurd early
outside NoEdge early late = absurd late
outside (Head f) early late = absurd early
outside Source early late = inr refl
outside Collision early late = absurd early
outside OutOfMemory early late = inl refl

-- the answer to an item may come after the tree head
pub late_item : (digest : List ℕ → List ℕ) (v w : View) (path : Path) (bytes : List ℕ) (r : Result Bool PullFault) →
    TakesItem digest v (item_at path bytes) r w → EndsAfterHead r
late_item digest v w path bytes (Ok true) t = tt
late_item digest v w path bytes (Ok false) t = tt
late_item digest v w path bytes (Err Collision) t = tt
late_item digest v w path bytes (Err OutOfMemory) t = tt
late_item digest v w path bytes (Err NoCheckpoint) t = absurd t
late_item digest v w path bytes (Err NoEdge) t = absurd t
late_item digest v w path bytes (Err (Head f)) t = absurd t
late_item digest v w path bytes (Err Source) t = absurd t

-- a take blames no source
pub counts_item : (digest : List ℕ → List ℕ) (v w : View) (path : Path) (bytes : List ℕ) (a b : ℕ)
    (r : Result Bool PullFault) → b ≡ a → TakesItem digest v (item_at path bytes) r w → BlamesSource a b r
counts_item digest v w path bytes a b (Ok true) same t = same
counts_item digest v w path bytes a b (Ok false) same t = same
counts_item digest v w path bytes a b (Err Collision) same t = same
counts_item digest v w path bytes a b (Err OutOfMemory) same t = same
counts_item digest v w path bytes a b (Err NoCheckpoint) same t = absurd t
counts_item digest v w path bytes a b (Err NoEdge) same t = absurd t
counts_item digest v w path bytes a b (Err (Head f)) same t = absurd t
counts_item digest v w path bytes a b (Err Source) same t = absurd t

pub counts_err : (a b c : ℕ) (e : PullFault) → b ≡ a → BlamesSource {T = Bool} b c (Err e) → BlamesSource {T = Bool} a c (Err e)
counts_err a b c e same h = subst (λ m. BlamesSource {T = Bool} m c (Err e)) same h

-- ---- tree heads

only : (note n : List ℕ) → Contains (note ∷ []) n → n ≡ note
only note n (k, lt, e) = go k lt e
  where
    go : (k : ℕ) → k < 1 → get_or (note ∷ []) k n ≡ n → n ≡ note
    go zero lt e = sym e
    go (suc k) lt e = absurd (omega arith)

pub head_notes : (digest : List ℕ → List ℕ) (v : View) (note : List ℕ) (rows : List (List ℕ)) (n : List ℕ) →
    Has (plus digest v (item.Head note rows)).notes n → Has v.notes n ⊎ (n ≡ note)
head_notes digest v note rows n h =
    elim (has_cases v.notes (set.from_list (note ∷ [])) n h) [
      | inl a ↦ inl a
      | inr b ↦ inr
          (only note n (listed_from_has (note ∷ []) n b))
    ]

pub grows_itself : (keys : List Key) (v : View) → Grows keys v v
grows_itself keys v =
    record {
      grows =
          within_itself v;
      one_note = λ note other a b fresh. absurd (fresh a);
      good = λ note a fresh. absurd (fresh a);
    }

pub grows_same : (keys : List Key) (v w : View) → w ≡ v → Grows keys v w
grows_same keys v w e = subst (λ (x : View). Grows keys v x) (sym e) (grows_itself keys v)

pub grows_by : (digest : List ℕ → List ℕ) (keys : List Key) (v w : View) (note : List ℕ) (rows : List (List ℕ)) →
    IsGoodHead digest v.origin keys note rows → IsSubview v w →
    ((n : List ℕ) → Has w.notes n → Has v.notes n ⊎ (n ≡ note)) → Grows keys v w
grows_by digest keys v w note rows good within notes = record {
  grows = within;
  one_note =
      λ a b ha hb fa fb. elim
      (notes a ha) [ inl x ↦ absurd (fa x) | inr x ↦ elim (notes b hb) [ inl y ↦ absurd (fb y) | inr y ↦ x ∙ sym y ] ];
  good = λ n h fresh. elim
      (notes n h) [
        | inl x ↦ absurd (fresh x)
        | inr e ↦ (
          good.size,
          good.root,
          subst (λ (m : List ℕ). IsOpenHead m v.origin keys good.size good.root) (sym e) good.is_head,
        )
      ];
}

pub grows_plus : (digest : List ℕ → List ℕ) (keys : List Key) (v : View) (note : List ℕ) (rows : List (List ℕ)) →
    IsGoodHead digest v.origin keys note rows → Grows keys v (plus digest v (item.Head note rows))
grows_plus digest keys v note rows good =
    grows_by digest keys v (plus digest v (item.Head note rows)) note rows good
    (within_plus digest v (item.Head note rows)) (head_notes digest v note rows)

grows_exhausted : (digest : List ℕ → List ℕ) (keys : List Key) (v w : View) (note : List ℕ) (rows : List (List ℕ)) →
    Takes digest keys v (item.Head note rows) Exhausted w → Grows keys v w
grows_exhausted digest keys v w note rows (inl e) = grows_same keys v w e
grows_exhausted digest keys v w note rows (inr t) =
    grows_by digest keys v w note rows t.0 t.2.grows (λ n h. head_notes digest v note rows n (t.2.within.notes_are n h))

pub takes_head_err : (digest : List ℕ → List ℕ) (keys : List Key) (v w : View) (note : List ℕ) (rows : List (List ℕ))
    (f : TakeFault) → Takes digest keys v (item.Head note rows) (answer_of (Err f)) w →
    TakesHead {T = Bool} digest keys v (item.Head note rows) (Err (of_take f)) w
takes_head_err digest keys v w note rows (take.Note f) t = (tt, t.0, t.1)
takes_head_err digest keys v w note rows (take.Checkpoint f) t = (tt, t.0, t.1)
takes_head_err digest keys v w note rows take.OtherOrigin t = (tt, t.0, t.1)
takes_head_err digest keys v w note rows take.NoTrustedSignature t = (tt, t.0, t.1)
takes_head_err digest keys v w note rows take.EdgeCount t = (tt, t.0, t.1)
takes_head_err digest keys v w note rows take.EdgeLength t = (tt, t.0, t.1)
takes_head_err digest keys v w note rows take.EdgeMismatch t = (tt, t.0, t.1)
takes_head_err digest keys v w note rows take.RowLength t = (tt, t.0, t.1)
takes_head_err digest keys v w note rows take.BundleShort t = (tt, t.0, t.1)
takes_head_err digest keys v w note rows take.BundleLong t = (tt, t.0, t.1)
takes_head_err digest keys v w note rows take.Collision t = t
takes_head_err digest keys v w note rows take.OutOfMemory t = t

-- a pull gained a note, and then strings
pub grows_then : (keys : List Key) (v w x : View) → Grows keys v w → GainsStrings w x → Grows keys v x
grows_then keys v w x p q = record {
  grows = within_trans v w x p.grows q.grows;
  one_note = λ a b ha hb fa fb. p.one_note a b (q.same_notes a ha) (q.same_notes b hb) fa fb;
  good = λ n h fresh. p.good n (q.same_notes n h) fresh;
}

-- ---- missing paths

of_size_takeable : (size : ℕ) (path : Path) → IsOfSize size path → IsTakeable path
of_size_takeable size Checkpoint h = h
of_size_takeable size (Tile level index width) h = record { some = omega (arith, h.2); most = omega (arith, h.2) }
of_size_takeable size (Entries index width) h = record { some = h.0; most = omega (arith, h.1) }

pub missing_takeable : (digest : List ℕ → List ℕ) (v : View) (size : ℕ) (root : List ℕ) (paths : List Path) →
    MissingIsOfSize → size ≤ 256 ^ 8 → ListsMissing digest v size root paths → (k : ℕ) → k < length paths →
    IsTakeable (get_or paths k Checkpoint)
missing_takeable digest v size root paths law small m k lt =
    let p = get_or paths k Checkpoint in
    let c : Contains paths p = (k, lt, get_or_default paths k p Checkpoint lt) in
    of_size_takeable size p (law digest v.strings size root small p ((m.exact p).0 c))

-- ---- outcomes of a pull

pub outcome_head : (digest : List ℕ → List ℕ) (keys : List Key) (v w : View) (note : List ℕ) (rows : List (List ℕ))
    (e : PullFault) → TakesHead {T = Bool} digest keys v (item.Head note rows) (Err e) w →
    PullsTo digest keys v w (Err e)
outcome_head digest keys v w note rows NoCheckpoint t = absurd t
outcome_head digest keys v w note rows NoEdge t = absurd t
outcome_head digest keys v w note rows (Head f) t = (t.0, t.2)
outcome_head digest keys v w note rows Source t = absurd t
outcome_head digest keys v w note rows Collision t = grows_same keys v w t.2
outcome_head digest keys v w note rows OutOfMemory t = grows_exhausted digest keys v w note rows t

pub outcome_early : (digest : List ℕ → List ℕ) (keys : List Key) (v : View) (e : PullFault) →
    EndsBeforeHead {T = Bool} (Err e) → PullsTo digest keys v v (Err e)
outcome_early digest keys v NoCheckpoint early = absurd early
outcome_early digest keys v NoEdge early = refl
outcome_early digest keys v (Head f) early = absurd early
outcome_early digest keys v Source early = grows_itself keys v
outcome_early digest keys v Collision early = absurd early
outcome_early digest keys v OutOfMemory early = grows_itself keys v

pub outcome_late : (digest : List ℕ → List ℕ) (keys : List Key) (v w : View) (e : PullFault) →
    EndsAfterHead {T = Bool} (Err e) → Grows keys v w → PullsTo digest keys v w (Err e)
outcome_late digest keys v w NoCheckpoint late grows = absurd late
outcome_late digest keys v w NoEdge late grows = absurd late
outcome_late digest keys v w (Head f) late grows = absurd late
outcome_late digest keys v w Source late grows = grows
outcome_late digest keys v w Collision late grows = grows
outcome_late digest keys v w OutOfMemory late grows = grows

pub grows_head : (digest : List ℕ → List ℕ) (keys : List Key) (v w : View) (note : List ℕ) (rows : List (List ℕ)) →
    TakesHead {T = Bool} digest keys v (item.Head note rows) (Ok true) w → Grows keys v w
grows_head digest keys v w note rows t =
    subst (λ (x : View). Grows keys v x) (sym t.2) (grows_plus digest keys v note rows t.0)

pub has_head : (digest : List ℕ → List ℕ) (keys : List Key) (v w x : View) (taken note : List ℕ) (rows : List (List ℕ))
    (size : ℕ) (root : List ℕ) → taken ≡ note → w ≡ plus digest v (item.Head taken rows) →
    IsOpenHead note v.origin keys size root → IsSubview w x → HasHead x size root
has_head digest keys v w x taken note rows size root same is opened within =
    let held : Has (plus digest v (item.Head taken rows)).notes taken =
    has_right v.notes (set.from_list (taken ∷ [])) taken
    (has_from_listed (taken ∷ []) taken (0, omega arith, refl)) in
    let held_w : Has w.notes taken = subst (λ (y : View). Has y.notes taken) (sym is) held in
    let origin : v.origin ≡ x.origin = ap (λ (y : View). y.origin) (sym is) ∙ within.origin_is in
    record {
      note = note;
      holds = record {
        is_held = subst (λ n. Has x.notes n) same (within.notes_are taken held_w);
        is_head = subst (λ o. IsHead note o size root) origin (head_of note v.origin keys size root opened);
      };
    }
