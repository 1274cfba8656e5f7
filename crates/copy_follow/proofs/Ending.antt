-- The faults of turns, and of a whole call.
use Rattle.std.proofs.Common.{◌≡◌, ◌≢◌, ◌⊎◌, inl, inr, ℕ, ◌+◌, ◌<◌, ◌≤◌, List, [], ◌∷◌, ◌++◌, length, get_or, take, Option, Some, None, IfErr, IfOk, OnOk, Result, Ok, Err, ap, refl, sym, subst, ◌∙◌, arith, length-take}
use Rattle.std.specs.Prelude.{⊤}
use Rattle.std.specs.List.Sorted.{IsSorted}
use Rattle.std.proofs.lemmas.List.{take_all, take_more}
use Rattle.tlog_tiles.specs.declared.paths.Path.{Path}
use Rattle.tlog_tiles.specs.declared.paths.Path.TheVariants.{Checkpoint}
use Rattle.signed_note.specs.Keys.{Key}
use Rattle.mirror_model.specs.Heads.{IsHead}
use Rattle.mirror_model.proofs.HeadNotes.{head_once}
use Rattle.mirror_folders.specs.Shelf.{Put, RecordsRead}
use Rattle.copy_places.specs.declared.places.Places.{Places}
use Rattle.copy_follow.proofs.Compared.{none_other}
use Rattle.copy_follow.proofs.PrunedFiles.{copies_are_pruned}
use Rattle.copy_follow.proofs.TipReads.{stands_has, stands_one}
use Rattle.copy_follow.specs.Conflicts.{HasConflict, IsConflict, WithCopy, WithEmpty}
use Rattle.copy_follow.specs.Pruned.{IsPrunedCopy}
use Rattle.copy_follow.specs.AskedForCopy.{BlamesFailed, IsInUse, RefusesNote}
use Rattle.copy_follow.specs.Damaged.{IsDamaged}
use Rattle.copy_follow.specs.Faults.{IsOtherFound}
use Rattle.copy_follow.specs.declared.bring_fault.BringFault.{BringFault}
use Rattle.copy_follow.specs.declared.bring_fault.BringFault.TheVariants as bring
use Rattle.copy_places.specs.Gathering.{option_or}
use Rattle.copy_places.specs.Requests.{AsksAny, PlaceFails}
use Rattle.copy_places.specs.Candidates.{note_of, turn_cmp}
use Rattle.copy_places.specs.GatheredFrom.{AreCandidates, GiveNoneFor, LacksCandidates, RefusesGiven}
use Rattle.copy_places.specs.declared.candidate.Candidate.{Candidate}
use Rattle.copy_places.specs.declared.candidate_fault.CandidateFault.{CandidateFault}
use Rattle.copy_places.specs.declared.candidate_fault.CandidateFault.TheVariants as none
use Rattle.copy_places.proofs.Requests.{fails_later, fails_then}
use Rattle.copy_follow.specs.Blame.{CountsFollow, CountsFollowFault, of_candidates}
use Rattle.copy_follow.specs.Ending.{BlamesPlace, EndsAt, EndsFor, EndsOnce, EndsRun, HadNone, HasFalseRoot, IsFaultOf, IsFirstFault, IsOfConflict, IsOfEmpty, IsOfOtherRun, KeepsFault, NoPlaceFails, fault_after, or_fault}
use Rattle.copy_follow.specs.Rule.{HasOneRoot}
use Rattle.copy_follow.specs.Turning.{ShowsTurn}
use Rattle.copy_follow.specs.RunStanding.{HasStanding, HoldsNoCopy, HoldsNoSmaller, IsCopyNow, IsCopyOfRun, IsFoundCopy, IsHeadOf, KnowsAfter, RecordsNone}
use Rattle.copy_follow.specs.TurnsTaken.{HasTakenRun, IsGrown, SaysTurn}
use Rattle.copy_follow.specs.declared.follow_fault.FollowFault.{FollowFault}
use Rattle.copy_follow.specs.declared.follow_fault.FollowFault.TheVariants as fault
use Rattle.copy_follow.specs.declared.run.Run.{Run}
use Rattle.copy_follow.specs.declared.run.Outcome.{Outcome}
use Rattle.copy_follow.specs.declared.run.Outcome.TheVariants as turn
use Rattle.copy_follow.proofs.Blame.{fails_brought, spares_brought}
use Rattle.copy_follow.proofs.Standing.{standing_as, standing_none}
use Rattle.copy_follow.proofs.TurnOrder.{element}

-- ---- the first fault of a run

not_now : (candidate : Candidate) (copy : Option Candidate) → IsCopyNow candidate copy → copy ≢ None
not_now candidate copy n e = cc (n.is, e)

-- if the first fault becomes Source, the turn ended by Source
or_source : (first : Option FollowFault) (f : FollowFault) → or_fault first f ≡ Some fault.Source →
    (first ≡ Some fault.Source) ⊎ (f ≡ fault.Source)
or_source None f e = inr (cc e)
or_source (Some g) f e = inl e

source_after : (first : Option FollowFault) (t : Outcome) → fault_after first t ≡ Some fault.Source →
    (first ≡ Some fault.Source) ⊎ (t ≡ turn.NotHad fault.Source)
source_after first turn.Agrees e = inl e
source_after first turn.Brought e = inl e
source_after first (turn.Forks proof) e = inl e
source_after first turn.Contradicts e = elim (or_source first fault.Contradiction e) [
  | inl before ↦ inl before
  | inr now ↦ absurd (cc now)
]
source_after first (turn.NotHad f) e = elim (or_source first f e) [
  | inl before ↦ inl before
  | inr now ↦ inr (ap turn.NotHad now)
]

pub source_blames : {S : Type 0} (x y : Places S) (run next : Run) (t : Outcome) →
    next.first_fault ≡ fault_after run.first_fault t → (t ≡ turn.NotHad fault.Source → PlaceFails x y) →
    BlamesPlace x y run.first_fault next.first_fault
source_blames x y run next t is fails e = elim (source_after run.first_fault t (sym is ∙ e)) [
  | inl before ↦ inl before
  | inr now ↦ inr (fails now)
]

-- a turn whose outcome is not a missing candidate with Source
pub none_fails : {S E : Type 0} (x y : Places S) (r : Result Outcome E) → IfOk r (λ t. t ≢ turn.NotHad fault.Source) →
    IfOk r (λ t. t ≡ turn.NotHad fault.Source → PlaceFails x y)
none_fails x y (Ok t) h = λ e. absurd (h e)
none_fails x y (Err e) h = tt

-- a turn after a call of bring_copy that ended by a fault
pub turned_fails : {S E : Type 0} (may : S → Path → Option (List ℕ) → Type 0) (failed : S → ℕ)
    (asked : S → Option (List Path)) (x y : Places S) (e : BringFault) (r : Result Outcome E) →
    AsksAny may failed asked x y → BlamesFailed may failed asked x y e →
    IfOk r (λ t. t ≡ turn.NotHad fault.Source → e ≡ bring.Source) →
    IfOk r (λ t. t ≡ turn.NotHad fault.Source → PlaceFails x y)
turned_fails may failed asked x y e (Ok t) asks blames h = λ is. fails_brought may failed asked x y e asks (h is) blames
turned_fails may failed asked x y e (Err f) asks blames h = tt

-- the same of NoFile: then no place failed
pub turned_spares : {S E : Type 0} (may : S → Path → Option (List ℕ) → Type 0) (failed : S → ℕ)
    (asked : S → Option (List Path)) (x y : Places S) (e : BringFault) (r : Result Outcome E) →
    BlamesFailed may failed asked x y e → IfOk r (λ t. t ≡ turn.NotHad fault.NoFile → e ≡ bring.NoFile) →
    IfOk r (λ t. t ≡ turn.NotHad fault.NoFile → NoPlaceFails x y)
turned_spares may failed asked x y e (Ok t) blames h = λ is. spares_brought may failed asked x y e (h is) blames
turned_spares may failed asked x y e (Err f) blames h = tt

-- turn after turn
pub fails_now : {S : Type 0} (may : S → Path → Option (List ℕ) → Type 0) (failed : S → ℕ) (asked : S → Option (List Path))
    (x y z : Places S) (first last : Option FollowFault) → AsksAny may failed asked x y → AsksAny may failed asked y z →
    (first ≡ Some fault.Source → PlaceFails x y) → BlamesPlace y z first last → last ≡ Some fault.Source → PlaceFails x z
fails_now may failed asked x y z first last p q before now e = elim (now e) [
  | inl is ↦ fails_then may failed asked x y z (before is) q
  | inr fails ↦ fails_later may failed asked x y z p q fails
]

-- ---- the fault of the first candidate

module _ (digest : List ℕ → List ℕ) where
  -- the fault of a candidate is kept if it is the first fault
  or_kept : (done : List Candidate) (c : Candidate) (first : Option FollowFault) (f : FollowFault) →
      IsFaultOf digest c f → IsFirstFault digest done first → IsFirstFault digest (done ++ c ∷ []) (or_fault first f)
  or_kept [] c None f is h = is
  or_kept [] c (Some g) f is h = absurd (cc h)
  or_kept (x ∷ xs) c None f is h = absurd h
  or_kept (x ∷ xs) c (Some g) f is h = h

  kept_by : (done : List Candidate) (c : Candidate) (first last : Option FollowFault) (f : FollowFault) →
      last ≡ or_fault first f → IsFaultOf digest c f → IsFirstFault digest done first →
      IsFirstFault digest (done ++ c ∷ []) last
  kept_by done c first last f e is h = subst (IsFirstFault digest (done ++ c ∷ [])) (sym e) (or_kept done c first f is h)

  -- after the turn of a candidate
  pub keeps_fault : (done : List Candidate) (c : Candidate) (run next : Run) (t : Outcome) →
      (run.copy ≡ None → IsOfEmpty digest c t) → KnowsAfter c t run.copy next.copy →
      next.first_fault ≡ fault_after run.first_fault t → KeepsFault digest done run →
      KeepsFault digest (done ++ c ∷ []) next
  keeps_fault done c run next turn.Agrees empty knows is h none = absurd (empty (sym knows ∙ none))
  keeps_fault done c run next turn.Brought empty knows is h none = absurd (not_now c next.copy knows none)
  keeps_fault done c run next (turn.Forks proof) empty knows is h none = absurd (empty (sym knows ∙ none))
  keeps_fault done c run next turn.Contradicts empty knows is h none =
      kept_by done c run.first_fault next.first_fault fault.Contradiction is (empty (sym knows ∙ none))
      (h (sym knows ∙ none))
  keeps_fault done c run next (turn.NotHad f) empty knows is h none =
      kept_by done c run.first_fault next.first_fault f is (empty (sym knows ∙ none)) (h (sym knows ∙ none))

  -- a candidate without a turn, since it repeats another
  first_again : (done : List Candidate) (c : Candidate) (first : Option FollowFault) → 0 < length done →
      IsFirstFault digest done first → IsFirstFault digest (done ++ c ∷ []) first
  first_again [] c first some h = absurd (omega (arith, some))
  first_again (x ∷ xs) c None some h = h
  first_again (x ∷ xs) c (Some g) some h = h

  pub keeps_again : (cs : List Candidate) (i : ℕ) → 0 < i → i < length cs → (run : Run) →
      KeepsFault digest (take i cs) run → KeepsFault digest (take (i + 1) cs) run
  keeps_again cs i some lt run h none =
      let x = element cs i lt in
      let n = length-take i cs in
      subst (λ l. IsFirstFault digest l run.first_fault)
      (sym (take_more cs i x.0 lt ∙ ap (λ (y : Candidate). take i cs ++ y ∷ []) (sym x.1)))
      (first_again (take i cs) x.0 run.first_fault (omega (arith, n, some, lt)) (h none))

  pub keeps_at : {T E : Type 0} (r : Result T E) (cs : List Candidate) (i : ℕ) (x : Candidate) → i < length cs →
      x ≡ get_or cs i x → (run next : Run) →
      OnOk r ((done : List Candidate) → KeepsFault digest done run → KeepsFault digest (done ++ x ∷ []) next) →
      OnOk r (KeepsFault digest (take i cs) run → KeepsFault digest (take (i + 1) cs) next)
  keeps_at (Ok t) cs i x lt is run next h = λ before.
      subst (λ l. KeepsFault digest l next)
      (sym (take_more cs i x lt ∙ ap (λ (y : Candidate). take i cs ++ y ∷ []) (sym is))) (h (take i cs) before)
  keeps_at (Err e) cs i x lt is run next h = tt

  pub keeps_all : (cs : List Candidate) (i : ℕ) (run : Run) → length cs ≤ i → KeepsFault digest (take i cs) run →
      KeepsFault digest cs run
  keeps_all cs i run le h = subst (λ l. KeepsFault digest l run) (take_all i cs le) h

  -- the facts after the turn of a candidate, if the copy is empty
  pub empty_says : {E : Type 0} (r : Result Outcome E) (c : Candidate) → IfOk r (IsOfEmpty digest c) →
      IfOk r (SaysTurn digest None c)
  empty_says (Err e) c h = tt
  empty_says (Ok turn.Agrees) c h = absurd h
  empty_says (Ok turn.Brought) c h = tt
  empty_says (Ok (turn.Forks proof)) c h = absurd h
  empty_says (Ok turn.Contradicts) c h = tt
  empty_says (Ok (turn.NotHad f)) c h = tt

  pub empty_shows : {E : Type 0} (r : Result Outcome E) (c : Candidate) → IfOk r (IsOfEmpty digest c) →
      IfOk r (ShowsTurn digest None c)
  empty_shows (Err e) c h = tt
  empty_shows (Ok turn.Agrees) c h = tt
  empty_shows (Ok turn.Brought) c h = tt
  empty_shows (Ok (turn.Forks proof)) c h = tt
  empty_shows (Ok turn.Contradicts) c h = tt
  empty_shows (Ok (turn.NotHad f)) c h = tt

-- ---- faults that end a run

-- a call that ends by CopyDamaged states that its shelf has no copy
pub brought_damaged : (digest : List ℕ → List ℕ) (origin : List ℕ) (x : Option (List Put)) (e : BringFault) →
    (e ≡ bring.CopyDamaged → IsDamaged digest origin x) → e ≡ bring.CopyDamaged → HoldsNoCopy digest origin x
brought_damaged digest origin x e damaged is =
    let d = damaged is in
    record { no_copy = d.no_copy; no_pruned = d.no_pruned; not_none = λ r. d.not_none r.held r.is r.none }

-- the facts at such a fault, replaced by their consequences
pub ends_so : (A B C D : Type 0) (e : FollowFault) → (A → C) → (B → D) → EndsRun A B e → EndsRun C D e
ends_so A B C D fault.NoCheckpoint f g is = is
ends_so A B C D (fault.Head h) f g is = is
ends_so A B C D fault.CopyDamaged f g is = f is
ends_so A B C D fault.CopyInUse f g is = g is
ends_so A B C D fault.ShelfFault f g is = tt
ends_so A B C D fault.Contradiction f g is = is
ends_so A B C D fault.Collision f g is = is
ends_so A B C D fault.NoFile f g is = is
ends_so A B C D fault.Source f g is = is
ends_so A B C D fault.OutOfMemory f g is = tt

pub ends_if : {T : Type 0} (r : Result T FollowFault) (A B C D : Type 0) → (A → C) → (B → D) → IfErr r (EndsRun A B) →
    IfErr r (EndsRun C D)
ends_if (Ok t) A B C D f g is = tt
ends_if (Err e) A B C D f g is = ends_so A B C D e f g is

module _ (digest : List ℕ → List ℕ) (origin : List ℕ) where
  -- a call for a candidate ended since the copy is not the one that was read: then the shelf had no smaller copy, or another
  -- checkpoint was read there
  pub no_smaller : (note : List ℕ) (n : ℕ) (root : List ℕ) (found : Option (List ℕ)) (x : Option (List Put))
      (e : BringFault) → IsHead note origin n root → RefusesNote digest origin note x e →
      (e ≡ bring.CopyInUse → IsInUse digest origin x ⊎ IsOtherFound found x) → IsOfOtherRun e →
      HoldsNoSmaller digest origin n x ⊎ IsOtherFound found x
  no_smaller note n root found x bring.BadCheckpoint head refuses in_use other = absurd (refuses n root head)
  no_smaller note n root found x bring.NotLarger head r in_use other = inl (record {
    no_smaller = λ held is old_note entries copy.
        let size : n ≡ r.size = (head_once note origin origin n r.size root r.root head r.is_head).size_is in
        let had : r.had ≡ length entries = r.had_is.pruned held is old_note entries copy in
        let upto : r.size ≤ r.had = r.upto in omega (arith, size, had, upto);
    not_none = λ o. r.not_none o.held o.is o.none;
  })
  no_smaller note n root found x bring.CopyInUse head refuses in_use other = elim (in_use refl) [
    | inl used ↦ inl (record {
      no_smaller = λ held is old_note entries copy. absurd (used.no_pruned held is old_note entries copy);
      not_none = λ o. used.not_none o.held o.is o.none;
    })
    | inr o ↦ inr o
  ]
  no_smaller note n root found x bring.CopyDamaged head refuses in_use other = absurd other
  no_smaller note n root found x bring.Contradiction head refuses in_use other = absurd other
  no_smaller note n root found x bring.Collision head refuses in_use other = absurd other
  no_smaller note n root found x bring.NoFile head refuses in_use other = absurd other
  no_smaller note n root found x bring.Source head refuses in_use other = absurd other
  no_smaller note n root found x bring.ShelfFault head refuses in_use other = absurd other
  no_smaller note n root found x bring.OutOfMemory head refuses in_use other = absurd other

  -- so the shelf does not have the copy of the run, if that is smaller
  pub none_stands : (copy : Candidate) (n : ℕ) (x : Option (List Put)) → copy.size.0 < n →
      HoldsNoSmaller digest origin n x → HasStanding digest origin (Some copy) x → ⊥
  none_stands copy n x lt h s =
      let le : n ≤ length (s.entries ++ s.under.more) =
      h.no_smaller s.held s.puts_are (note_of copy) (s.entries ++ s.under.more) s.under.copy in
      let size : copy.size.0 ≡ length (s.entries ++ s.under.more) = s.under.size_is in omega (arith, le, size, lt)

  -- nor if the shelf has no copy
  pub none_at_all : (copy : Candidate) (x : Option (List Put)) → HoldsNoCopy digest origin x →
      HasStanding digest origin (Some copy) x → ⊥
  none_at_all copy x h s = h.no_pruned s.held s.puts_are (note_of copy) (s.entries ++ s.under.more) s.under.copy

  -- nor if another checkpoint was read
  pub none_found : (copy : Candidate) (x : Option (List Put)) → IsOtherFound (Some (note_of copy)) x →
      HasStanding digest origin (Some copy) x → ⊥
  none_found copy x o s =
      found o.now (subst (λ p. RecordsRead p Checkpoint o.now) s.puts_are o.now_is) o.other
    where
      found : (now : Option (List ℕ)) → RecordsRead (Some s.held) Checkpoint now → now ≢ Some (note_of copy) → ⊥
      found None none other = none (stands_has s.held Checkpoint (note_of copy) s.under.copy.note_stands)
      found (Some bytes) there other =
          other (ap Some (stands_one s.held Checkpoint bytes (note_of copy) there s.under.copy.note_stands))

  -- the checkpoint of the copy of the run, or of an empty one, is read on the shelf
  pub standing_read : (copy : Candidate) (x : Option (List Put)) → HasStanding digest origin (Some copy) x →
      RecordsRead x Checkpoint (Some (note_of copy))
  standing_read copy x s =
      subst (λ p. RecordsRead p Checkpoint (Some (note_of copy))) (sym s.puts_are) s.under.copy.note_stands

  pub empty_read : (x : Option (List Put)) → HasStanding digest origin None x → RecordsRead x Checkpoint None
  empty_read x r = subst (λ p. RecordsRead p Checkpoint None) (sym r.is) r.none

  -- so a call over it does not end since another checkpoint was read
  pub none_larger : (copy : Candidate) (n : ℕ) (found : Option (List ℕ)) (x : Option (List Put)) → copy.size.0 < n →
      found ≡ Some (note_of copy) → HoldsNoSmaller digest origin n x ⊎ IsOtherFound found x →
      HasStanding digest origin (Some copy) x → ⊥
  none_larger copy n found x lt is (inl h) s = none_stands copy n x lt h s
  none_larger copy n found x lt is (inr o) s = none_found copy x (subst (λ f. IsOtherFound f x) is o) s

  pub none_empty : (n : ℕ) (x : Option (List Put)) → HoldsNoSmaller digest origin n x ⊎ IsOtherFound None x →
      HasStanding digest origin None x → ⊥
  none_empty n x (inl h) r = h.not_none r
  none_empty n x (inr o) r = none_other r.held x None r.is (empty_read x r) o

  -- if the shelf does not have the copy of a run, it had no copy at first
  pub none_first : (first x : Option (List Put)) (copy : Option Candidate) → (HasStanding digest origin copy x → ⊥) →
      IsCopyOfRun digest origin first x copy → HoldsNoCopy digest origin first
  none_first first x copy lost known = record {
    no_copy = λ held is note entries whole.
        replaced held is note entries (copies_are_pruned digest origin note entries held whole);
    no_pruned = replaced;
    not_none = λ r. lost (standing_none digest origin copy x (known.none r.held r.is r.none));
  }
    where
      replaced : (held : List Put) → first ≡ Some held → (note : List ℕ) (entries : List (List ℕ)) →
          IsPrunedCopy digest origin note entries held → ⊥
      replaced held is note entries stood =
          lost (standing_as digest origin copy entries x (known.pruned held is note entries stood))

  -- ---- the first turn over an empty copy

  conflict_none : (c : Candidate) (x : Option (List Put)) → IsHeadOf origin c → (HasFalseRoot digest c → ⊥) →
      HasConflict digest origin (note_of c) x → RecordsNone x → ⊥
  conflict_none c x head true (WithCopy found read) r =
      r.none (stands_has r.held Checkpoint found (subst (λ o. RecordsRead o Checkpoint (Some found)) r.is read))
  conflict_none c x head true (WithEmpty size root head' empty) r =
      let once = head_once (note_of c) origin origin c.size.0 size c.root root head head' in
      true (once.size_is ∙ empty.0, λ e. empty.1 (sym once.root_is ∙ e))

  -- no conflict comes with an empty copy
  pub first_ends : (c : Candidate) (x : Option (List Put)) (r : Result Outcome FollowFault) (t : Outcome) →
      IsHeadOf origin c → (HasFalseRoot digest c → ⊥) → (IsOfConflict t → HasConflict digest origin (note_of c) x) →
      IfErr r (λ e. (e ≡ fault.CopyInUse) × IsOfConflict t) → IfErr r (EndsAt (HasStanding digest origin None x → ⊥))
  first_ends c x (Ok u) t head true cause h = tt
  first_ends c x (Err e) t head true cause h =
      subst (EndsAt (HasStanding digest origin None x → ⊥)) (sym h.0) (conflict_none c x head true (cause h.1))

  pub turned_conflict : {E : Type 0} (note : List ℕ) (x : Option (List Put)) (e : BringFault) (r : Result Outcome E) →
      (IsConflict e → HasConflict digest origin note x) → IfOk r (λ t. IsOfConflict t → IsConflict e) →
      IfOk r (λ t. IsOfConflict t → HasConflict digest origin note x)
  turned_conflict note x e (Ok t) cause h = λ is. cause (h is)
  turned_conflict note x e (Err f) cause h = tt

-- ---- faults of a report

-- a report ends with the fault of the first candidate, or by OutOfMemory
abbrev pub Reported : List Candidate → Run → FollowFault → Type 0
Reported cs run e =
    (e ≡ fault.OutOfMemory)
    ⊎ ((run.copy ≡ None) × HasOneRoot cs × (e ≡ option_or run.first_fault fault.NoCheckpoint))

-- the fault of the first candidate
pub first_fault_of : (digest : List ℕ → List ℕ) (c : Candidate) (cs : List Candidate) (first : Option FollowFault)
    (e : FollowFault) → IsFirstFault digest (c ∷ cs) first → e ≡ option_or first fault.NoCheckpoint → IsFaultOf digest c e
first_fault_of digest c cs None e h is = absurd h
first_fault_of digest c cs (Some f) e h is = subst (IsFaultOf digest c) (sym is) h

first_is_source : (first : Option FollowFault) → option_or first fault.NoCheckpoint ≡ fault.Source → first ≡ Some fault.Source
first_is_source None e = absurd (cc e)
first_is_source (Some f) e = ap Some e

fault_counts : (digest : List ℕ → List ℕ) (c : Candidate) (n : ℕ) (e : FollowFault) → IsFaultOf digest c e →
    CountsFollowFault n n e
fault_counts digest c n fault.NoCheckpoint is = refl
fault_counts digest c n (fault.Head f) is = refl
fault_counts digest c n fault.CopyDamaged is = refl
fault_counts digest c n fault.CopyInUse is = refl
fault_counts digest c n fault.ShelfFault is = absurd is
fault_counts digest c n fault.Contradiction is = refl
fault_counts digest c n fault.Collision is = refl
fault_counts digest c n fault.NoFile is = refl
fault_counts digest c n fault.Source is = refl
fault_counts digest c n fault.OutOfMemory is = refl

pub report_counts : (digest : List ℕ → List ℕ) (n m : ℕ) (cs : List Candidate) (run : Run) {T : Type 0}
    (r : Result T FollowFault) → m ≡ n → 0 < length cs → KeepsFault digest cs run → IfErr r (Reported cs run) →
    CountsFollow n m r
report_counts digest n m cs run (Ok x) same some keeps h = same
report_counts digest n m cs run (Err e) same some keeps (inl memory) =
    subst (λ k. CountsFollowFault n k e) (sym same) (subst (λ f. CountsFollowFault n n f) (sym memory) refl)
report_counts digest n m [] run (Err e) same some keeps (inr first) = absurd (omega (arith, some))
report_counts digest n m (c ∷ cs) run (Err e) same some keeps (inr first) =
    subst (λ k. CountsFollowFault n k e) (sym same)
    (fault_counts digest c n e (first_fault_of digest c cs run.first_fault e (keeps first.0) first.2))

module _ (digest : List ℕ → List ℕ) {S : Type 0} (may : S → Path → Option (List ℕ) → Type 0) (origin : List ℕ)
    (keys : List Key) (puts : Option (List Put)) (x y : Places S) where
  abbrev Ends : Option (List ℕ) → FollowFault → Type 0
  Ends given e = EndsFor digest may origin keys puts x y given e

  pub ends_run : (given : Option (List ℕ)) (e : FollowFault) → EndsAt (HoldsNoCopy digest origin puts) e → Ends given e
  ends_run given fault.NoCheckpoint is = absurd is
  ends_run given (fault.Head f) is = absurd is
  ends_run None fault.CopyDamaged is = is
  ends_run (Some note) fault.CopyDamaged is = is
  ends_run None fault.CopyInUse is = is
  ends_run (Some note) fault.CopyInUse is = is
  ends_run None fault.ShelfFault is = tt
  ends_run (Some note) fault.ShelfFault is = tt
  ends_run given fault.Contradiction is = absurd is
  ends_run given fault.Collision is = absurd is
  ends_run given fault.NoFile is = absurd is
  ends_run given fault.Source is = absurd is
  ends_run None fault.OutOfMemory is = tt
  ends_run (Some note) fault.OutOfMemory is = tt

  -- there are no candidates
  none_given : (e : CandidateFault) → GiveNoneFor may origin keys x y e → Ends None (of_candidates e)
  none_given none.NoCheckpoint h = h
  none_given (none.Head f) h = h
  none_given none.Source h = (h.0, inl h.1)
  none_given none.OutOfMemory h = tt

  one_given : (note : List ℕ) (e : CandidateFault) → RefusesGiven origin keys note e → Ends (Some note) (of_candidates e)
  one_given note none.NoCheckpoint h = h
  one_given note (none.Head f) h = h
  one_given note none.Source h = absurd h
  one_given note none.OutOfMemory h = tt

  pub ends_lacking : (given : Option (List ℕ)) (e : CandidateFault) → LacksCandidates may origin keys x y given e →
      Ends given (of_candidates e)
  ends_lacking None e h = none_given e h
  ends_lacking (Some note) e h = one_given note e h

  -- the copy was brought to no candidate
  module _ (given : Option (List ℕ)) (c : Candidate) (cs : List Candidate)
      (gathered : AreCandidates may origin keys x y given (c ∷ cs)) (rising : IsSorted turn_cmp (c ∷ cs))
      (empty : RecordsRead puts Checkpoint None) (one : HasOneRoot (c ∷ cs)) where
    none_had : (so : Candidate → Type 0) → so c → HadNone digest may origin keys puts x y given so
    none_had so is = record {
      first = c;
      others = cs;
      gathered = gathered;
      rising = rising;
      one_root = one;
      is_so = is;
      empty = empty;
    }

    ends_source : (g : Option (List ℕ)) → HadNone digest may origin keys puts x y g (λ first. ⊤) → PlaceFails x y →
        Ends g fault.Source
    ends_source None had fails = (fails, inr had)
    ends_source (Some note) had fails = (fails, had)

    ends_first : (e : FollowFault) → IsFaultOf digest c e → (e ≡ fault.Source → PlaceFails x y) → Ends given e
    ends_first fault.NoCheckpoint is fails = absurd is
    ends_first (fault.Head f) is fails = absurd is
    ends_first fault.CopyDamaged is fails = absurd is
    ends_first fault.CopyInUse is fails = absurd is
    ends_first fault.ShelfFault is fails = absurd is
    ends_first fault.Contradiction is fails = contradicts given (none_had (HasFalseRoot digest) is)
      where
        contradicts : (g : Option (List ℕ)) → HadNone digest may origin keys puts x y g (HasFalseRoot digest) →
            Ends g fault.Contradiction
        contradicts None had = had
        contradicts (Some note) had = had
    ends_first fault.Collision is fails = absurd is
    ends_first fault.NoFile is fails = lacks given (none_had (λ first. ⊤) tt)
      where
        lacks : (g : Option (List ℕ)) → HadNone digest may origin keys puts x y g (λ first. ⊤) → Ends g fault.NoFile
        lacks None had = had
        lacks (Some note) had = had
    ends_first fault.Source is fails = ends_source given (none_had (λ first. ⊤) tt) (fails refl)
    ends_first fault.OutOfMemory is fails = absurd is

  -- the report of a run ends with a fault
  pub ends_report : (given : Option (List ℕ)) (cs : List Candidate) (run : Run) {T : Type 0} (r : Result T FollowFault) →
      0 < length cs → AreCandidates may origin keys x y given cs → IsSorted turn_cmp cs →
      (run.copy ≡ None → RecordsRead puts Checkpoint None) → KeepsFault digest cs run →
      (run.first_fault ≡ Some fault.Source → PlaceFails x y) → IfErr r (Reported cs run) → IfErr r (Ends given)
  ends_report given cs run (Ok x) some gathered rising empty keeps fails h = tt
  ends_report given cs run (Err e) some gathered rising empty keeps fails (inl memory) =
      subst (Ends given) (sym memory) (ends_run given fault.OutOfMemory tt)
  ends_report given [] run (Err e) some gathered rising empty keeps fails (inr first) = absurd (omega (arith, some))
  ends_report given (c ∷ cs) run (Err e) some gathered rising empty keeps fails (inr first) =
      ends_first given c cs gathered rising (empty first.0) first.1 e
      (first_fault_of digest c cs run.first_fault e (keeps first.0) first.2)
      (λ is. fails (first_is_source run.first_fault (sym first.2 ∙ is)))

-- the copy was empty at the start if it is empty at the end of the run
pub was_empty : (digest : List ℕ → List ℕ) (origin : List ℕ) (x : Option (List Put)) (first : Option Candidate)
    (cs : List Candidate) (run : Run) → HasTakenRun digest first cs run → IsFoundCopy origin x first → run.copy ≡ None →
    RecordsRead x Checkpoint None
was_empty digest origin x first cs run h found none =
    none_found_first first (subst (λ o. IsGrown first o) none h.taken.grown) found
  where
    none_found_first : (first : Option Candidate) → IsGrown first None → IsFoundCopy origin x first → RecordsRead x Checkpoint None
    none_found_first None grown found = found
    none_found_first (Some f) grown found = absurd grown

-- at a fault without candidates, the shelf did not fail
pub none_counts : (a b : ℕ) (e : CandidateFault) → b ≡ a → CountsFollowFault a b (of_candidates e)
none_counts a b none.NoCheckpoint h = h
none_counts a b (none.Head f) h = h
none_counts a b none.Source h = h
none_counts a b none.OutOfMemory h = h

-- ---- places that give no candidate

module _ (once empty : Type 0) where
  pub once_run : (damaged in_use : Type 0) (e : FollowFault) → EndsRun damaged in_use e → EndsOnce once empty e
  once_run damaged in_use fault.NoCheckpoint is = absurd is
  once_run damaged in_use (fault.Head f) is = absurd is
  once_run damaged in_use fault.CopyDamaged is = tt
  once_run damaged in_use fault.CopyInUse is = tt
  once_run damaged in_use fault.ShelfFault is = tt
  once_run damaged in_use fault.Contradiction is = tt
  once_run damaged in_use fault.Collision is = tt
  once_run damaged in_use fault.NoFile is = tt
  once_run damaged in_use fault.Source is = absurd is
  once_run damaged in_use fault.OutOfMemory is = tt

  pub once_lacking : (e : CandidateFault) → once → EndsOnce once empty (of_candidates e)
  once_lacking none.NoCheckpoint h = h
  once_lacking (none.Head f) h = h
  once_lacking none.Source h = inl h
  once_lacking none.OutOfMemory h = tt

  once_first : (digest : List ℕ → List ℕ) (c : Candidate) (e : FollowFault) → IsFaultOf digest c e → empty → EndsOnce once empty e
  once_first digest c fault.NoCheckpoint is h = absurd is
  once_first digest c (fault.Head f) is h = absurd is
  once_first digest c fault.CopyDamaged is h = tt
  once_first digest c fault.CopyInUse is h = tt
  once_first digest c fault.ShelfFault is h = tt
  once_first digest c fault.Contradiction is h = tt
  once_first digest c fault.Collision is h = tt
  once_first digest c fault.NoFile is h = tt
  once_first digest c fault.Source is h = inr h
  once_first digest c fault.OutOfMemory is h = tt

  pub once_report : (digest : List ℕ → List ℕ) (cs : List Candidate) (run : Run) {T : Type 0} (r : Result T FollowFault) →
      0 < length cs → (run.copy ≡ None → empty) → KeepsFault digest cs run → IfErr r (Reported cs run) →
      IfErr r (EndsOnce once empty)
  once_report digest cs run (Ok x) some none keeps h = tt
  once_report digest cs run (Err e) some none keeps (inl memory) = subst (EndsOnce once empty) (sym memory) tt
  once_report digest [] run (Err e) some none keeps (inr first) = absurd (omega (arith, some))
  once_report digest (c ∷ cs) run (Err e) some none keeps (inr first) =
      once_first digest c e (first_fault_of digest c cs run.first_fault e (keeps first.0) first.2) (none first.0)
