-- Why a candidate that is larger than the copy is in no fork line, call after call.
use Rattle.std.proofs.Common.{◌≡◌, ◌⊎◌, inl, inr, ℕ, ◌+◌, ◌<◌, ◌≤◌, List, [], ◌∷◌, ◌++◌, length, get_or, take, All, Option, Some, None, Result, Ok, Err, IfOk, IfSome, OnOk, refl, sym, ap, subst, ◌∙◌, arith}
use Rattle.std.specs.List.Sorted.{IsSorted}
use Rattle.std.proofs.lemmas.Bool.{cases_lt}
use Rattle.std.proofs.lemmas.List.{get_or_append_left, get_or_default, get_or_push, length_push, take_all, take_more}
use Rattle.std.proofs.lemmas.List.Elements.{All-contains, All-push, Contains-get_or}
use Rattle.tlog_tiles.specs.declared.paths.Path.{Path}
use Rattle.tlog_proof.specs.declared.proof.Proof.{Proof}
use Rattle.mirror_folders.specs.Shelf.{Put}
use Rattle.mirror_model.specs.Forks.{Point}
use Rattle.mirror_model.specs.Heads.{IsHead}
use Rattle.mirror_model.proofs.HeadNotes.{head_once}
use Rattle.copy_places.specs.Agreeing.{Agrees}
use Rattle.copy_places.specs.Answered.{AreAnswered}
use Rattle.copy_places.specs.Candidates.{IsOnePoint, IsSame, note_of, point_of, turn_cmp}
use Rattle.copy_places.specs.Lines.{IsInSomeLine, KeepsLines}
use Rattle.copy_places.specs.Nobodys.{CannotBeHad, IsOfEnds}
use Rattle.copy_places.specs.Requests.{AsksAny}
use Rattle.copy_places.specs.declared.ask_fault.AskFault.{AskFault}
use Rattle.copy_places.specs.declared.ask_fault.AskFault.TheVariants as ask
use Rattle.copy_places.specs.declared.candidate.Candidate.{Candidate}
use Rattle.copy_places.specs.declared.fork_line.ForkLine.{ForkLine}
use Rattle.copy_places.specs.declared.places.Places.{Places}
use Rattle.copy_places.proofs.LineLists.{kept_itself, lines_kept}
use Rattle.copy_places.proofs.Points.{one_back, one_of_same, one_then, point_same}
use Rattle.copy_places.specs.PlaceGets.{AddsAnswers}
use Rattle.copy_places.proofs.Answered.{answered_before, answered_then}
use Rattle.copy_places.proofs.Requests.{any_same, any_then}
use Rattle.copy_follow.specs.Compared.{BlamesTip}
use Rattle.copy_follow.specs.Conflicts.{IsNoConflict}
use Rattle.copy_follow.specs.Faults.{IsOfNoPlace}
use Rattle.copy_follow.specs.Rule.{ExceedsCopy, copy_point}
use Rattle.copy_follow.specs.RunStanding.{IsHeadOf, KnowsAfter}
use Rattle.copy_follow.specs.Says.{SettlesEach}
use Rattle.copy_follow.specs.Told.{AreSizesIn, AreTold, AreToldFirst, AreToldIn, CouldNotBeHad, CountsAgain, HasReason, IsForkOr, IsLacked, IsNoFork, IsOfFiles, IsSizeIn, IsTold, IsUntold, TellsLarger, TellsTurn, outcome_by}
use Rattle.copy_follow.specs.TurnsTaken.{AddsLacked, HasTakenRun, IsAbove, IsAdded, IsAgreed, IsLargerThan, IsRepeat, SaysTurn}
use Rattle.copy_follow.specs.declared.bring_fault.BringFault.{BringFault}
use Rattle.copy_follow.specs.declared.bring_fault.BringFault.TheVariants as bring
use Rattle.copy_follow.specs.declared.follow_fault.FollowFault.{FollowFault}
use Rattle.copy_follow.specs.declared.report.Followed.{Followed}
use Rattle.copy_follow.specs.declared.run.Outcome.{Outcome}
use Rattle.copy_follow.specs.declared.run.Outcome.TheVariants as turn
use Rattle.copy_follow.specs.declared.run.Run.{Run}
use Rattle.copy_follow.proofs.Taken.{in_some_line}
use Rattle.copy_follow.proofs.TurnOrder.{again, element}

-- ---- the sizes of the two trees

pub size_in : (origin : List ℕ) (o : Option (List ℕ)) (n m : ℕ) (note root : List ℕ) → o ≡ Some note → n ≡ m →
    IsHead note origin m root → IsSizeIn origin o n
size_in origin o n m note root is same head =
    subst (λ p. IsSizeIn origin p n) (sym is) (root, subst (λ k. IsHead note origin k root) (sym same) head)

-- the fault of a tip that was not read is none about files
pub tip_files : (P : Type 0) (digest : List ℕ → List ℕ) (origin : List ℕ) (found : Option (List ℕ)) (puts : Option (List Put))
    (e : BringFault) → BlamesTip digest origin found puts e → IsNoConflict e → IsOfFiles e → P
tip_files P digest origin found puts e (inl h) calm of = absurd (subst IsOfFiles h.0 of)
tip_files P digest origin found puts e (inr (inl h)) calm of = absurd (subst IsOfFiles h.0 of)
tip_files P digest origin found puts e (inr (inr h)) calm of = go e h calm of
  where
    go : (e : BringFault) → IsOfNoPlace e → IsNoConflict e → IsOfFiles e → P
    go bring.BadCheckpoint h calm of = absurd of
    go bring.CopyDamaged h calm of = absurd of
    go bring.NotLarger h calm of = absurd of
    go bring.Contradiction h calm of = absurd calm
    go bring.Collision h calm of = absurd calm
    go bring.NoFile h calm of = absurd h
    go bring.Source h calm of = absurd h
    go bring.CopyInUse h calm of = absurd of
    go bring.ShelfFault h calm of = absurd of
    go bring.OutOfMemory h calm of = absurd of

pub sized_turn : {E : Type 0} (r : Result Outcome E) (of so : Type 0) → IfOk r (λ t. of) → (of → so) →
    IfOk r (λ t. (t ≡ turn.Brought → ⊥) → so)
sized_turn (Ok t) of so h f = λ no. f h
sized_turn (Err e) of so h f = tt

-- the sizes in the notes are those of the copy and of the candidate
pub sizes_of : (origin : List ℕ) (copy c : Candidate) (sizes : ℕ × ℕ) → IsHeadOf origin copy → IsHeadOf origin c →
    AreSizesIn origin (Some (note_of copy)) (note_of c) sizes → IsOfEnds copy c sizes
sizes_of origin copy c sizes h k s = (
  (head_once (note_of copy) origin origin sizes.0 copy.size.0 s.0.0 copy.root s.0.1 h).size_is,
  (head_once (note_of c) origin origin sizes.1 c.size.0 s.1.0 c.root s.1.1 k).size_is,
)

-- ---- a turn that is no fork

fork_by : (t : Outcome) (a b : Type 0) → (a → b) → IsForkOr a t → IsForkOr b t
fork_by turn.Agrees a b f h = f h
fork_by turn.Brought a b f h = f h
fork_by (turn.Forks proof) a b f h = tt
fork_by turn.Contradicts a b f h = f h
fork_by (turn.NotHad fault) a b f h = f h

none_asked : (asked : Result Outcome FollowFault) (so : Type 0) → IfOk asked (IsForkOr so) → IsNoFork asked → so
none_asked (Ok turn.Agrees) so h calm = h
none_asked (Ok turn.Brought) so h calm = h
none_asked (Ok (turn.Forks proof)) so h calm = absurd calm
none_asked (Ok turn.Contradicts) so h calm = h
none_asked (Ok (turn.NotHad fault)) so h calm = h
none_asked (Err fault) so h calm = absurd calm

-- the result is a fork, or the other turn ended with none
pub fork_asked : {E : Type 0} (r : Result Outcome E) (asked : Result Outcome FollowFault) (so : Type 0) →
    IfOk asked (IsForkOr so) → IfOk r (IsForkOr (IsNoFork asked)) → IfOk r (IsForkOr so)
fork_asked (Ok t) asked so h is = fork_by t (IsNoFork asked) so (none_asked asked so h) is
fork_asked (Err e) asked so h is = tt

-- ---- reasons

module _ (digest : List ℕ → List ℕ) {S : Type 0} (may : S → Path → Option (List ℕ) → Type 0) (failed : S → ℕ)
    (asked : S → Option (List Path)) where
  abbrev Any : Places S → Places S → Type 0
  Any x y = AsksAny may failed asked x y

  abbrev Reason : Places S → Places S → Option Candidate → Candidate → Type 0
  Reason x y copy c = HasReason digest may failed asked x y copy c

  abbrev Tells : Places S → Places S → Option Candidate → Candidate → Outcome → Type 0
  Tells x y copy c t = TellsTurn digest may failed asked x y copy c t

  -- a reason in a call is one in a longer call
  had_wider : (w x y z : Places S) (first : ℕ) (large : Point) → Any w x → Any y z →
      CouldNotBeHad digest may failed asked x y first large → CouldNotBeHad digest may failed asked w z first large
  had_wider w x y z first large p q h = record {
    moment = h.moment;
    before = any_then may failed asked w x h.moment p h.before;
    after = any_then may failed asked h.moment y z h.after q;
    answered = answered_before may failed asked w x h.moment p h.answered;
    puts = h.puts;
    why = subst (λ n. CannotBeHad digest h.puts h.moment.ends.tiles.items n first large) p.count h.why;
  }

  pub untold_wider : (w x y z : Places S) (small large : Point) → Any w x → Any y z →
      IsUntold digest may failed asked x y small large → IsUntold digest may failed asked w z small large
  untold_wider w x y z small large p q h = λ some. elim (h some) [
    | inl agrees ↦ inl agrees
    | inr had ↦ inr (had_wider w x y z small.size large p q had)
  ]

  pub reason_wider : (w x y z : Places S) (copy : Option Candidate) (c : Candidate) → Any w x → Any y z → Reason x y copy c →
      Reason w z copy c
  reason_wider w x y z None c p q h = tt
  reason_wider w x y z (Some held) c p q h = untold_wider w x y z (point_of held) (point_of c) p q h

  pub fork_wider : (w x y z : Places S) (copy : Option Candidate) (c : Candidate) (t : Outcome) → Any w x → Any y z →
      IsForkOr (Reason x y copy c) t → IsForkOr (Reason w z copy c) t
  fork_wider w x y z copy c turn.Agrees p q h = reason_wider w x y z copy c p q h
  fork_wider w x y z copy c turn.Brought p q h = reason_wider w x y z copy c p q h
  fork_wider w x y z copy c (turn.Forks proof) p q h = tt
  fork_wider w x y z copy c turn.Contradicts p q h = reason_wider w x y z copy c p q h
  fork_wider w x y z copy c (turn.NotHad fault) p q h = reason_wider w x y z copy c p q h

  -- ---- one turn

  -- the proof was asked for, after other requests of the call
  pub told_asked : (w x y : Places S) (puts : Option (List Put)) (held c : Candidate) (found : Result (Option Proof) AskFault)
      (r : Result Outcome FollowFault) → r ≡ outcome_by found → held.size.0 < c.size.0 → Any w x → Any x y →
      AreAnswered may w x → AddsAnswers may x y →
      IfOk found (λ o. o ≡ None → 0 < held.size.0 → held.size.0 < c.size.0 → Agrees digest (point_of held) (point_of c)) →
      (found ≡ Err ask.OtherFiles → IsOfEnds held c x.ends.sizes → ⊥) →
      (found ≡ Err ask.NoFile →
      CannotBeHad digest puts y.ends.tiles.items (length x.list.items) held.size.0 (point_of c)) →
      IsOfEnds held c x.ends.sizes → IfOk r (IsForkOr (Reason w y (Some held) c))
  told_asked w x y puts held c found r is lt before asks heard adds agrees other lacks fits =
      subst (λ (o : Result Outcome FollowFault). IfOk o (IsForkOr (Reason w y (Some held) c))) (sym is)
      (go found agrees other lacks)
    where
      go : (found : Result (Option Proof) AskFault) →
          IfOk found (λ o. o ≡ None → 0 < held.size.0 → held.size.0 < c.size.0 → Agrees digest (point_of held) (point_of c)) →
          (found ≡ Err ask.OtherFiles → IsOfEnds held c x.ends.sizes → ⊥) →
          (found ≡ Err ask.NoFile →
          CannotBeHad digest puts y.ends.tiles.items (length x.list.items) held.size.0 (point_of c)) →
          IfOk (outcome_by found) (IsForkOr (Reason w y (Some held) c))
      go (Ok (Some proof)) agrees other lacks = tt
      go (Ok None) agrees other lacks = λ some. inl (agrees refl some lt)
      go (Err ask.NoFile) agrees other lacks = λ some. inr (record {
        moment = y;
        before = any_then may failed asked w x y before asks;
        after = any_same may failed asked y;
        answered = answered_then may failed asked w x y before asks heard adds;
        puts = puts;
        why = subst (λ n. CannotBeHad digest puts y.ends.tiles.items n held.size.0 (point_of c)) before.count (lacks refl);
      })
      go (Err ask.OtherFiles) agrees other lacks = absurd (other refl fits)
      go (Err ask.ShelfFault) agrees other lacks = tt
      go (Err ask.OutOfMemory) agrees other lacks = tt

  -- the same after a call that asks no place
  pub fork_later : {E : Type 0} (w x y : Places S) (copy : Option Candidate) (c : Candidate) (r : Result Outcome E) →
      Any w x → IfOk r (IsForkOr (Reason x y copy c)) → IfOk r (IsForkOr (Reason w y copy c))
  fork_later w x y copy c (Ok t) p h = fork_wider w x y y copy c t p (any_same may failed asked y) h
  fork_later w x y copy c (Err e) p h = tt

  tells_fork : (x y : Places S) (copy : Option Candidate) (c : Candidate) (t : Outcome) → IsForkOr (Reason x y copy c) t →
      Tells x y copy c t
  tells_fork x y copy c turn.Agrees h = tt
  tells_fork x y copy c turn.Brought h = tt
  tells_fork x y copy c (turn.Forks proof) h = tt
  tells_fork x y copy c turn.Contradicts h = h
  tells_fork x y copy c (turn.NotHad fault) h = h

  -- a proof was asked for
  pub tells_asked : {E : Type 0} (x y : Places S) (copy : Option Candidate) (c : Candidate) (r : Result Outcome E) →
      IfOk r (IsForkOr (Reason x y copy c)) → IfOk r (Tells x y copy c)
  tells_asked x y copy c (Ok t) h = tells_fork x y copy c t h
  tells_asked x y copy c (Err e) h = tt

  -- a turn with another outcome
  pub tells_other : (x y : Places S) (copy : Option Candidate) (c : Candidate) (t : Outcome) → (t ≡ turn.Contradicts → ⊥) →
      ((fault : FollowFault) → t ≡ turn.NotHad fault → ⊥) → Tells x y copy c t
  tells_other x y copy c turn.Agrees other none = tt
  tells_other x y copy c turn.Brought other none = tt
  tells_other x y copy c (turn.Forks proof) other none = tt
  tells_other x y copy c turn.Contradicts other none = absurd (other refl)
  tells_other x y copy c (turn.NotHad fault) other none = absurd (none fault refl)

  -- the turn of a candidate that is not larger than the copy
  pub tells_upto : {E : Type 0} (x y : Places S) (copy : Option Candidate) (held c : Candidate) (r : Result Outcome E) →
      copy ≡ Some held → c.size.0 ≤ held.size.0 → IfOk r (SaysTurn digest copy c) → IfOk r (Tells x y copy c)
  tells_upto x y copy held c (Err e) is upto h = tt
  tells_upto x y copy held c (Ok t) is upto h = go t h
    where
      never : (so : Type 0) → IsLargerThan copy c → so
      never so larger =
          let lt : held.size.0 < c.size.0 = subst (λ o. IsLargerThan o c) is larger in absurd (omega (arith, lt, upto))

      go : (t : Outcome) → SaysTurn digest copy c t → Tells x y copy c t
      go turn.Agrees h = tt
      go turn.Brought h = tt
      go (turn.Forks proof) h = tt
      go turn.Contradicts h = never (Reason x y copy c) h
      go (turn.NotHad fault) h = never (Reason x y copy c) h

  -- the turn of a candidate without a copy
  pub tells_none : {E : Type 0} (x y : Places S) (copy : Option Candidate) (c : Candidate) (r : Result Outcome E) → copy ≡ None →
      IfOk r (Tells x y copy c)
  tells_none x y copy c (Err e) is = tt
  tells_none x y copy c (Ok t) is = subst (λ o. Tells x y o c t) (sym is) (go t)
    where
      go : (t : Outcome) → Tells x y None c t
      go turn.Agrees = tt
      go turn.Brought = tt
      go (turn.Forks proof) = tt
      go turn.Contradicts = tt
      go (turn.NotHad fault) = tt

  pub tells_held : {E : Type 0} (x y : Places S) (copy : Option Candidate) (held c : Candidate) (r : Result Outcome E) →
      copy ≡ Some held → IfOk r (Tells x y (Some held) c) → IfOk r (Tells x y copy c)
  tells_held x y copy held c r is h = subst (λ o. IfOk r (Tells x y o c)) (sym is) h

-- ---- candidates of one size and root

larger_as : (copy : Option Candidate) (a b : Candidate) → IsOnePoint a b → IsLargerThan copy b → IsLargerThan copy a
larger_as None a b p lt = tt
larger_as (Some held) a b p lt = omega (arith, p.0, lt)

lacked_as : (lacked : List Candidate) (a b : Candidate) → IsOnePoint a b → IsLacked lacked a → IsLacked lacked b
lacked_as lacked a b p h = record {
  at = h.at;
  listed = h.listed;
  one = λ d. one_then b a (get_or lacked h.at d) (one_back a b p) (h.one d);
}

lacked_more : (lacked : List Candidate) (added c : Candidate) → IsLacked lacked c → IsLacked (lacked ++ added ∷ []) c
lacked_more lacked added c h = record {
  at = h.at;
  listed = let long = length_push lacked added in let lt = h.listed in omega (arith, long, lt);
  one = λ d. subst (λ a. IsOnePoint c a) (sym (get_or_append_left lacked (added ∷ []) d h.at h.listed)) (h.one d);
}

lacked_now : (lacked : List Candidate) (added c : Candidate) → IsSame c added → IsLacked (lacked ++ added ∷ []) c
lacked_now lacked added c same = record {
  at = length lacked;
  listed = let long = length_push lacked added in omega (arith, long);
  one = λ d. subst (λ a. IsOnePoint c a) (sym (get_or_push lacked added d (length lacked) refl)) (one_of_same c added same);
}

-- ---- the line of a turn

pub shown_fork : {T E : Type 0} (r : Result T E) (lines : List ForkLine) (c : Candidate) (t : Outcome) →
    OnOk r (IsInSomeLine lines c) → OnOk r (IsForkOr ⊥ t → IsInSomeLine lines c)
shown_fork (Ok u) lines c t h = λ is. h
shown_fork (Err e) lines c t h = tt

-- a turn that is no fork
pub shown_other : (t : Outcome) (so : Type 0) → ((proof : Option Proof) → t ≡ turn.Forks proof → ⊥) → IsForkOr ⊥ t → so
shown_other turn.Agrees so other h = absurd h
shown_other turn.Brought so other h = absurd h
shown_other (turn.Forks proof) so other h = absurd (other proof refl)
shown_other turn.Contradicts so other h = absurd h
shown_other (turn.NotHad fault) so other h = absurd h

-- the candidate is in a line if the turn is a fork. Else the reason is left
pub shown_or : (t : Outcome) (line so : Type 0) → (IsForkOr ⊥ t → line) → IsForkOr so t → line ⊎ so
shown_or turn.Agrees line so f h = inr h
shown_or turn.Brought line so f h = inr h
shown_or (turn.Forks proof) line so f h = inl (f tt)
shown_or turn.Contradicts line so f h = inr h
shown_or (turn.NotHad fault) line so f h = inr h

-- ---- all turns

module _ (digest : List ℕ → List ℕ) {S : Type 0} (may : S → Path → Option (List ℕ) → Type 0) (failed : S → ℕ)
    (asked : S → Option (List Path)) where
  abbrev Asks : Places S → Places S → Type 0
  Asks x y = AsksAny may failed asked x y

  abbrev Why : Places S → Places S → Option Candidate → Candidate → Type 0
  Why x y copy c = HasReason digest may failed asked x y copy c

  abbrev Told : Places S → Places S → Option Candidate → List ForkLine → Candidate → Type 0
  Told x y copy lines c = IsTold digest may failed asked x y copy lines c

  abbrev ToldAll : Places S → Places S → List Candidate → Option Candidate → List ForkLine → List Candidate → ℕ → Type 0
  ToldAll x y done copy lines lacked again = AreTold digest may failed asked x y done copy lines lacked again

  abbrev ToldIn : Places S → Places S → List Candidate → Run → Type 0
  ToldIn x y done run = AreToldIn digest may failed asked x y done run

  abbrev ToldFirst : Places S → Places S → Option Candidate → List ForkLine → List Candidate → ℕ → Type 0
  ToldFirst x y copy lines lacked again = AreToldFirst digest may failed asked x y copy lines lacked again

  abbrev Found : Option Candidate → List ForkLine → List Candidate → Candidate → Type 0
  Found copy lines lacked c = IsLargerThan copy c → IsInSomeLine lines c ⊎ IsLacked lacked c

  -- the reason for another candidate of the same size and root
  reason_at : (x y : Places S) (copy : Option Candidate) (a b : Candidate) → IsOnePoint a b → Why x y copy a → Why x y copy b
  reason_at x y None a b p h = tt
  reason_at x y (Some held) a b p h =
      subst (λ q. IsUntold digest may failed asked x y (point_of held) q) (point_same a b p) h

  -- the same with another copy of the same size and root
  reason_of : (x y : Places S) (held now c : Candidate) → IsOnePoint held now → Why x y (Some held) c → Why x y (Some now) c
  reason_of x y held now c p h =
      subst (λ q. IsUntold digest may failed asked x y q (point_of c)) (point_same held now p) h

  later_reason : (x y z : Places S) (copy : Option Candidate) (c : Candidate) → Asks y z → Why x y copy c → Why x z copy c
  later_reason x y z copy c q h = reason_wider digest may failed asked x x y z copy c (any_same may failed asked x) q h

  earlier_reason : (w x y : Places S) (copy : Option Candidate) (c : Candidate) → Asks w x → Why x y copy c → Why w y copy c
  earlier_reason w x y copy c p h = reason_wider digest may failed asked w x y y copy c p (any_same may failed asked y) h

  -- before the first turn
  pub told_begin : (x : Places S) (run : Run) → run.not_had.items ≡ [] → ToldIn x x [] run
  told_begin x run none = record {
    each = λ k d lt. absurd (omega (arith, lt));
    later = λ k d from lt.
        let zero : length run.not_had.items ≡ 0 = ap length none in absurd (omega (arith, zero, lt));
  }

  -- ---- a turn, part by part

  module _ (x y z : Places S) (p : Asks x y) (q : Asks y z) (done : List Candidate) (c : Candidate) where
    abbrev More : List Candidate
    More = done ++ c ∷ []

    -- the copy stays
    told_kept : (copy : Option Candidate) (lines lines' : List ForkLine) (lacked : List Candidate) (again : ℕ) →
        KeepsLines lines lines' → Found copy lines' lacked c → ToldAll x y done copy lines lacked again →
        ToldAll x z More copy lines' lacked again
    told_kept copy lines lines' lacked again kept found h = record {
      each = All-push (Found copy lines' lacked) done c
          (λ k d lt larger. elim (h.each k d lt larger) [
            | inl line ↦ inl (lines_kept lines lines' (get_or done k d) kept line)
            | inr lack ↦ inr lack
          ])
          found;
      later = λ k d from lt. later_reason x y z copy (get_or lacked k d) q (h.later k d from lt);
    }

    -- the candidate was not had
    told_lacked : (copy : Option Candidate) (lines : List ForkLine) (lacked lacked' : List Candidate) (again : ℕ) →
        AddsLacked c lacked lacked' → Why y z copy c → ToldAll x y done copy lines lacked again →
        ToldAll x z More copy lines lacked' again
    told_lacked copy lines lacked lacked' again adds reason h =
        subst (λ l. ToldAll x z More copy lines l again) (sym adds.is) (record {
          each = All-push (Found copy lines (lacked ++ adds.added ∷ [])) done c
              (λ k d lt larger. elim (h.each k d lt larger) [
                | inl line ↦ inl line
                | inr lack ↦ inr (lacked_more lacked adds.added (get_or done k d) lack)
              ])
              (λ larger. inr (lacked_now lacked adds.added c adds.same));
          later = λ k d from lt. elim (cases_lt k (length lacked)) [
            | inl less ↦
                subst (λ a. Why x z copy a) (sym (get_or_append_left lacked (adds.added ∷ []) d k less))
                (later_reason x y z copy (get_or lacked k d) q (h.later k d from less))
            | inr past ↦
                let long = length_push lacked adds.added in
                let at : length lacked ≡ k = omega (arith, past, lt, long) in
                subst (λ a. Why x z copy a) (sym (get_or_push lacked adds.added d k at))
                (reason_at x z copy c adds.added (one_of_same c adds.added adds.same)
                (earlier_reason x y z copy c p reason))
          ];
        })

    -- the copy was brought to the candidate
    told_brought : (copy : Option Candidate) (now : Candidate) (lines : List ForkLine) (lacked : List Candidate)
        (again again' : ℕ) → IsSame c now → IsAbove copy c → (IsLargerThan copy c → again' ≡ length lacked) →
        ((IsLargerThan copy c → ⊥) → again' ≡ again) → ToldAll x y done copy lines lacked again →
        ToldAll x z More (Some now) lines lacked again'
    told_brought None now lines lacked again again' same above more other h = record {
      each = All-push (Found (Some now) lines lacked) done c (λ k d lt larger. h.each k d lt tt)
          (λ larger. absurd (omega (arith, larger, same.size_is)));
      later = λ k d from lt. let full : again' ≡ length lacked = more tt in absurd (omega (arith, full, from, lt));
    }
    told_brought (Some held) now lines lacked again again' same (inl lt) more other h = record {
      each = All-push (Found (Some now) lines lacked) done c
          (λ k d less larger. h.each k d less (omega (arith, larger, lt, same.size_is)))
          (λ larger. absurd (omega (arith, larger, same.size_is)));
      later = λ k d from less. let full : again' ≡ length lacked = more lt in absurd (omega (arith, full, from, less));
    }
    told_brought (Some held) now lines lacked again again' same (inr above) more other h =
        let held_now : IsOnePoint held now = one_then held c now (one_back c held above.0) (one_of_same c now same) in
        let still : again' ≡ again = other (λ larger. omega (arith, larger, above.0.0)) in
        record {
          each = All-push (Found (Some now) lines lacked) done c
              (λ k d less larger. h.each k d less (omega (arith, larger, held_now.0)))
              (λ larger. absurd (omega (arith, larger, same.size_is)));
          later = λ k d from less.
              let since : again ≤ k = omega (arith, from, still) in
              later_reason x y z (Some now) (get_or lacked k d) q
              (reason_of x y held now (get_or lacked k d) held_now (h.later k d since less));
        }

    told_as : (copy copy' : Option Candidate) (lines lines' : List ForkLine) (lacked lacked' : List Candidate)
        (again again' : ℕ) → copy' ≡ copy → lines' ≡ lines → lacked' ≡ lacked → again' ≡ again →
        ToldAll x z More copy lines lacked again → ToldAll x z More copy' lines' lacked' again'
    told_as copy copy' lines lines' lacked lacked' again again' a b e f h =
        subst (λ u. ToldAll x z More u lines' lacked' again') (sym a)
        (subst (λ u. ToldAll x z More copy u lacked' again') (sym b)
        (subst (λ u. ToldAll x z More copy lines u again') (sym e)
        (subst (λ u. ToldAll x z More copy lines lacked u) (sym f) h)))

    not_agreed : (so : Type 0) (copy : Option Candidate) → IsAgreed digest copy c → IsLargerThan copy c → so
    not_agreed so None a larger = absurd a
    not_agreed so (Some held) a larger = absurd (omega (arith, a.0, larger))

    -- any turn
    pub told_turn : (run next : Run) (t : Outcome) → KnowsAfter c t run.copy next.copy → IsAdded c t run next →
        CountsAgain c t run next → SaysTurn digest run.copy c t → TellsTurn digest may failed asked y z run.copy c t →
        ToldIn x y done run → ToldIn x z More next
    told_turn run next turn.Agrees knows (forks, lacked) counts says tells h =
        told_as run.copy next.copy run.forks.items next.forks.items run.not_had.items next.not_had.items run.again next.again
        knows (ap (λ v. v.items) forks) (ap (λ v. v.items) lacked) counts
        (told_kept run.copy run.forks.items run.forks.items run.not_had.items run.again (kept_itself run.forks.items)
        (not_agreed (IsInSomeLine run.forks.items c ⊎ IsLacked run.not_had.items c) run.copy says.0) h)
    told_turn run next turn.Brought knows (forks, lacked) counts says tells h =
        told_as (Some knows.now) next.copy run.forks.items next.forks.items run.not_had.items next.not_had.items next.again
        next.again knows.is (ap (λ v. v.items) forks) (ap (λ v. v.items) lacked) refl
        (told_brought run.copy knows.now run.forks.items run.not_had.items run.again next.again knows.same says counts.0
        counts.1 h)
    told_turn run next (turn.Forks proof) knows (forks, adds, lacked) counts says tells h =
        told_as run.copy next.copy next.forks.items next.forks.items run.not_had.items next.not_had.items run.again next.again
        knows refl (ap (λ v. v.items) lacked) counts
        (told_kept run.copy run.forks.items next.forks.items run.not_had.items run.again (forks says).0
        (λ larger. inl (forks says).1) h)
    told_turn run next turn.Contradicts knows (forks, lacked) counts says tells h =
        told_as run.copy next.copy run.forks.items next.forks.items next.not_had.items next.not_had.items run.again next.again
        knows (ap (λ v. v.items) forks) refl counts
        (told_lacked run.copy run.forks.items run.not_had.items next.not_had.items run.again lacked tells h)
    told_turn run next (turn.NotHad fault) knows (forks, lacked) counts says tells h =
        told_as run.copy next.copy run.forks.items next.forks.items next.not_had.items next.not_had.items run.again next.again
        knows (ap (λ v. v.items) forks) refl counts
        (told_lacked run.copy run.forks.items run.not_had.items next.not_had.items run.again lacked tells h)

  -- ---- a list of candidates

  more_taken : (cs : List Candidate) (i : ℕ) (a : Candidate) → i < length cs → a ≡ get_or cs i a →
      take i cs ++ a ∷ [] ≡ take (i + 1) cs
  more_taken cs i a lt is = sym (take_more cs i a lt ∙ ap (λ (b : Candidate). take i cs ++ b ∷ []) (sym is))

  -- a candidate that repeats the one before it has no turn
  pub told_repeat : (x y : Places S) (cs : List Candidate) → IsSorted turn_cmp cs → (i : ℕ) → i < length cs → IsRepeat cs i →
      (run : Run) → ToldIn x y (take i cs) run → ToldIn x y (take (i + 1) cs) run
  told_repeat x y cs rises i lt r run h =
      let e = element cs i lt in
      let a = again cs rises i e.0 lt e.1 r in
      subst (λ l. ToldIn x y l run) (more_taken cs i e.0 lt e.1) (record {
        each = All-push (Found run.copy run.forks.items run.not_had.items) (take i cs) e.0 h.each
            (λ larger. elim (All-contains (Found run.copy run.forks.items run.not_had.items) (take i cs) a.one h.each a.listed
            (larger_as run.copy a.one e.0 a.same larger)) [
              | inl line ↦ inl (in_some_line run.forks.items e.0 a.one (one_back a.one e.0 a.same) line)
              | inr lack ↦ inr (lacked_as run.not_had.items a.one e.0 a.same lack)
            ]);
        later = h.later;
      })

  -- a call that runs the turn of a candidate of a list
  pub told_at : {T E : Type 0} (r : Result T E) (y z : Places S) (cs : List Candidate) (i : ℕ) → i < length cs →
      (a : Candidate) → a ≡ get_or cs i a → (run next : Run) →
      OnOk r ((start : Places S) (done : List Candidate) → Asks start y → ToldIn start y done run →
      ToldIn start z (done ++ a ∷ []) next) →
      OnOk r ((start : Places S) → IsSorted turn_cmp cs → Asks start y → ToldIn start y (take i cs) run →
      ToldIn start z (take (i + 1) cs) next)
  told_at (Ok t) y z cs i lt a is run next f = λ start rises p h.
      subst (λ l. ToldIn start z l next) (more_taken cs i a lt is) (f start (take i cs) p h)
  told_at (Err e) y z cs i lt a is run next f = tt

  -- after all turns
  pub told_all : (x y : Places S) (cs : List Candidate) (i : ℕ) (run : Run) → length cs ≤ i → ToldIn x y (take i cs) run →
      ToldIn x y cs run
  told_all x y cs i run le h = subst (λ l. ToldIn x y l run) (take_all i cs le) h

  -- ---- candidates that are looked at once more

  told_wider : (w x y z : Places S) (copy : Option Candidate) (lines lines' : List ForkLine) (c : Candidate) → Asks w x →
      Asks y z → KeepsLines lines lines' → Told x y copy lines c → Told w z copy lines' c
  told_wider w x y z copy lines lines' c p q kept h = λ larger. elim (h larger) [
    | inl line ↦ inl (lines_kept lines lines' c kept line)
    | inr reason ↦ inr (reason_wider digest may failed asked w x y z copy c p q reason)
  ]

  pub told_step : (w x y : Places S) (copy : Option Candidate) (lines lines' : List ForkLine) (lacked : List Candidate) (i : ℕ)
      (a : Candidate) → Asks w x → Asks x y → KeepsLines lines lines' → i < length lacked → a ≡ get_or lacked i a →
      ToldFirst w x copy lines lacked i → Told x y copy lines' a → ToldFirst w y copy lines' lacked (i + 1)
  told_step w x y copy lines lines' lacked i a p q kept within is h now = λ k d lt less. elim (cases_lt k i) [
    | inl before ↦
        told_wider w w x y copy lines lines' (get_or lacked k d) (any_same may failed asked w) q kept (h k d before less)
    | inr past ↦
        let at : i ≡ k = omega (arith, past, lt) in
        let same : a ≡ get_or lacked i d = is ∙ get_or_default lacked i a d within in
        subst (λ j. Told w y copy lines' (get_or lacked j d)) at
        (subst (λ b. Told w y copy lines' b) same
        (told_wider w x y y copy lines' lines' a p (any_same may failed asked y) (kept_itself lines') now))
  ]

  pub first_held : {T E : Type 0} (r : Result T E) (x y : Places S) (copy : Option Candidate) (held : Candidate)
      (lines : List ForkLine) (lacked : List Candidate) (n : ℕ) → copy ≡ Some held →
      OnOk r (ToldFirst x y (Some held) lines lacked n) → OnOk r (ToldFirst x y copy lines lacked n)
  first_held (Ok t) x y copy held lines lacked n is h = subst (λ o. ToldFirst x y o lines lacked n) (sym is) h
  first_held (Err e) x y copy held lines lacked n is h = tt

  pub first_none : (x y : Places S) (copy : Option Candidate) (lines : List ForkLine) (lacked : List Candidate) (n : ℕ) →
      copy ≡ None → ToldFirst x y copy lines lacked n
  first_none x y copy lines lacked n is =
      subst (λ o. ToldFirst x y o lines lacked n) (sym is) (λ k d lt less larger. inr tt)

  module _ (w x y : Places S) (p : Asks w x) (q : Asks x y) (copy : Option Candidate) (lines lines' : List ForkLine)
      (lacked : List Candidate) (n : ℕ) (kept : KeepsLines lines lines') (first : ToldFirst x y copy lines' lacked n) where
    by_lack : (later : (k : ℕ) (d : Candidate) → n ≤ k → k < length lacked → Why w x copy (get_or lacked k d)) →
        (c : Candidate) → IsLacked lacked c → Told w y copy lines' c
    by_lack later c lack = λ larger.
        let a = get_or lacked lack.at c in
        let one : IsOnePoint c a = lack.one c in
        let back : IsOnePoint a c = one_back c a one in
        elim (cases_lt lack.at n) [
          | inl before ↦ elim (first lack.at c before lack.listed (larger_as copy a c back larger)) [
            | inl line ↦ inl (in_some_line lines' c a one line)
            | inr reason ↦ inr (earlier_reason w x y copy c p (reason_at x y copy a c back reason))
          ]
          | inr since ↦ inr (later_reason w x y copy c q (reason_at w x copy a c back (later lack.at c since lack.listed)))
        ]

    pub told_again : (done : List Candidate) → ToldAll w x done copy lines lacked n → All (Told w y copy lines') done
    told_again done h = λ k d lt larger. elim (h.each k d lt larger) [
      | inl line ↦ inl (lines_kept lines lines' (get_or done k d) kept line)
      | inr lack ↦ by_lack h.later (get_or done k d) lack larger
    ]

  pub told_on : (w x y : Places S) (r : Result Run FollowFault) (so : Type 0) (cs : List Candidate) (run : Run) → Asks w x →
      (so → ToldIn w x cs run) →
      IfOk r (λ next. (start : Places S) (done : List Candidate) → Asks start x → ToldIn start x done run →
      All (Told start y next.copy next.forks.items) done) →
      IfOk r (λ next. so → All (Told w y next.copy next.forks.items) cs)
  told_on w x y (Ok next) so cs run p h f = λ s. f w cs p (h s)
  told_on w x y (Err e) so cs run p h f = tt

  -- ---- the report

  larger_left : (w x z : Places S) (cs : List Candidate) (copy : Option Candidate) (lines : List ForkLine) (f : Followed) →
      Asks w x → f.copy ≡ copy_point copy → KeepsLines lines f.forks.items → SettlesEach digest cs f →
      All (Told x z copy lines) cs → TellsLarger digest may failed asked w z f
  larger_left w x z cs None lines f p is kept s told = subst
      (λ (o : Option (ℕ × List ℕ)). IfSome o (λ copy. All (λ point. IsUntold digest may failed asked w z
      (record { size = copy.0; root = copy.1 }) (record { size = point.0; root = point.1 })) f.larger.items)) (sym is) tt
  larger_left w x z cs (Some held) lines f p is kept s told = subst
      (λ (o : Option (ℕ × List ℕ)). IfSome o (λ copy. All (λ point. IsUntold digest may failed asked w z
      (record { size = copy.0; root = copy.1 }) (record { size = point.0; root = point.1 })) f.larger.items)) (sym is)
      (λ k d lt.
      let point = get_or f.larger.items k d in
      let left = (s.rule.left point).0 (Contains-get_or f.larger.items k d lt) in
      let c = left.candidate in
      let larger : held.size.0 < c.size.0 = subst (λ (o : Option (ℕ × List ℕ)). ExceedsCopy o c.size.0) is left.more in
      let reason : Why x z (Some held) c =
      elim (All-contains (Told x z (Some held) lines) cs c told left.listed larger) [
        | inl line ↦ absurd (left.alone (lines_kept lines f.forks.items c kept line))
        | inr reason ↦ reason
      ] in
      subst (λ (o : ℕ × List ℕ). IsUntold digest may failed asked w z (point_of held) (record { size = o.0; root = o.1 }))
      (sym left.is) (earlier_reason w x z (Some held) c p reason))

  pub told_report : (w x z : Places S) (cs : List Candidate) (run : Run) {E : Type 0} (r : Result Followed E)
      (first : Option Candidate) → Asks w x → IfOk r (λ f. f.copy ≡ copy_point run.copy) →
      IfOk r (λ f. KeepsLines run.forks.items f.forks.items) →
      IfOk r (λ f. (digest : List ℕ → List ℕ) (first : Option Candidate) → HasTakenRun digest first cs run →
      SettlesEach digest cs f) → HasTakenRun digest first cs run → All (Told x z run.copy run.forks.items) cs →
      IfOk r (TellsLarger digest may failed asked w z)
  told_report w x z cs run (Ok f) first p is kept settles taken told =
      larger_left w x z cs run.copy run.forks.items f p is kept (settles digest first taken) told
  told_report w x z cs run (Err e) first p is kept settles taken told = tt
