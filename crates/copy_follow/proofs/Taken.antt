-- The facts about the candidates, turn after turn.
use Rattle.std.proofs.Common.{◌≡◌, ◌≢◌, ◌⊎◌, inl, inr, ℕ, ◌+◌, ◌<◌, ◌≤◌, List, [], ◌∷◌, ◌++◌, length, get_or, take, All, Contains, Option, Some, None, refl, sym, ap, subst, ◌∙◌, arith, Result, Ok, Err, IfOk, IfSome, OnOk}
use Rattle.std.specs.List.Sorted.{IsSorted}
use Rattle.std.proofs.lemmas.List.{take_all, take_more}
use Rattle.std.proofs.lemmas.List.Elements.{All-contains, All-nil, All-push, All-weaker, Contains-append_left, Contains-push}
use Rattle.tlog_proof.specs.declared.proof.Proof.{Proof}
use Rattle.copy_places.specs.Adding.{AddsFork, IsForkLine}
use Rattle.copy_places.specs.Agreeing.{Agrees}
use Rattle.copy_places.specs.Candidates.{IsOnePoint, IsSame, note_of, point_of, turn_cmp}
use Rattle.copy_places.specs.Lines.{AreLines, IsFirstOrListed, IsInLine, IsInSomeLine, IsListed, KeepsLines}
use Rattle.copy_places.specs.Shown.{AreFork}
use Rattle.copy_places.specs.declared.candidate.Candidate.{Candidate}
use Rattle.copy_places.specs.declared.fork_line.ForkLine.{ForkLine}
use Rattle.copy_places.proofs.Lines.{lines_more, lines_none, listed_more, listed_now}
use Rattle.copy_places.proofs.LineLists.{lines_kept}
use Rattle.copy_places.proofs.Points.{one_back, one_of_same, one_then, point_same}
use Rattle.copy_follow.specs.Says.{IsNoteUpTo}
use Rattle.copy_follow.specs.Turning.{ShowsTurn}
use Rattle.copy_follow.specs.RunStanding.{KnowsAfter}
use Rattle.copy_follow.specs.TurnsTaken.{AddsLacked, HasTaken, HasTakenRun, IsAbove, IsAdded, IsAgreed, IsBeyond, IsGrown, IsLargerThan, IsLineOfRun, IsLineUpTo, IsNextOf, IsNoted, IsOneOf, IsRepeat, IsReported, SaysTurn}
use Rattle.copy_follow.specs.declared.run.Run.{Run}
use Rattle.copy_follow.specs.declared.run.Outcome.{Outcome}
use Rattle.copy_follow.specs.declared.run.Outcome.TheVariants as turn
use Rattle.copy_follow.proofs.Adding.{lines_forked}
use Rattle.copy_follow.proofs.OfCopy.{all_added, first_upto, of_added, of_brought, of_still}
use Rattle.copy_follow.proofs.TurnOrder.{again, element, next_of, note_itself, note_upto}

-- ---- points

in_line : (a b : Candidate) (line : ForkLine) → IsOnePoint a b → IsInLine b line → IsInLine a line
in_line a b line p (inl q) = inl (one_then a b line.small p q)
in_line a b line p (inr q) = inr (one_then a b line.large p q)

pub in_some_line : (lines : List ForkLine) (a b : Candidate) → IsOnePoint a b → IsInSomeLine lines b → IsInSomeLine lines a
in_some_line lines a b p q = record { line = q.line; listed = q.listed; is_in = in_line a b q.line p q.is_in }

-- a candidate with the copy's size and root agrees with it
agree_now : (digest : List ℕ → List ℕ) (a b : Candidate) → IsOnePoint a b → Agrees digest (point_of a) (point_of b)
agree_now digest a b p = record { proof = None; shown = inl (p.0, p.1) }

-- a candidate that is a fork with the copy does not have its size and root
pub fork_apart : (digest : List ℕ → List ℕ) (held c : Candidate) (proof : Option Proof) → AreFork digest held c proof →
    IsOnePoint c held → ⊥
fork_apart digest held c proof (inl shown) p = omega (arith, shown.0, p.0)
fork_apart digest held c proof (inr (inl shown)) p = omega (arith, shown.0, p.0)
fork_apart digest held c proof (inr (inr equal)) p = equal.2 (sym p.1)

line_within : (held c : Candidate) (line : ForkLine) → IsForkLine held c line → (IsOnePoint held c → ⊥) →
    line.small.size.0 ≤ held.size.0
line_within held c line f apart = elim f.both [
  | inl s ↦ let size : line.small.size.0 ≡ held.size.0 = s.0.size_is in omega (arith, size)
  | inr s ↦
      let size : line.large.size.0 ≡ held.size.0 = s.1.size_is in
      let upto : line.small.size.0 ≤ line.large.size.0 = first_upto line (f.small_first apart) in
      omega (arith, size, upto)
]

pub within_added : (held c : Candidate) (old new : List ForkLine) → AddsFork held c old new → (IsOnePoint held c → ⊥) →
    All (IsLineUpTo (Some held)) old → All (IsLineUpTo (Some held)) new
within_added held c old new f apart all =
    all_added (IsLineUpTo (Some held)) f.line old new f.adds (line_within held c f.line f.is apart) all

module _ (digest : List ℕ → List ℕ) (first : Option Candidate) where
  abbrev Taken : List Candidate → Option Candidate → List ForkLine → Type 0
  Taken done copy forks = HasTaken digest first done copy forks

  -- before the first turn
  pub taken_none : (forks : List ForkLine) → forks ≡ [] → Taken [] first forks
  taken_none forks none = record {
    each = λ k d lt. absurd (omega (arith, lt));
    noted = λ k d lt. absurd (omega (arith, lt));
    within = subst (All (IsLineUpTo first)) (sym none) (All-nil (IsLineUpTo first));
    grown = grown_itself first;
    one_of = one_itself first;
  }
    where
      grown_itself : (o : Option Candidate) → IsGrown o o
      grown_itself None = tt
      grown_itself (Some f) = (omega arith, λ e. note_itself (note_of f))

      one_itself : (o : Option Candidate) → IsOneOf o [] o
      one_itself None = tt
      one_itself (Some f) = inl (record { size_is = refl; root_is = refl; note_is = refl })

  -- the same with equal parts
  taken_as : (done : List Candidate) (copy copy' : Option Candidate) (forks forks' : List ForkLine) → copy' ≡ copy →
      forks' ≡ forks → Taken done copy forks → Taken done copy' forks'
  taken_as done copy copy' forks forks' a b h =
      subst (λ x. Taken done x forks') (sym a) (subst (λ x. Taken done copy x) (sym b) h)

  -- the same with more lines
  pub taken_lines : (done : List Candidate) (copy : Option Candidate) (forks forks' : List ForkLine) →
      Taken done copy forks → KeepsLines forks forks' → All (IsLineUpTo copy) forks' → Taken done copy forks'
  taken_lines done copy forks forks' h kept within = record {
    each = λ k d lt. elim (h.each k d lt) [
      | inl a ↦ inl a
      | inr (inl line) ↦ inr (inl (lines_kept forks forks' (get_or done k d) kept line))
      | inr (inr beyond) ↦ inr (inr beyond)
    ];
    noted = h.noted;
    within = within;
    grown = h.grown;
    one_of = h.one_of;
  }

  module _ (done : List Candidate) (c : Candidate) where
    abbrev More : List Candidate
    More = done ++ c ∷ []

    one_more : (copy : Option Candidate) → IsOneOf first done copy → IsOneOf first More copy
    one_more None o = tt
    one_more (Some held) (inl is) = inl is
    one_more (Some held) (inr r) = inr (r.0, Contains-append_left done (c ∷ []) r.0 r.1, r.2)

    abbrev Known : Option Candidate → List ForkLine → Candidate → Type 0
    Known copy forks x = IsAgreed digest copy x ⊎ IsReported copy forks x

    -- one more candidate, while the copy stays
    pub taken_next : (copy : Option Candidate) (forks : List ForkLine) → Taken done copy forks → Known copy forks c →
        IsNoted copy c → Taken More copy forks
    taken_next copy forks h known noted = record {
      each = All-push (Known copy forks) done c h.each known;
      noted = All-push (IsNoted copy) done c h.noted noted;
      within = h.within;
      grown = h.grown;
      one_of = one_more copy h.one_of;
    }

    -- ---- the copy is brought to the candidate

    module _ (now : Candidate) (is : IsSame c now) where
      at_now : IsOnePoint c now
      at_now = one_of_same c now is

      size_now : now.size.0 ≡ c.size.0
      size_now = is.size_is

      brought_with : (copy : Option Candidate) (forks : List ForkLine) → Taken done copy forks →
          All (λ x. IsAgreed digest copy x → IsAgreed digest (Some now) x) done → All (IsNoted (Some now)) done →
          All (λ x. IsBeyond copy x → IsBeyond (Some now) x) done →
          ((line : ForkLine) → IsLineUpTo copy line → IsLineUpTo (Some now) line) → IsGrown first (Some now) →
          Taken More (Some now) forks
      brought_with copy forks h agrees notes beyond upto grown = record {
        each = All-push (Known (Some now) forks) done c
            (λ k d lt. elim (h.each k d lt) [
              | inl a ↦ inl (agrees k d lt a)
              | inr (inl line) ↦ inr (inl line)
              | inr (inr b) ↦ inr (inr (beyond k d lt b))
            ])
            (inl (omega (arith, size_now), agree_now digest c now at_now));
        noted = All-push (IsNoted (Some now)) done c notes
            (λ one. subst (λ n. IsNoteUpTo n (note_of c)) (sym is.note_is) (note_itself (note_of c)));
        within = All-weaker (IsLineUpTo copy) (IsLineUpTo (Some now)) upto forks h.within;
        grown = grown;
        one_of = inr (c, Contains-push done c, is);
      }

      -- no earlier candidate has the size and root of the copy
      notes_apart : IsNextOf done c → All (IsNoted (Some now)) done
      notes_apart next k d lt = λ one.
          absurd (next.apart k d lt (one_then (get_or done k d) now c one (one_back c now at_now)))

      beyond_next : IsNextOf done c → All (IsBeyond (Some now)) done
      beyond_next next k d lt =
          let le : c.size.0 ≤ (get_or done k d).size.0 = next.upto k d lt in (
            omega (arith, le, size_now),
            λ one. next.apart k d lt (one_then (get_or done k d) now c one (one_back c now at_now)),
          )

      grown_larger : (first : Option Candidate) (held : Candidate) → held.size.0 < c.size.0 → IsGrown first (Some held) →
          IsGrown first (Some now)
      grown_larger None held lt g = tt
      grown_larger (Some f) held lt g =
          (omega (arith, g.0, lt, size_now), λ e. absurd (omega (arith, g.0, lt, size_now, e)))

      grown_same : (first : Option Candidate) (held : Candidate) → IsOnePoint c held →
          IsNoteUpTo (note_of now) (note_of held) → IsGrown first (Some held) → IsGrown first (Some now)
      grown_same None held one less g = tt
      grown_same (Some f) held one less g = (
        omega (arith, g.0, one.0, size_now),
        λ e. note_upto (note_of now) (note_of held) (note_of f) less (g.1 (e ∙ size_now ∙ one.0)),
      )

      grown_none : (first : Option Candidate) → IsGrown first None → IsGrown first (Some now)
      grown_none None g = tt
      grown_none (Some f) g = absurd g

      -- from no copy
      brought_none : (forks : List ForkLine) → Taken done None forks → IsNextOf done c → Taken More (Some now) forks
      brought_none forks h next =
          brought_with None forks h (λ k d lt a. absurd a) (notes_apart next) (λ k d lt b. beyond_next next k d lt)
          (λ line w. absurd w) (grown_none first h.grown)

      -- from a smaller copy
      brought_larger : (held : Candidate) (forks : List ForkLine) → Taken done (Some held) forks → IsNextOf done c →
          held.size.0 < c.size.0 → Taken More (Some now) forks
      brought_larger held forks h next lt =
          brought_with (Some held) forks h
          (λ k d less a. let up = next.upto k d less in absurd (omega (arith, a.0, lt, up))) (notes_apart next)
          (λ k d less b. beyond_next next k d less) (λ line w. omega (arith, w, lt, size_now))
          (grown_larger first held lt h.grown)

      -- from a copy of its size and root
      brought_same : (held : Candidate) (forks : List ForkLine) → Taken done (Some held) forks → IsOnePoint c held →
          IsNoteUpTo (note_of c) (note_of held) → Taken More (Some now) forks
      brought_same held forks h one less =
          let less' : IsNoteUpTo (note_of now) (note_of held) =
          subst (λ n. IsNoteUpTo n (note_of held)) (sym is.note_is) less in
          let held_now : IsOnePoint held now = one_then held c now (one_back c held one) at_now in
          brought_with (Some held) forks h
          (λ k d lt a. (
            omega (arith, a.0, held_now.0),
            subst (λ p. Agrees digest (point_of (get_or done k d)) p) (point_same held now held_now) a.1,
          ))
          (λ k d lt at. note_upto (note_of now) (note_of held) (note_of (get_or done k d)) less'
          (h.noted k d lt (one_then (get_or done k d) now held at (one_back held now held_now))))
          (λ k d lt b. (
            omega (arith, b.0, held_now.0),
            λ at. b.1 (one_then (get_or done k d) now held at (one_back held now held_now)),
          ))
          (λ line w. omega (arith, w, held_now.0)) (grown_same first held one less' h.grown)

      pub taken_brought : (copy : Option Candidate) (forks : List ForkLine) → Taken done copy forks → IsNextOf done c →
          IsAbove copy c → Taken More (Some now) forks
      taken_brought None forks h next above = brought_none forks h next
      taken_brought (Some held) forks h next (inl lt) = brought_larger held forks h next lt
      taken_brought (Some held) forks h next (inr p) = brought_same held forks h p.0 p.1

    -- ---- the candidate is reported

    larger_noted : (copy : Option Candidate) → IsLargerThan copy c → IsNoted copy c
    larger_noted None lt = tt
    larger_noted (Some held) lt = λ one. absurd (omega (arith, lt, one.0))

    larger_beyond : (copy : Option Candidate) → IsLargerThan copy c → IsBeyond copy c
    larger_beyond None lt = tt
    larger_beyond (Some held) lt = (omega (arith, lt), λ one. omega (arith, lt, one.0))

    -- the copy could not be brought to the candidate
    pub taken_lacked : (copy : Option Candidate) (forks : List ForkLine) → Taken done copy forks → IsLargerThan copy c →
        Taken More copy forks
    taken_lacked copy forks h lt =
        taken_next copy forks h (inr (inr (larger_beyond copy lt))) (larger_noted copy lt)

    -- ---- the candidate repeats one

    agreed_as : (copy : Option Candidate) (one : Candidate) → IsOnePoint one c → IsAgreed digest copy one →
        IsAgreed digest copy c
    agreed_as None one p a = a
    agreed_as (Some held) one p a =
        (omega (arith, a.0, p.0), subst (λ x. Agrees digest x (point_of held)) (point_same one c p) a.1)

    beyond_as : (copy : Option Candidate) (one : Candidate) → IsOnePoint one c → IsBeyond copy one → IsBeyond copy c
    beyond_as None one p b = tt
    beyond_as (Some held) one p b = (omega (arith, b.0, p.0), λ at. b.1 (one_then one c held p at))

    known_as : (copy : Option Candidate) (forks : List ForkLine) (one : Candidate) → IsOnePoint one c →
        Known copy forks one → Known copy forks c
    known_as copy forks one p (inl a) = inl (agreed_as copy one p a)
    known_as copy forks one p (inr (inl l)) = inr (inl (in_some_line forks c one (one_back one c p) l))
    known_as copy forks one p (inr (inr b)) = inr (inr (beyond_as copy one p b))

    noted_as : (copy : Option Candidate) (one : Candidate) → IsOnePoint one c → IsNoteUpTo (note_of one) (note_of c) →
        IsNoted copy one → IsNoted copy c
    noted_as None one p up n = tt
    noted_as (Some held) one p up n =
        λ at. note_upto (note_of held) (note_of one) (note_of c) (n (one_then one c held p at)) up

    pub taken_again : (copy : Option Candidate) (forks : List ForkLine) → Taken done copy forks → (one : Candidate) →
        Contains done one → IsOnePoint one c → IsNoteUpTo (note_of one) (note_of c) → Taken More copy forks
    taken_again copy forks h one among p up =
        taken_next copy forks h
        (known_as copy forks one p (All-contains (Known copy forks) done one h.each among))
        (noted_as copy one p up (All-contains (IsNoted copy) done one h.noted among))

    -- ---- any turn

    fork_noted : (copy : Option Candidate) (proof : Option Proof) → ShowsTurn digest copy c (turn.Forks proof) →
        IsNoted copy c
    fork_noted None proof s = tt
    fork_noted (Some held) proof s = λ one. absurd (fork_apart digest held c proof s one)

    apart_from : (copy : Option Candidate) (proof : Option Proof) → ShowsTurn digest copy c (turn.Forks proof) →
        IfSome copy (λ held. IsOnePoint held c → ⊥)
    apart_from None proof shows = tt
    apart_from (Some held) proof shows = λ one. fork_apart digest held c proof shows (one_back held c one)

    -- the candidate is a fork with the copy
    taken_forked : (copy : Option Candidate) (proof : Option Proof) (forks forks' : List ForkLine) → Taken done copy forks →
        ShowsTurn digest copy c (turn.Forks proof) → copy ≢ None → IfSome copy (λ held. AddsFork held c forks forks') →
        KeepsLines forks forks' → IsInSomeLine forks' c → Taken More copy forks'
    taken_forked None proof forks forks' h shows some adds kept now = absurd (some refl)
    taken_forked (Some held) proof forks forks' h shows some adds kept now =
        taken_next (Some held) forks'
        (taken_lines done (Some held) forks forks' h kept
        (within_added held c forks forks' adds (apart_from (Some held) proof shows) h.within))
        (inr (inl now)) (fork_noted (Some held) proof shows)

    abbrev TakenRun : List Candidate → Run → Type 0
    TakenRun cs run = Taken cs run.copy run.forks.items

    turned : (run next : Run) (t : Outcome) → TakenRun done run → IsNextOf done c →
        KnowsAfter c t run.copy next.copy → IsAdded c t run next → SaysTurn digest run.copy c t →
        ShowsTurn digest run.copy c t → TakenRun More next
    turned run next turn.Agrees h is knows (forks, lacked) says shows =
        taken_as More run.copy next.copy run.forks.items next.forks.items knows (ap (λ v. v.items) forks)
        (taken_next run.copy run.forks.items h (inl says.0) says.1)
    turned run next turn.Brought h is knows (forks, lacked) says shows =
        taken_as More (Some knows.now) next.copy run.forks.items next.forks.items knows.is (ap (λ v. v.items) forks)
        (taken_brought knows.now knows.same run.copy run.forks.items h is says)
    turned run next (turn.Forks proof) h is knows (forks, adds, lacked) says shows =
        taken_as More run.copy next.copy next.forks.items next.forks.items knows refl
        (taken_forked run.copy proof run.forks.items next.forks.items h shows says adds (forks says).0 (forks says).1)
    turned run next turn.Contradicts h is knows (forks, lacked) says shows =
        taken_as More run.copy next.copy run.forks.items next.forks.items knows (ap (λ v. v.items) forks)
        (taken_lacked run.copy run.forks.items h says)
    turned run next (turn.NotHad fault) h is knows (forks, lacked) says shows =
        taken_as More run.copy next.copy run.forks.items next.forks.items knows (ap (λ v. v.items) forks)
        (taken_lacked run.copy run.forks.items h says)

    -- ---- the lines, and the candidates to which the copy could not be brought

    all_listed : (lacked : List Candidate) → All (IsListed done) lacked → All (IsListed More) lacked
    all_listed lacked all = All-weaker (IsListed done) (IsListed More) (listed_more done c) lacked all

    still_listed : (old new : List Candidate) → new ≡ old → All (IsListed done) old → All (IsListed More) new
    still_listed old new e all = subst (All (IsListed More)) (sym e) (all_listed old all)

    one_listed : (old new : List Candidate) → AddsLacked c old new → All (IsListed done) old → All (IsListed More) new
    one_listed old new adds all =
        subst (All (IsListed More)) (sym adds.is)
        (All-push (IsListed More) old adds.added (all_listed old all) (listed_now done c adds.added adds.same))

    still_lines : (old new : List ForkLine) → new ≡ old → AreLines first done old → AreLines first More new
    still_lines old new e l = subst (AreLines first More) (sym e) (lines_more first done c old l)

    known_copy : (copy : Option Candidate) → IsOneOf first done copy → IfSome copy (IsFirstOrListed first done)
    known_copy None o = tt
    known_copy (Some held) o = o

    lines_turned : (run next : Run) (t : Outcome) → HasTakenRun digest first done run → IsAdded c t run next →
        SaysTurn digest run.copy c t → ShowsTurn digest run.copy c t → AreLines first More next.forks.items
    lines_turned run next turn.Agrees h (forks, lacked) says shows =
        still_lines run.forks.items next.forks.items (ap (λ v. v.items) forks) h.lines
    lines_turned run next turn.Brought h (forks, lacked) says shows =
        still_lines run.forks.items next.forks.items (ap (λ v. v.items) forks) h.lines
    lines_turned run next (turn.Forks proof) h (forks, adds, lacked) says shows =
        lines_forked first done c run.copy run.forks.items next.forks.items says adds
        (apart_from run.copy proof shows) (known_copy run.copy h.taken.one_of) h.lines
    lines_turned run next turn.Contradicts h (forks, lacked) says shows =
        still_lines run.forks.items next.forks.items (ap (λ v. v.items) forks) h.lines
    lines_turned run next (turn.NotHad fault) h (forks, lacked) says shows =
        still_lines run.forks.items next.forks.items (ap (λ v. v.items) forks) h.lines

    -- the candidate is a fork with the copy
    of_forked : (copy : Option Candidate) (old new : List ForkLine) → copy ≢ None →
        IfSome copy (λ held. AddsFork held c old new) → IfSome copy (λ held. IsOnePoint held c → ⊥) →
        All (IsLineOfRun first done copy) old → All (IsLineOfRun first More copy) new
    of_forked None old new some adds apart all = absurd (some refl)
    of_forked (Some held) old new some adds apart all =
        of_added first More held c old new adds apart (listed_now done c c (record { size_is = refl; root_is = refl; note_is = refl }))
        (of_still first done c (Some held) (Some held) old old refl refl all)

    of_turned : (run next : Run) (t : Outcome) → HasTakenRun digest first done run → IsNextOf done c →
        KnowsAfter c t run.copy next.copy → IsAdded c t run next → SaysTurn digest run.copy c t →
        ShowsTurn digest run.copy c t → All (IsLineOfRun first More next.copy) next.forks.items
    of_turned run next turn.Agrees h is knows (forks, lacked) says shows =
        of_still first done c run.copy next.copy run.forks.items next.forks.items knows (ap (λ v. v.items) forks) h.of_copy
    of_turned run next turn.Brought h is knows (forks, lacked) says shows =
        subst (λ x. All (IsLineOfRun first More x) next.forks.items) (sym knows.is)
        (subst (All (IsLineOfRun first More (Some knows.now))) (sym (ap (λ v. v.items) forks))
        (of_brought first done c knows.now knows.same is run.copy says h.taken.one_of run.forks.items h.of_copy))
    of_turned run next (turn.Forks proof) h is knows (forks, adds, lacked) says shows =
        subst (λ x. All (IsLineOfRun first More x) next.forks.items) (sym knows)
        (of_forked run.copy run.forks.items next.forks.items says adds (apart_from run.copy proof shows) h.of_copy)
    of_turned run next turn.Contradicts h is knows (forks, lacked) says shows =
        of_still first done c run.copy next.copy run.forks.items next.forks.items knows (ap (λ v. v.items) forks) h.of_copy
    of_turned run next (turn.NotHad fault) h is knows (forks, lacked) says shows =
        of_still first done c run.copy next.copy run.forks.items next.forks.items knows (ap (λ v. v.items) forks) h.of_copy

    listed_turned : (run next : Run) (t : Outcome) → HasTakenRun digest first done run → IsAdded c t run next →
        All (IsListed More) next.not_had.items
    listed_turned run next turn.Agrees h (forks, lacked) =
        still_listed run.not_had.items next.not_had.items (ap (λ v. v.items) lacked) h.listed
    listed_turned run next turn.Brought h (forks, lacked) =
        still_listed run.not_had.items next.not_had.items (ap (λ v. v.items) lacked) h.listed
    listed_turned run next (turn.Forks proof) h (forks, adds, lacked) =
        still_listed run.not_had.items next.not_had.items (ap (λ v. v.items) lacked) h.listed
    listed_turned run next turn.Contradicts h (forks, lacked) =
        one_listed run.not_had.items next.not_had.items lacked h.listed
    listed_turned run next (turn.NotHad fault) h (forks, lacked) =
        one_listed run.not_had.items next.not_had.items lacked h.listed

    pub taken_turn : (run next : Run) (t : Outcome) → HasTakenRun digest first done run → IsNextOf done c →
        KnowsAfter c t run.copy next.copy → IsAdded c t run next → SaysTurn digest run.copy c t →
        ShowsTurn digest run.copy c t → HasTakenRun digest first More next
    taken_turn run next t h is knows added says shows = record {
      taken = turned run next t h.taken is knows added says shows;
      lines = lines_turned run next t h added says shows;
      of_copy = of_turned run next t h is knows added says shows;
      listed = listed_turned run next t h added;
    }

-- a copy that is brought to a larger candidate
pub larger_above : (copy : Option Candidate) (c : Candidate) → IsLargerThan copy c → IsAbove copy c
larger_above None c lt = tt
larger_above (Some held) c lt = inl lt

-- the facts after a turn, with the copy of the run
module _ (digest : List ℕ → List ℕ) {E : Type 0} (r : Result Outcome E) (copy : Option Candidate) (c held : Candidate)
    (is : copy ≡ Some held) where
  pub says_held : IfOk r (SaysTurn digest (Some held) c) → IfOk r (SaysTurn digest copy c)
  says_held h = subst (λ o. IfOk r (SaysTurn digest o c)) (sym is) h

  pub says_noted : IsNoted (Some held) c → IfOk r (λ t. IsNoted (Some held) c → SaysTurn digest (Some held) c t) →
      IfOk r (SaysTurn digest copy c)
  says_noted noted h = says_held (so r h)
    where
      so : (r : Result Outcome E) → IfOk r (λ t. IsNoted (Some held) c → SaysTurn digest (Some held) c t) →
          IfOk r (SaysTurn digest (Some held) c)
      so (Ok t) h = h noted
      so (Err e) h = tt

module _ (digest : List ℕ → List ℕ) (first : Option Candidate) where
  -- the run before its first turn
  pub taken_begin : (run : Run) → run.copy ≡ first → run.forks.items ≡ [] → run.not_had.items ≡ [] →
      HasTakenRun digest first [] run
  taken_begin run is no_line none = record {
    taken = subst (λ o. HasTaken digest first [] o run.forks.items) (sym is)
        (taken_none digest first run.forks.items no_line);
    lines = lines_none first run.forks.items no_line;
    of_copy = subst (All (IsLineOfRun first [] run.copy)) (sym no_line) (All-nil (IsLineOfRun first [] run.copy));
    listed = subst (All (IsListed [])) (sym none) (All-nil (IsListed []));
  }

  module _ (cs : List Candidate) (rises : IsSorted turn_cmp cs) (i : ℕ) (lt : i < length cs) where
    more : (x : Candidate) → x ≡ get_or cs i x → take i cs ++ x ∷ [] ≡ take (i + 1) cs
    more x is = sym (take_more cs i x lt ∙ ap (λ (y : Candidate). take i cs ++ y ∷ []) (sym is))

    -- the turn of a candidate of a list
    pub taken_at : (x : Candidate) → x ≡ get_or cs i x → (IsRepeat cs i → ⊥) → (run next : Run) →
        (IsNextOf (take i cs) x → HasTakenRun digest first (take i cs) run →
        HasTakenRun digest first (take i cs ++ x ∷ []) next) → HasTakenRun digest first (take i cs) run →
        HasTakenRun digest first (take (i + 1) cs) next
    taken_at x is fresh run next f h =
        subst (λ l. HasTakenRun digest first l next) (more x is) (f (next_of cs rises i x lt is fresh) h)

    -- a candidate that repeats the one before it has no turn
    pub taken_repeat : IsRepeat cs i → (run : Run) → HasTakenRun digest first (take i cs) run →
        HasTakenRun digest first (take (i + 1) cs) run
    taken_repeat r run h =
        let x = element cs i lt in
        let a = again cs rises i x.0 lt x.1 r in
        subst (λ l. HasTakenRun digest first l run) (more x.0 x.1)
        (record {
          taken = taken_again digest first (take i cs) x.0 run.copy run.forks.items h.taken a.one a.listed a.same
              a.note;
          lines = lines_more first (take i cs) x.0 run.forks.items h.lines;
          of_copy = of_still first (take i cs) x.0 run.copy run.copy run.forks.items run.forks.items refl refl h.of_copy;
          listed = all_listed digest first (take i cs) x.0 run.not_had.items h.listed;
        })

  -- after all turns
  pub taken_all : (cs : List Candidate) (i : ℕ) (run : Run) → length cs ≤ i → HasTakenRun digest first (take i cs) run →
      HasTakenRun digest first cs run
  taken_all cs i run le h = subst (λ l. HasTakenRun digest first l run) (take_all i cs le) h

-- a call that runs the turn of a candidate of a list
pub turn_ok : (digest : List ℕ → List ℕ) {T E : Type 0} (r : Result T E) (cs : List Candidate) (i : ℕ) → i < length cs →
    (x : Candidate) → x ≡ get_or cs i x → (IsRepeat cs i → ⊥) → (run next : Run) →
    OnOk r ((first : Option Candidate) (done : List Candidate) → IsNextOf done x → HasTakenRun digest first done run →
    HasTakenRun digest first (done ++ x ∷ []) next) →
    OnOk r ((first : Option Candidate) → IsSorted turn_cmp cs → HasTakenRun digest first (take i cs) run →
    HasTakenRun digest first (take (i + 1) cs) next)
turn_ok digest (Ok t) cs i lt x is fresh run next h =
    λ first rises taken. taken_at digest first cs rises i lt x is fresh run next (λ n k. h first (take i cs) n k) taken
turn_ok digest (Err e) cs i lt x is fresh run next h = tt
