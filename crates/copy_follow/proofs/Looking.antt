-- Candidates that are looked at once more, after the copy has grown.
use Rattle.std.proofs.Common.{◌≡◌, inl, inr, ℕ, List, [], ◌∷◌, length, get_or, All, Contains, Option, Some, None, IfErr, IfOk, IfSome, OnOk, Result, Ok, Err, refl, sym, ap, subst, ◌∙◌}
use Rattle.std.specs.Prelude.{⊤}
use Rattle.std.proofs.lemmas.List.Elements.{All-cons, All-contains, All-head, All-nil}
use Rattle.tlog_proof.specs.declared.proof.Proof.{Proof}
use Rattle.tlog_tiles.specs.declared.paths.Path.{Path}
use Rattle.mirror_folders.specs.Shelf.{Put}
use Rattle.copy_places.specs.PlaceGets.{IsAskedFor}
use Rattle.copy_places.specs.declared.place.Place.{Place}
use Rattle.copy_places.specs.declared.places.Places.{Places}
use Rattle.copy_places.specs.Adding.{AddsFork}
use Rattle.copy_places.specs.Candidates.{IsOnePoint}
use Rattle.copy_places.specs.Lines.{IsFirstOrListed, IsListed, KeepsLines}
use Rattle.copy_places.specs.Requests.{AsksAny, PlaceFails}
use Rattle.copy_places.specs.Shown.{AreFork, ShowsEach}
use Rattle.copy_places.specs.declared.candidate.Candidate.{Candidate}
use Rattle.copy_places.specs.declared.fork_line.ForkLine.{ForkLine}
use Rattle.copy_places.proofs.LineLists.{kept_itself, kept_then}
use Rattle.copy_places.proofs.Lines.{lines_added}
use Rattle.copy_places.proofs.Points.{one_back}
use Rattle.copy_places.proofs.Requests.{any_same, fails_then}
use Rattle.copy_follow.specs.Looking.{AddsForks, LooksOn}
use Rattle.copy_follow.specs.Taken.{WasPut}
use Rattle.mirror_sources.specs.Recorded.{KeepsRecord}
use Rattle.copy_follow.specs.Ending.{EndsRun}
use Rattle.copy_follow.specs.OneHonestRun.{HasReached, HasSize, IsHonestFirst, IsHonestListed, IsOfShelfOrMemory, TurnsReach}
use Rattle.copy_follow.specs.RunStanding.{IsCopyOfRun, IsHeadOf}
use Rattle.copy_follow.specs.TurnsTaken.{HasTaken, HasTakenRun, IsLineOfRun, IsOneOf}
use Rattle.copy_follow.specs.Turning.{IsRunFrom, ShowsTurn}
use Rattle.copy_follow.specs.declared.follow_fault.FollowFault.{FollowFault}
use Rattle.copy_follow.specs.declared.follow_fault.FollowFault.TheVariants as fault
use Rattle.copy_follow.specs.declared.run.Run.{Run}
use Rattle.copy_follow.specs.declared.run.Outcome.{Outcome}
use Rattle.copy_follow.specs.declared.run.Outcome.TheVariants as turn
use Rattle.copy_follow.proofs.Looked.{known_later}
use Rattle.copy_follow.proofs.OneHonestRun.{honest_part}
use Rattle.copy_follow.proofs.OfCopy.{of_added}
use Rattle.copy_follow.proofs.Taken.{fork_apart, taken_lines, within_added}

-- ---- the lines

module _ (digest : List ℕ → List ℕ) where
  pub adds_none : (copy : Option Candidate) (some : List Candidate) (lines : List ForkLine) →
      AddsForks digest copy some lines lines
  adds_none copy some lines = record {
    shows = λ each. each;
    kept = kept_itself lines;
    within = λ all. all;
    are = λ first cs known listed l. l;
    of_copy = λ first cs listed all. all;
  }

  adds_now : (held c : Candidate) (proof : Option Proof) (old new : List ForkLine) → AreFork digest held c proof →
      (ShowsEach digest old → ShowsEach digest new) → KeepsLines old new → AddsFork held c old new →
      AddsForks digest (Some held) (c ∷ []) old new
  adds_now held c proof old new fork shows kept adds =
      let apart : IsOnePoint held c → ⊥ = λ one. fork_apart digest held c proof fork (one_back held c one) in
      record {
        shows = shows;
        kept = kept;
        within = λ all. within_added held c old new adds apart all;
        are = λ first cs known listed l.
            lines_added first cs held c old new adds apart known (All-head (IsListed cs) c [] listed) l;
        of_copy = λ first cs listed all. of_added first cs held c old new adds apart (All-head (IsListed cs) c [] listed) all;
      }

  pub adds_then : (held : Candidate) (all : List Candidate) (x : Candidate) (old mid new : List ForkLine) → Contains all x →
      AddsForks digest (Some held) all old mid → AddsForks digest (Some held) (x ∷ []) mid new →
      AddsForks digest (Some held) all old new
  adds_then held all x old mid new among p q = record {
    shows = λ each. q.shows (p.shows each);
    kept = kept_then old mid new p.kept q.kept;
    within = λ w. q.within (p.within w);
    are = λ first cs known listed l.
        q.are first cs known
        (All-cons (IsListed cs) x [] (All-contains (IsListed cs) all x listed among) (All-nil (IsListed cs)))
        (p.are first cs known listed l);
    of_copy = λ first cs listed l.
        q.of_copy first cs
        (All-cons (IsListed cs) x [] (All-contains (IsListed cs) all x listed among) (All-nil (IsListed cs)))
        (p.of_copy first cs listed l);
  }

  pub adds_held : {T E : Type 0} (r : Result T E) (copy : Option Candidate) (held : Candidate) (all : List Candidate)
      (old new : List ForkLine) → copy ≡ Some held → OnOk r (AddsForks digest (Some held) all old new) →
      OnOk r (AddsForks digest copy all old new)
  adds_held (Ok t) copy held all old new is h = subst (λ o. AddsForks digest o all old new) (sym is) h
  adds_held (Err e) copy held all old new is h = tt

  -- the run looks on
  pub looks_on : (run next : Run) → next.copy ≡ run.copy → next.had ≡ run.had → next.first_fault ≡ run.first_fault →
      next.not_had.items ≡ run.not_had.items →
      AddsForks digest run.copy run.not_had.items run.forks.items next.forks.items → LooksOn digest run next
  looks_on run next copy had fault lacked a = record {
    copy_is = copy;
    had_is = had;
    fault_is = fault;
    shows = a.shows;
    taken = λ first done h. record {
      taken = subst (λ o. HasTaken digest first done o next.forks.items) (sym copy)
          (taken_lines digest first done run.copy run.forks.items next.forks.items h.taken a.kept (a.within h.taken.within));
      lines = a.are first done (known first done run.copy h.taken.one_of) h.listed h.lines;
      of_copy = subst (λ o. All (IsLineOfRun first done o) next.forks.items) (sym copy) (a.of_copy first done h.listed h.of_copy);
      listed = subst (All (IsListed done)) (sym lacked) h.listed;
    };
  }
    where
      known : (first : Option Candidate) (done : List Candidate) (copy : Option Candidate) → IsOneOf first done copy →
          IfSome copy (IsFirstOrListed first done)
      known first done None o = tt
      known first done (Some held) o = o

pub adds_fork : {T E : Type 0} (r : Result T E) (held c : Candidate) (t : Outcome) (proof : Option Proof)
    (old new : List ForkLine) → t ≡ turn.Forks proof →
    OnOk r ((digest : List ℕ → List ℕ) → AreFork digest held c proof → ShowsEach digest old → ShowsEach digest new) →
    OnOk r (KeepsLines old new) → OnOk r (AddsFork held c old new) →
    OnOk r ((digest : List ℕ → List ℕ) → ShowsTurn digest (Some held) c t →
    AddsForks digest (Some held) (c ∷ []) old new)
adds_fork (Ok u) held c t proof old new is shows kept adds = λ digest s.
    let fork : AreFork digest held c proof = subst (ShowsTurn digest (Some held) c) is s in
    adds_now digest held c proof old new fork (shows digest fork) kept adds
adds_fork (Err e) held c t proof old new is shows kept adds = tt

-- ---- the places

-- a call that ends without a fault of the copy ends since the shelf failed, or memory was refused
shelf_or_memory : (e : FollowFault) → EndsRun ⊥ ⊥ e → IsOfShelfOrMemory e
shelf_or_memory fault.NoCheckpoint h = absurd h
shelf_or_memory (fault.Head f) h = absurd h
shelf_or_memory fault.CopyDamaged h = absurd h
shelf_or_memory fault.CopyInUse h = absurd h
shelf_or_memory fault.ShelfFault h = inl refl
shelf_or_memory fault.Contradiction h = absurd h
shelf_or_memory fault.Collision h = absurd h
shelf_or_memory fault.NoFile h = absurd h
shelf_or_memory fault.Source h = absurd h
shelf_or_memory fault.OutOfMemory h = inr refl

module _ {S : Type 0} (may : S → Path → Option (List ℕ) → Type 0) (failed : S → ℕ) (asked : S → Option (List Path)) where
  -- a call that asks no place, and then one that asks some
  pub asks_then : (x y z : Places S) → y.list.items ≡ x.list.items → AsksAny may failed asked y z →
      AsksAny may failed asked x z
  asks_then x y z e p = record {
    count = p.count ∙ ap length e;
    each = λ k d. subst (λ (xs : List (Place S)). IsAskedFor may failed asked (λ path. ⊤) (get_or xs k d)
        (get_or z.list.items k d)) e (p.each k d);
  }

  -- what is honest in two calls is honest in the first
  first_sooner : (digest : List ℕ → List ℕ) (puts : Option (List Put)) (x y z : Places S) (origin : List ℕ)
      (copy : Option Candidate) (cs : List Candidate) → AsksAny may failed asked x y → AsksAny may failed asked y z →
      IsHonestFirst digest may puts x z origin copy cs → IsHonestFirst digest may puts x y origin copy cs
  first_sooner digest puts x y z origin copy cs p q h = record {
    entries = h.entries;
    first = h.first;
    others = h.others;
    candidates_are = h.candidates_are;
    honest = honest_part may failed asked x x y z (any_same may failed asked x) p q puts puts (λ path bytes put. put) digest
        h.entries h.first.size.0 h.first.root h.honest;
    holds = h.holds;
    known = h.known;
  }

  -- "mid" are the puts before the second call, and "last" those after it
  listed_sooner : (digest : List ℕ → List ℕ) (mid last held : Option (List Put)) (x y z : Places S) (origin : List ℕ)
      (copy : Option Candidate) (cs : List Candidate) → AsksAny may failed asked x y → AsksAny may failed asked y z →
      ((path : Path) (bytes : List ℕ) → WasPut mid path bytes → WasPut last path bytes) →
      IsHonestListed digest may last x z origin held copy cs → IsHonestListed digest may mid x y origin held copy cs
  listed_sooner digest mid last held x y z origin copy cs p q put h = record {
    entries = h.entries;
    candidate = h.candidate;
    listed = h.listed;
    honest = honest_part may failed asked x x y z (any_same may failed asked x) p q mid last put digest
        h.entries h.candidate.size.0 h.candidate.root h.honest;
    holds = h.holds;
    had = h.had;
    known = h.known;
  }

  -- ---- the clauses of all turns

  module _ (digest : List ℕ → List ℕ) (run : Run) (r : Result Run FollowFault) (looks : IfOk r (LooksOn digest run))
      (ends : IfErr r (EndsRun ⊥ ⊥)) where
    pub run_on : (origin : List ℕ) (a b last : Option (List Put)) (copy : Option Candidate) → KeepsRecord b last →
        IsRunFrom digest origin a b copy run → IfOk r (IsRunFrom digest origin a last copy)
    run_on origin a b last copy kept h = go r looks
      where
        go : (r : Result Run FollowFault) → IfOk r (LooksOn digest run) → IfOk r (IsRunFrom digest origin a last copy)
        go (Ok next) l = record {
          known = λ first k. subst (λ o. IsCopyOfRun digest origin first last o) (sym l.copy_is)
              (known_later digest origin first b last run.copy (h.known first k) kept);
          head = subst (λ o. IfSome o (IsHeadOf origin)) (sym l.copy_is) h.head;
          had_is = l.had_is ∙ h.had_is;
          shows = l.shows h.shows;
        }
        go (Err e) l = tt

    pub source_on : (x y z : Places S) → AsksAny may failed asked y z →
        (run.first_fault ≡ Some fault.Source → PlaceFails x y) →
        IfOk r (λ next. next.first_fault ≡ Some fault.Source → PlaceFails x z)
    source_on x y z q fails = go r looks
      where
        go : (r : Result Run FollowFault) → IfOk r (LooksOn digest run) →
            IfOk r (λ next. next.first_fault ≡ Some fault.Source → PlaceFails x z)
        go (Ok next) l = λ e. fails_then may failed asked x y z (fails (sym l.fault_is ∙ e)) q
        go (Err e) l = tt

    pub taken_on : (P : Type 0) (first : Option Candidate) (cs : List Candidate) →
        (P → HasTakenRun digest first cs run) → IfOk r (λ next. P → HasTakenRun digest first cs next)
    taken_on P first cs h = go r looks
      where
        go : (r : Result Run FollowFault) → IfOk r (LooksOn digest run) →
            IfOk r (λ next. P → HasTakenRun digest first cs next)
        go (Ok next) l = λ p. l.taken first cs (h p)
        go (Err e) l = tt

    pub reaches_on : (read : Option Candidate) (c : Candidate) → HasReached read c run.copy → TurnsReach read c r
    reaches_on read c h = go r looks ends
      where
        go : (r : Result Run FollowFault) → IfOk r (LooksOn digest run) → IfErr r (EndsRun ⊥ ⊥) → TurnsReach read c r
        go (Ok next) l is = subst (HasReached read c) (sym l.copy_is) h
        go (Err e) l is = shelf_or_memory e is

    pub first_on : (puts : Option (List Put)) (x y z : Places S) (origin : List ℕ) (copy : Option Candidate)
        (cs : List Candidate) → AsksAny may failed asked x y → AsksAny may failed asked y z →
        ((h : IsHonestFirst digest may puts x y origin copy cs) → HasReached copy h.first run.copy) →
        (h : IsHonestFirst digest may puts x z origin copy cs) → TurnsReach copy h.first r
    unfolding first_sooner
    first_on puts x y z origin copy cs p q f h =
        reaches_on copy h.first (f (first_sooner digest puts x y z origin copy cs p q h))

    pub passes_on : (P : Type 0) (mid last held : Option (List Put)) (x y z : Places S) (origin : List ℕ)
        (copy : Option Candidate) (cs : List Candidate) → AsksAny may failed asked x y → AsksAny may failed asked y z →
        ((h : IsHonestListed digest may last x z origin held copy cs) (path : Path) (bytes : List ℕ) → WasPut mid path bytes →
        WasPut last path bytes) →
        (P → (h : IsHonestListed digest may mid x y origin held copy cs) → HasSize h.candidate.size.0 run.copy) →
        IfOk r (λ next. P → (h : IsHonestListed digest may last x z origin held copy cs) → HasSize h.candidate.size.0 next.copy)
    unfolding listed_sooner
    passes_on P mid last held x y z origin copy cs p q put f = go r looks
      where
        go : (r : Result Run FollowFault) → IfOk r (LooksOn digest run) →
            IfOk r (λ next. P → (h : IsHonestListed digest may last x z origin held copy cs) →
            HasSize h.candidate.size.0 next.copy)
        go (Ok next) l = λ prem h.
            subst (HasSize h.candidate.size.0) (sym l.copy_is)
            (f prem (listed_sooner digest mid last held x y z origin copy cs p q (put h) h))
        go (Err e) l = tt
