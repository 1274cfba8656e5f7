-- The lines of the turns: each is of a candidate and the copy of the run, or the first copy.
use Rattle.std.proofs.Common.{◌≡◌, ◌⊎◌, inl, inr, ℕ, ◌<◌, ◌≤◌, List, [], ◌∷◌, ◌++◌, All, take, drop, Option, Some, None, refl, sym, subst, ◌∙◌, arith, Ordering, Less, Greater, nat_cmp}
use Rattle.std.specs.Cmp.Lexicographic.{slice_cmp}
use Rattle.std.specs.Ordering.{ordering_then}
use Rattle.std.proofs.lemmas.Cmp.{by_ranked, ranked}
use Rattle.std.proofs.lemmas.List.Elements.{All-append, All-cons, All-contains, All-drop, All-take, All-weaker}
use Rattle.copy_places.specs.Adding.{AddsFork, AddsLine, IsForkLine}
use Rattle.copy_places.specs.Candidates.{IsOnePoint, IsSame}
use Rattle.copy_places.specs.Lines.{HasSmallFirst, IsFirst, IsFirstOrListed, IsListed}
use Rattle.copy_places.specs.declared.candidate.Candidate.{Candidate}
use Rattle.copy_places.specs.declared.fork_line.ForkLine.{ForkLine}
use Rattle.copy_places.proofs.Lines.{listed_as, listed_more}
use Rattle.copy_places.proofs.Points.{one_back, one_of_same, one_then}
use Rattle.copy_follow.specs.Rule.{IsLineOfCopy, OfFirst, OfLarger, OfSmaller, copy_point}
use Rattle.copy_follow.specs.TurnsTaken.{IsAbove, IsLineOfRun, IsNextOf, IsOneOf}

-- the smaller checkpoint of a line is not larger than the other
small_upto : (n m : ℕ) (r : Ordering) → ordering_then (nat_cmp n m) r ≡ Less → n ≤ m
small_upto n m r h =
    by_ranked (n < m) (n ≡ m) (m < n) (nat_cmp n m) (ranked n m (nat_cmp n m) refl) (λ e lt. omega (arith, lt))
    (λ e s. omega (arith, s)) (λ e gt. absurd (not_less (subst (λ o. ordering_then o r ≡ Less) e h)))
  where
    not_less : Greater ≡ Less → ⊥
    not_less e = absurd (cc e)

pub first_upto : (line : ForkLine) → HasSmallFirst line → line.small.size.0 ≤ line.large.size.0
first_upto line h =
    small_upto line.small.size.0 line.large.size.0 (slice_cmp nat_cmp line.small.root line.large.root) h

-- a line was added
pub all_added : (P : ForkLine → Type 0) (line : ForkLine) (old new : List ForkLine) → AddsLine line old new → P line →
    All P old → All P new
all_added P line old new a p all = elim a.among [
  | inl e ↦ subst (All P) (sym e) all
  | inr (at, e) ↦ subst (All P) (sym e)
      (All-append P (take at old) (line ∷ drop at old) (All-take P at old all)
      (All-cons P line (drop at old) p (All-drop P at old all)))
]

first_as : (first : Option Candidate) (a b : Candidate) → IsFirst first a → IsSame a b → IsFirst first b
first_as None a b p q = p
first_as (Some f) a b p q = record {
  size_is = q.size_is ∙ p.size_is;
  root_is = q.root_is ∙ p.root_is;
  note_is = q.note_is ∙ p.note_is;
}

module _ (first : Option Candidate) where
  abbrev Of : List Candidate → Option Candidate → ForkLine → Type 0
  Of done copy line = IsLineOfRun first done copy line

  -- a line of the copy and a candidate
  line_of : (done : List Candidate) (held c : Candidate) (line : ForkLine) → IsForkLine held c line →
      (IsOnePoint held c → ⊥) → IsListed done c → Of done (Some held) line
  line_of done held c line f apart listed = elim f.both [
    | inl s ↦
        let upto : line.small.size.0 ≤ line.large.size.0 = first_upto line (f.small_first apart) in
        let size : line.small.size.0 ≡ held.size.0 = s.0.size_is in
        inr (listed_as done c line.large listed s.1, inr s.0, omega (arith, size, upto))
    | inr s ↦
        let upto : line.small.size.0 ≤ line.large.size.0 = first_upto line (f.small_first apart) in
        let size : line.large.size.0 ≡ held.size.0 = s.1.size_is in
        inl (listed_as done c line.small listed s.0, one_of_same held line.large s.1, omega (arith, size, upto))
  ]

  pub of_added : (done : List Candidate) (held c : Candidate) (old new : List ForkLine) → AddsFork held c old new →
      (IsOnePoint held c → ⊥) → IsListed done c → All (Of done (Some held)) old → All (Of done (Some held)) new
  of_added done held c old new f apart listed all =
      all_added (Of done (Some held)) f.line old new f.adds (line_of done held c f.line f.is apart listed) all

  -- ---- one more candidate

  of_more : (done : List Candidate) (c : Candidate) (copy : Option Candidate) (line : ForkLine) → Of done copy line →
      Of (done ++ c ∷ []) copy line
  of_more done c None line h = h
  of_more done c (Some held) line (inl h) = inl (listed_more done c line.small h.0, h.1, h.2)
  of_more done c (Some held) line (inr h) = inr (listed_more done c line.large h.0, h.1, h.2)

  -- the copy stays
  pub of_still : (done : List Candidate) (c : Candidate) (copy copy' : Option Candidate) (old new : List ForkLine) →
      copy' ≡ copy → new ≡ old → All (Of done copy) old → All (Of (done ++ c ∷ []) copy') new
  of_still done c copy copy' old new a b all =
      subst (λ x. All (Of (done ++ c ∷ []) x) new) (sym a)
      (subst (All (Of (done ++ c ∷ []) copy)) (sym b)
      (All-weaker (Of done copy) (Of (done ++ c ∷ []) copy) (of_more done c copy) old all))

  module _ (done : List Candidate) (c now : Candidate) (is : IsSame c now) (next : IsNextOf done c) where
    -- a candidate that had its turn is not smaller
    turn_upto : (x : Candidate) → IsListed done x → c.size.0 ≤ x.size.0
    turn_upto x (one, among, same) =
        let upto : c.size.0 ≤ one.size.0 = All-contains (λ y. c.size.0 ≤ y.size.0) done one next.upto among in
        let size : x.size.0 ≡ one.size.0 = same.size_is in
        omega (arith, upto, size)

    -- the copy is no candidate that had its turn
    not_listed : (held : Candidate) → IsAbove (Some held) c → IsListed done held → ⊥
    not_listed held (inl lt) listed = let upto = turn_upto held listed in absurd (omega (arith, lt, upto))
    not_listed held (inr p) (one, among, same) =
        All-contains (λ y. IsOnePoint y c → ⊥) done one next.apart among
        (one_then one held c (one_of_same one held same) (one_back c held p.0))

    was_first : (held : Candidate) → IsAbove (Some held) c → IsFirstOrListed first done held → IsFirst first held
    was_first held above (inl f) = f
    was_first held above (inr listed) = absurd (not_listed held above listed)

    -- the copy is brought to the candidate
    line_brought : (held : Candidate) → IsAbove (Some held) c → IsFirst first held → (line : ForkLine) →
        Of done (Some held) line → Of done (Some now) line
    line_brought held (inl lt) f line (inl h) =
        let upto = turn_upto line.small h.0 in let small = h.2 in absurd (omega (arith, lt, upto, small))
    line_brought held (inr p) f line (inl h) =
        let size : now.size.0 ≡ c.size.0 = is.size_is in
        let same : c.size.0 ≡ held.size.0 = p.0.0 in
        let small : line.small.size.0 ≤ held.size.0 = h.2 in
        inl (
          h.0,
          one_then now c line.large (one_back c now (one_of_same c now is)) (one_then c held line.large p.0 h.1),
          omega (arith, size, same, small),
        )
    line_brought held above f line (inr h) =
        let size : now.size.0 ≡ c.size.0 = is.size_is in
        let upto = turn_upto line.large h.0 in
        inr (h.0, was h.1, omega (arith, size, upto))
      where
        was : IsFirst first line.small ⊎ IsSame held line.small → IsFirst first line.small ⊎ IsSame now line.small
        was (inl g) = inl g
        was (inr s) = inl (first_as first held line.small f s)

    pub of_brought : (copy : Option Candidate) → IsAbove copy c → IsOneOf first done copy → (lines : List ForkLine) →
        All (Of done copy) lines → All (Of (done ++ c ∷ []) (Some now)) lines
    of_brought None above one lines all =
        All-weaker (Of done None) (Of (done ++ c ∷ []) (Some now)) (λ line h. absurd h) lines all
    of_brought (Some held) above one lines all =
        All-weaker (Of done (Some held)) (Of (done ++ c ∷ []) (Some now))
        (λ line h. of_more done c (Some now) line (line_brought held above (was_first held above one) line h)) lines all

  -- ---- the answer

  pub of_end : (candidates : List Candidate) (copy : Option Candidate) (line : ForkLine) → Of candidates copy line →
      IsLineOfCopy first candidates (copy_point copy) line
  of_end candidates None line h = absurd h
  of_end candidates (Some held) line (inl h) = OfSmaller h.0 h.1
  of_end candidates (Some held) line (inr h) = elim h.1 [
    | inl f ↦ OfFirst h.0 f h.2
    | inr s ↦ OfLarger h.0 (one_of_same held line.small s)
  ]
