-- Fork lines: their order and their checkpoints.
use Rattle.std.proofs.Common.{Result, Ok, Err, IfOk, zero, suc, ◌≡◌, inl, inr, ℕ, ◌<◌, ◌≤◌, List, [], ◌∷◌, ◌++◌, length, get_or, take, drop, All, Option, Some, None, refl, sym, ap, subst, ◌∙◌, arith, Ordering, Less, Equal, Greater, nat_cmp}
use Rattle.std.specs.Cmp.{IsTotalOrder, then_total, on_total, nat_cmp_total}
use Rattle.std.specs.Cmp.Lexicographic.{slice_cmp, nat_list_cmp_total}
use Rattle.std.specs.FinSet.{nat_cmp-IsAntisymmetric, slice_cmp-IsAntisymmetric}
use Rattle.std.specs.List.{AllByRecursion, insert}
use Rattle.std.specs.List.Sorted.{IsStrictlySortedBy}
use Rattle.std.specs.Ordering.{ordering_reverse, ordering_then}
use Rattle.std.proofs.lemmas.List.Elements.{All-append, All-cons, All-drop, All-nil, All-take, All-weaker, Contains-append_left, Contains-push}
use Rattle.tlog_proof.specs.declared.proof.Proof.{Proof}
use Rattle.mirror_model.specs.Forks.{point_cmp}
use Rattle.copy_places.specs.Adding.{AddsFork, AddsLine, IsForkLine, IsPlaceOf}
use Rattle.copy_places.specs.Lines.{AreLines, HasCandidate, HasLineOf, HasSmallFirst, IsFirst, IsFirstOrListed, IsListed, fork_line_cmp}
use Rattle.copy_places.specs.Candidates.{IsOnePoint, IsSame, point_of}
use Rattle.copy_places.specs.Shown.{IsLine}
use Rattle.copy_places.specs.declared.candidate.Candidate.{Candidate}
use Rattle.copy_places.specs.declared.fork_line.ForkLine.{ForkLine}

-- ---- the order of checkpoints

-- the order of two candidates by size and root
abbrev pub by_point : Candidate → Candidate → Ordering
by_point a b = point_cmp (point_of a) (point_of b)

point_total : IsTotalOrder by_point
point_total =
    then_total (on_total (λ (c : Candidate). c.size.0) nat_cmp_total) (on_total (λ (c : Candidate). c.root) nat_list_cmp_total)

line_total : IsTotalOrder fork_line_cmp
line_total =
    then_total (on_total (λ (l : ForkLine). l.small) point_total) (on_total (λ (l : ForkLine). l.large) point_total)

tied_then : (o r : Ordering) → ordering_then o r ≡ Equal → (o ≡ Equal) × (r ≡ Equal)
tied_then Less r e = absurd (cc e)
tied_then Equal r e = (refl, e)
tied_then Greater r e = absurd (cc e)

tied_points : (a b : Candidate) → by_point a b ≡ Equal → IsOnePoint a b
tied_points a b e =
    let t = tied_then (nat_cmp a.size.0 b.size.0) (slice_cmp nat_cmp a.root b.root) e in (
      nat_cmp-IsAntisymmetric a.size.0 b.size.0 t.0,
      slice_cmp-IsAntisymmetric nat_cmp-IsAntisymmetric a.root b.root t.1,
    )

-- one of two checkpoints at different points comes first
other_first : (a b : Candidate) (o : Ordering) → by_point a b ≡ o → (o ≡ Less → ⊥) → (IsOnePoint a b → ⊥) → by_point b a ≡ Less
other_first a b Less e more apart = absurd (more refl)
other_first a b Equal e more apart = absurd (apart (tied_points a b e))
other_first a b Greater e more apart = point_total.antisymm b a ∙ ap ordering_reverse e

same_point : (a b : Candidate) → IsSame a b → point_of a ≡ point_of b
same_point a b s = λ i. record { size = sym s.size_is i; root = sym s.root_is i }

line_first : (a b : Candidate) (line : ForkLine) → IsSame a line.small → IsSame b line.large → by_point a b ≡ Less →
    HasSmallFirst line
line_first a b line s l e =
    subst (λ p. point_cmp p (point_of line.large) ≡ Less) (same_point a line.small s)
    (subst (λ p. point_cmp (point_of a) p ≡ Less) (same_point b line.large l) e)

pub line_turned : (a b : Candidate) (line : ForkLine) → IsSame b line.small → IsSame a line.large →
    ¬ (by_point a b ≡ Less) → IsForkLine a b line
line_turned a b line s l more = record {
  both = inr (s, l);
  small_first = λ apart. line_first b a line s l (other_first a b (by_point a b) refl more apart);
}

pub line_of_other : {E : Type 0} (a b : Candidate) (proof : Option Proof) (r : Result ForkLine E) →
    ¬ (by_point a b ≡ Less) → IfOk r (IsLine b a proof) → IfOk r (IsForkLine a b)
line_of_other a b proof (Ok line) more is = line_turned a b line is.small_is is.large_is more
line_of_other a b proof (Err e) more is = tt

-- ---- a line is put at its index

-- a line of the same two points
pub line_there : (lines : List ForkLine) (line : ForkLine) (i : ℕ) (there : ForkLine) → i < length lines →
    there ≡ get_or lines i there → fork_line_cmp line there ≡ Equal → HasLineOf lines line
line_there lines line i there lt is e =
    let t = tied_then (by_point line.small there.small) (by_point line.large there.large) e in record {
      same = there;
      listed = (i, lt, sym is);
      small_is = tied_points line.small there.small t.0;
      large_is = tied_points line.large there.large t.1;
    }

module _ (line : ForkLine) where
  all_insert : (P : ForkLine → Type 0) (xs : List ForkLine) (at : ℕ) → AllByRecursion P xs → P line →
      AllByRecursion P (insert xs at line)
  all_insert P [] zero a p = (p, tt)
  all_insert P [] (suc n) a p = (p, tt)
  all_insert P (x ∷ xs) zero a p = (p, a)
  all_insert P (x ∷ xs) (suc n) a p = (a.0, all_insert P xs n a.1 p)

  all_after : (x : ForkLine) → fork_line_cmp line x ≡ Less → (xs : List ForkLine) →
      AllByRecursion (λ y. fork_line_cmp x y ≡ Less) xs → AllByRecursion (λ y. fork_line_cmp line y ≡ Less) xs
  all_after x less [] a = tt
  all_after x less (y ∷ ys) a = (line_total.trans line x y less a.0, all_after x less ys a.1)

  place_after : (x : ForkLine) (xs : List ForkLine) (n : ℕ) → IsPlaceOf line (x ∷ xs) (suc n) → IsPlaceOf line xs n
  place_after x xs n p = record {
    within = let w : suc n ≤ suc (length xs) = p.within in omega (arith, w);
    after = λ k none lt. p.after (suc k) none (omega (arith, lt));
    before = λ none lt. p.before none (omega (arith, lt));
  }

  sorted_insert : (xs : List ForkLine) (at : ℕ) → IsStrictlySortedBy fork_line_cmp xs → IsPlaceOf line xs at →
      IsStrictlySortedBy fork_line_cmp (insert xs at line)
  unfolding IsStrictlySortedBy
  sorted_insert [] zero s p = (tt, tt)
  sorted_insert [] (suc n) s p = let w : suc n ≤ 0 = p.within in absurd (omega (arith, w))
  sorted_insert (x ∷ xs) zero s p =
      let less : fork_line_cmp line x ≡ Less = p.before line (omega arith) in ((less, all_after x less xs s.0), s)
  sorted_insert (x ∷ xs) (suc n) s p =
      let more : fork_line_cmp line x ≡ Greater = p.after 0 line (omega arith) in
      let less : fork_line_cmp x line ≡ Less = line_total.antisymm x line ∙ ap ordering_reverse more in
      (all_insert (λ y. fork_line_cmp x y ≡ Less) xs n s.0 less, sorted_insert xs n s.1 (place_after x xs n p))

  pub adds_at : (old new : List ForkLine) (at : ℕ) → IsPlaceOf line old at → new ≡ insert old at line →
      AddsLine line old new
  adds_at old new at p e = record {
    among = inr (at, e);
    sorted = λ s. subst (IsStrictlySortedBy fork_line_cmp) (sym e) (sorted_insert old at s p);
  }

  pub adds_none : (lines : List ForkLine) → AddsLine line lines lines
  adds_none lines = record { among = inl refl; sorted = λ s. s }

sorted_none : IsStrictlySortedBy fork_line_cmp []
unfolding IsStrictlySortedBy
sorted_none = tt

-- ---- the checkpoints of the lines

same_then : (a b c : Candidate) → IsSame a b → IsSame b c → IsSame a c
same_then a b c p q = record {
  size_is = q.size_is ∙ p.size_is;
  root_is = q.root_is ∙ p.root_is;
  note_is = q.note_is ∙ p.note_is;
}

pub listed_as : (done : List Candidate) (a b : Candidate) → IsListed done a → IsSame a b → IsListed done b
listed_as done a b (one, among, same) s = (one, among, same_then one a b same s)

pub listed_now : (done : List Candidate) (c b : Candidate) → IsSame c b → IsListed (done ++ c ∷ []) b
listed_now done c b s = (c, Contains-push done c, s)

pub listed_more : (done : List Candidate) (c b : Candidate) → IsListed done b → IsListed (done ++ c ∷ []) b
listed_more done c b (one, among, same) = (one, Contains-append_left done (c ∷ []) one among, same)

first_as : (first : Option Candidate) (a b : Candidate) → IsFirst first a → IsSame a b → IsFirst first b
first_as None a b p s = p
first_as (Some f) a b p s = same_then f a b p s

module _ (first : Option Candidate) where
  known_as : (done : List Candidate) (a b : Candidate) → IsFirstOrListed first done a → IsSame a b →
      IsFirstOrListed first done b
  known_as done a b (inl p) s = inl (first_as first a b p s)
  known_as done a b (inr p) s = inr (listed_as done a b p s)

  pub known_more : (done : List Candidate) (c b : Candidate) → IsFirstOrListed first done b →
      IsFirstOrListed first (done ++ c ∷ []) b
  known_more done c b (inl p) = inl p
  known_more done c b (inr p) = inr (listed_more done c b p)

  has_more : (done : List Candidate) (c : Candidate) (line : ForkLine) → HasCandidate first done line →
      HasCandidate first (done ++ c ∷ []) line
  has_more done c line (inl p) = inl (listed_more done c line.small p.0, known_more done c line.large p.1)
  has_more done c line (inr p) = inr (listed_more done c line.large p.0, known_more done c line.small p.1)

  -- no lines
  pub lines_none : (lines : List ForkLine) → lines ≡ [] → AreLines first [] lines
  lines_none lines e = subst (AreLines first []) (sym e) (record {
    each = All-nil (HasCandidate first []);
    small_first = All-nil HasSmallFirst;
    sorted = sorted_none;
  })

  -- after one more candidate
  pub lines_more : (done : List Candidate) (c : Candidate) (lines : List ForkLine) → AreLines first done lines →
      AreLines first (done ++ c ∷ []) lines
  lines_more done c lines l = record {
    each = All-weaker (HasCandidate first done) (HasCandidate first (done ++ c ∷ [])) (has_more done c) lines l.each;
    small_first = l.small_first;
    sorted = l.sorted;
  }

  all_added : (P : ForkLine → Type 0) (line : ForkLine) (old new : List ForkLine) → AddsLine line old new → P line →
      All P old → All P new
  all_added P line old new a p all = elim a.among [
    | inl e ↦ subst (All P) (sym e) all
    | inr (at, e) ↦ subst (All P) (sym e)
        (All-append P (take at old) (line ∷ drop at old) (All-take P at old all)
        (All-cons P line (drop at old) p (All-drop P at old all)))
  ]

  line_has : (done : List Candidate) (a b : Candidate) (line : ForkLine) → IsForkLine a b line →
      IsFirstOrListed first done a → IsListed done b → HasCandidate first done line
  line_has done a b line f p q = elim f.both [
    | inl s ↦ inr (listed_as done b line.large q s.1, known_as done a line.small p s.0)
    | inr s ↦ inl (listed_as done b line.small q s.0, known_as done a line.large p s.1)
  ]

  -- a line of a candidate is added, with the copy or with another candidate
  pub lines_added : (done : List Candidate) (a b : Candidate) (old new : List ForkLine) → AddsFork a b old new →
      (IsOnePoint a b → ⊥) → IsFirstOrListed first done a → IsListed done b → AreLines first done old →
      AreLines first done new
  lines_added done a b old new f apart p q l = record {
    each = all_added (HasCandidate first done) f.line old new f.adds (line_has done a b f.line f.is p q) l.each;
    small_first = all_added HasSmallFirst f.line old new f.adds (f.is.small_first apart) l.small_first;
    sorted = f.adds.sorted l.sorted;
  }
