-- The order of the candidates' turns.
use Rattle.std.proofs.Common.{◌≡◌, ◌≢◌, inl, inr, ℕ, ◌-◌, ◌<◌, ◌≤◌, Bool, true, false, List, [], ◌∷◌, length, get_or, take, Some, refl, sym, ap, subst, ◌∙◌, arith, true≢false, length-take, Ordering, Less, Equal, Greater, nat_cmp, is_lt, is_gt}
use Rattle.std.specs.Cmp.{IsTotalOrder, then_total, on_total, back_total, nat_cmp_total, tied_itself}
use Rattle.std.specs.Cmp.Lexicographic.{slice_cmp, slice_partial_cmp, lists_agrees, nat_list_cmp_total}
use Rattle.std.specs.FinSet.{nat_cmp-IsAntisymmetric, slice_cmp-IsAntisymmetric}
use Rattle.std.specs.List.Sorted.{IsSorted}
use Rattle.std.specs.List.{Contains}
use Rattle.std.specs.Ordering.{is_some_and, ordering_reverse, ordering_then}
use Rattle.std.proofs.lemmas.Bool.{cases_lt}
use Rattle.std.proofs.lemmas.Cmp.{by_ranked, ranked, upto}
use Rattle.std.proofs.lemmas.List.{get_or_default, get_or-take}
use Rattle.std.proofs.lemmas.List.Elements.{Contains-get_or}
use Rattle.std.proofs.lemmas.List.Sorted.{ranks_by, sorted_far}
use Rattle.copy_places.specs.Candidates.{IsOnePoint, note_of, turn_cmp}
use Rattle.copy_places.specs.declared.candidate.Candidate.{Candidate}
use Rattle.copy_follow.specs.Rule.{IsLeastOf}
use Rattle.copy_follow.specs.Says.{IsNoteUpTo}
use Rattle.copy_follow.specs.TurnsTaken.{IsNextOf, IsRepeat}

turn_total : IsTotalOrder turn_cmp
turn_total =
    then_total (on_total (λ (c : Candidate). c.size.0) (back_total nat_cmp_total))
    (then_total (on_total (λ (c : Candidate). c.root) nat_list_cmp_total)
    (on_total (λ (c : Candidate). c.note.items) nat_list_cmp_total))

-- ---- notes

pub note_itself : (a : List ℕ) → IsNoteUpTo a a
note_itself a = ap is_gt (tied_itself nat_list_cmp_total a)

pub note_upto : (a b c : List ℕ) → IsNoteUpTo a b → IsNoteUpTo b c → IsNoteUpTo a c
note_upto a b c p q = upto nat_list_cmp_total a b c p q

turned : (o : Ordering) → is_gt (ordering_reverse o) ≡ is_lt o
turned Less = refl
turned Equal = refl
turned Greater = refl

-- if b is not less than a, a is not greater than b
not_greater : (a b : List ℕ) → is_lt (slice_cmp nat_cmp b a) ≡ false → is_gt (slice_cmp nat_cmp a b) ≡ false
not_greater a b h =
    ap is_gt (nat_list_cmp_total.antisymm a b) ∙ turned (slice_cmp nat_cmp b a) ∙ h

less_gt : (o : Ordering) → is_lt o ≡ true → is_gt o ≡ false
less_gt Less h = refl
less_gt Equal h = absurd (true≢false (sym h))
less_gt Greater h = absurd (true≢false (sym h))

-- the meaning of a test of two notes
pub note_less : (a b : List ℕ) → is_lt (slice_cmp nat_cmp a b) ≡ true → IsNoteUpTo a b
note_less a b h = less_gt (slice_cmp nat_cmp a b) h

pub note_other : (a b : List ℕ) → is_lt (slice_cmp nat_cmp a b) ≡ false → IsNoteUpTo b a
note_other a b h = not_greater b a h

pub note_test : (a b : List ℕ) (r : Bool) → r ≡ is_some_and is_lt (slice_partial_cmp (λ x y. Some (nat_cmp x y)) a b) →
    (r ≡ true → IsNoteUpTo a b) × (r ≡ false → IsNoteUpTo b a)
note_test a b r e =
    let s : r ≡ is_lt (slice_cmp nat_cmp a b) =
    e ∙ ap (is_some_and is_lt) (lists_agrees {R = nat_cmp} (λ x y. refl) a b) in
    (λ t. note_less a b (sym s ∙ t), λ f. note_other a b (sym s ∙ f))

-- ---- two candidates in order

then_first : (o r : Ordering) → is_lt (ordering_then o r) ≡ false → is_lt o ≡ false
then_first Less r h = h
then_first Equal r h = refl
then_first Greater r h = refl

then_tied : (o r : Ordering) → o ≡ Equal → is_lt (ordering_then o r) ≡ false → is_lt r ≡ false
then_tied o r e h = subst (λ p. is_lt (ordering_then p r) ≡ false) e h

size_upto : (n m : ℕ) → is_lt (nat_cmp n m) ≡ false → m ≤ n
size_upto n m h =
    by_ranked (n < m) (n ≡ m) (m < n) (nat_cmp n m) (ranked n m (nat_cmp n m) refl)
    (λ e lt. absurd (true≢false (ap is_lt (sym e) ∙ h))) (λ e s. omega (arith, s)) (λ e gt. omega (arith, gt))

pub tied_size : (n m : ℕ) → n ≡ m → nat_cmp n m ≡ Equal
tied_size n m e = subst (λ k. nat_cmp n k ≡ Equal) e (tied_itself nat_cmp_total n)

tied_list : (a b : List ℕ) → a ≡ b → slice_cmp nat_cmp b a ≡ Equal
tied_list a b e = subst (λ k. slice_cmp nat_cmp k a ≡ Equal) e (tied_itself nat_list_cmp_total a)

-- the first has its turn before the second
record IsBefore (a b : Candidate) : Type 0 where
  upto : b.size.0 ≤ a.size.0
  root : a.size.0 ≡ b.size.0 → is_gt (slice_cmp nat_cmp a.root b.root) ≡ false
  note : IsOnePoint a b → IsNoteUpTo (note_of a) (note_of b)

before : (a b : Candidate) → is_lt (turn_cmp b a) ≡ false → IsBefore a b
before a b h =
    let sizes : Ordering = nat_cmp a.size.0 b.size.0 in
    let roots : Ordering = slice_cmp nat_cmp b.root a.root in
    let notes : Ordering = slice_cmp nat_cmp b.note.items a.note.items in
    let same = λ (e : a.size.0 ≡ b.size.0). then_tied sizes (ordering_then roots notes) (tied_size a.size.0 b.size.0 e) h in
    record {
      upto = size_upto a.size.0 b.size.0 (then_first sizes (ordering_then roots notes) h);
      root = λ e. not_greater a.root b.root (then_first roots notes (same e));
      note = λ p. not_greater a.note.items b.note.items
          (then_tied roots notes (tied_list a.root b.root p.1) (same p.0));
    }

tied : (o : Ordering) → is_gt o ≡ false → is_gt (ordering_reverse o) ≡ false → o ≡ Equal
tied Less h g = absurd (true≢false g)
tied Equal h g = refl
tied Greater h g = absurd (true≢false h)

-- two roots, none of which is greater
pub root_tied : (a b : List ℕ) → is_gt (slice_cmp nat_cmp a b) ≡ false → is_gt (slice_cmp nat_cmp b a) ≡ false → a ≡ b
root_tied a b h g =
    slice_cmp-IsAntisymmetric nat_cmp-IsAntisymmetric a b
    (tied (slice_cmp nat_cmp a b) h (ap is_gt (sym (nat_list_cmp_total.antisymm b a)) ∙ g))

-- a root that comes before another one is not greater
pub root_first : (a b : List ℕ) → slice_cmp nat_cmp b a ≡ Less → is_gt (slice_cmp nat_cmp a b) ≡ false → ⊥
root_first a b less h =
    true≢false (sym (ap is_gt (nat_list_cmp_total.antisymm a b ∙ ap ordering_reverse less)) ∙ h)

-- a candidate between two of one size and root has this size and root
between : (a b c : Candidate) → IsBefore a b → IsBefore b c → IsOnePoint a c → IsOnePoint b c
between a b c p q e =
    let size : b.size.0 ≡ c.size.0 = omega (arith, p.upto, q.upto, e.0) in
    let first : a.size.0 ≡ b.size.0 = omega (arith, size, e.0) in
    let up : is_gt (slice_cmp nat_cmp c.root b.root) ≡ false =
    subst (λ r. is_gt (slice_cmp nat_cmp r b.root) ≡ false) e.1 (p.root first) in
    let down : is_gt (ordering_reverse (slice_cmp nat_cmp b.root c.root)) ≡ false =
    ap is_gt (sym (nat_list_cmp_total.antisymm c.root b.root)) ∙ up in (
      size,
      slice_cmp-IsAntisymmetric nat_cmp-IsAntisymmetric b.root c.root
          (tied (slice_cmp nat_cmp b.root c.root) (q.root size) down),
    )

-- ---- a list of candidates

module _ (cs : List Candidate) (rises : IsSorted turn_cmp cs) (i : ℕ) (c : Candidate) (lt : i < length cs)
    (is : c ≡ get_or cs i c) where
  far : (j k : ℕ) (d : Candidate) → j ≤ k → k < length cs → IsBefore (get_or cs j d) (get_or cs k d)
  far j k d le less =
      before (get_or cs j d) (get_or cs k d)
      (sorted_far (λ x y. is_lt (turn_cmp x y)) (ranks_by turn_total (λ (c : Candidate). c)) cs rises j k d le less)

  at : (d : Candidate) → get_or cs i d ≡ c
  at d = get_or_default cs i d c lt ∙ sym is

  -- an earlier candidate
  earlier : (k : ℕ) (d : Candidate) → k < i → IsBefore (get_or (take i cs) k d) c
  earlier k d less =
      subst (λ x. IsBefore x c) (sym (get_or-take i cs k d less))
      (subst (λ x. IsBefore (get_or cs k d) x) (at d) (far k i d (omega (arith, less)) lt))

  within : (k : ℕ) → k < length (take i cs) → k < i
  within k less = let n = length-take i cs in omega (arith, n, less)

  -- a candidate that does not repeat the one before it
  pub next_of : (IsRepeat cs i → ⊥) → IsNextOf (take i cs) c
  next_of fresh = record {
    upto = λ k d less. (earlier k d (within k less)).upto;
    apart = λ k d less same. fresh (repeats k d (within k less) same);
  }
    where
      repeats : (k : ℕ) (d : Candidate) → k < i → IsOnePoint (get_or (take i cs) k d) c → IsRepeat cs i
      repeats k d less same = (
        omega (arith, less),
        λ none.
            let inside : k < length cs = omega (arith, less, lt) in
            let one : IsOnePoint (get_or cs k none) (get_or cs i none) =
            subst (λ x. IsOnePoint x (get_or cs i none)) (get_or-take i cs k d less ∙ get_or_default cs k d none inside)
            (subst (λ x. IsOnePoint (get_or (take i cs) k d) x) (sym (at none)) same) in
            between (get_or cs k none) (get_or cs (i - 1) none) (get_or cs i none)
            (far k (i - 1) none (omega (arith, less)) (omega (arith, lt))) (far (i - 1) i none (omega arith) lt) one,
      )

  -- a candidate that repeats the one before it
  pub record IsAgain : Type 0 where
    pub one : Candidate
    pub listed : Contains (take i cs) one
    pub same : IsOnePoint one c
    pub note : IsNoteUpTo (note_of one) (note_of c)

  pub again : IsRepeat cs i → IsAgain
  again r =
      let some : 0 < i = r.0 in
      let less : i - 1 < i = omega (arith, some) in
      let inside : i - 1 < length (take i cs) = let n = length-take i cs in omega (arith, n, lt, some) in
      let one = get_or (take i cs) (i - 1) c in
      let same : IsOnePoint one c =
      subst (λ x. IsOnePoint x c) (sym (get_or-take i cs (i - 1) c less))
      (subst (λ x. IsOnePoint (get_or cs (i - 1) c) x) (at c) (r.1 c)) in
      record {
        one = one;
        listed = Contains-get_or (take i cs) (i - 1) c inside;
        same = same;
        note = (earlier (i - 1) c less).note same;
      }

-- the candidate at an index
pub element : (cs : List Candidate) (i : ℕ) → i < length cs → (x : Candidate) × (x ≡ get_or cs i x)
element [] i lt = absurd (omega (arith, lt))
element (y ∷ ys) i lt =
    let x = get_or (y ∷ ys) i y in (x, get_or_default (y ∷ ys) i y x lt)

-- no candidate is larger than the first
pub none_above : (cs : List Candidate) → IsSorted turn_cmp cs → (first : Candidate) (others : List Candidate) →
    cs ≡ first ∷ others → (c : Candidate) → Contains cs c → c.size.0 ≤ first.size.0
none_above cs rises first others are c listed =
    let f = far cs rises listed.0 c listed.1 (sym listed.2) 0 listed.0 c (omega arith) listed.1 in
    let head : get_or cs 0 c ≡ first = ap (λ (l : List Candidate). get_or l 0 c) are in
    let upto : (get_or cs listed.0 c).size.0 ≤ (get_or cs 0 c).size.0 = f.upto in
    subst (λ x. x.size.0 ≤ first.size.0) listed.2
    (subst (λ x. (get_or cs listed.0 c).size.0 ≤ x.size.0) head upto)

-- a candidate is at least as large as each one after it
pub falls : (cs : List Candidate) → IsSorted turn_cmp cs → (i : ℕ) (c : Candidate) → i < length cs → c ≡ get_or cs i c →
    (j : ℕ) (d : Candidate) → i ≤ j → j < length cs → d ≡ get_or cs j d → d.size.0 ≤ c.size.0
falls cs rises i c lt is j d le within there =
    let f = far cs rises i c lt is i j d le within in
    let head : get_or cs i d ≡ c = get_or_default cs i d c lt ∙ sym is in
    let upto : (get_or cs j d).size.0 ≤ (get_or cs i d).size.0 = f.upto in
    subst (λ x. x.size.0 ≤ c.size.0) (sym there) (subst (λ x. (get_or cs j d).size.0 ≤ x.size.0) head upto)

-- the first candidate of a size has the least root of it
pub least_at : (cs : List Candidate) → IsSorted turn_cmp cs → (j : ℕ) (x : Candidate) → j < length cs → x ≡ get_or cs j x →
    ((k : ℕ) (d : Candidate) → k < j → (get_or cs k d).size.0 ≢ x.size.0) → IsLeastOf cs x.size.0 x
least_at cs rises j x lt is none = record { listed = (j, lt, sym is); size_is = refl; upto = upto_each }
  where
    upto_each : (k : ℕ) (d : Candidate) → k < length cs → (get_or cs k d).size.0 ≡ x.size.0 →
        is_gt (slice_cmp nat_cmp x.root (get_or cs k d).root) ≡ false
    upto_each k d inside same = elim (cases_lt k j) [
      | inl less ↦ absurd (none k d less same)
      | inr ge ↦
          let f = far cs rises j x lt is j k d ge inside in
          let there : get_or cs j d ≡ x = get_or_default cs j d x lt ∙ sym is in
          subst (λ y. is_gt (slice_cmp nat_cmp y.root (get_or cs k d).root) ≡ false) there
          (f.root (ap (λ (y : Candidate). y.size.0) there ∙ sym same))
    ]
