-- The forks that the marks give are those of the tree heads, in order.
use Rattle.std.proofs.Common.{◌≡◌, ℕ, zero, suc, ◌-◌, ◌<◌, ◌≤◌, List, [], ◌∷◌, ◌++◌, length, map, take, drop, get_or, ◌+◌}
use Rattle.std.proofs.Common.{Bool, true, false, not, cond, ◌&&◌, ◌||◌, sym, refl, ap, subst, ◌∙◌, ◌⊎◌, inl, inr, arith}
use Rattle.std.proofs.Common.{nat_eq, set, eqb-true, eq-eqb, get_or-set_other, get_or-set_same}
use Rattle.std.specs.Prelude.{◌↔◌, ◌≢◌}
use Rattle.std.specs.Ordering.{ordering_reverse, ordering_then}
use Rattle.std.specs.declared.cmp.Ordering.{Ordering}
use Rattle.std.specs.declared.cmp.Ordering.TheVariants.{Less, Equal, Greater}
use Rattle.std.specs.List.{Contains, AllByRecursion}
use Rattle.std.specs.List.Sorted.{IsStrictlySortedBy}
use Rattle.std.proofs.lemmas.Bool.{cases_lt, lt-ltb, le-ltb}
use Rattle.std.proofs.lemmas.List.{get_or-take, length-set, get_or-drop, length-drop, length-take-le}
use Rattle.std.proofs.lemmas.List.Elements.{Contains-append_left, Contains-append_right, Contains-append_cases}
use Rattle.node_store.specs.Strings.{Strings}
use Rattle.mirror_model.specs.Complete.{IsBuilt}
use Rattle.mirror_model.specs.Listed.{pair_cmp}
use Rattle.mirror_model.specs.Reports.{fork_pair}
use Rattle.mirror_model.specs.declared.reports.Fork.{Fork}
use Rattle.mirror_model.proofs.Listing.{head_or, later, here}
use Rattle.tlog_mirror.specs.Points.{by_point}
use Rattle.tlog_mirror.specs.Branches.{AreCalm, AreCalmTwo}
use Rattle.tlog_mirror.specs.Branches.{IsBranch, AreBranches, under_of, apart_of, Precedes}
use Rattle.tlog_mirror.specs.Forks.{Departs, Conflicts, IsForkOf}
use Rattle.tlog_mirror.specs.Branches.{fork_of, marked, forks_with, forks_from, marks_from, all_forks}
use Rattle.tlog_mirror.specs.declared.branches.Branch.{Branch}
use Rattle.std.proofs.lemmas.List.{get_or_default}
use Rattle.tlog_mirror.proofs.PointLists.{pairs_total, source_of}
use Rattle.tlog_mirror.proofs.BranchSteps.{head_of, not_both, less_size, rising, goes_on, goes_back}

-- ---- the rest of a list from a place on

module _ {X : Type 0} where
  pub left_lt : (xs : List X) (at : ℕ) (a : X) (rest : List X) → a ∷ rest ≡ drop at xs → at < length xs
  left_lt xs at a rest e =
      let n : length (a ∷ rest) ≡ length xs - at = ap length e ∙ length-drop at xs in omega (arith, n)

  pub left_here : (xs : List X) (at : ℕ) (a : X) (rest : List X) → a ∷ rest ≡ drop at xs → get_or xs at a ≡ a
  left_here xs at a rest e =
      let same : at + 0 ≡ at = omega arith in
      ap (λ n. get_or xs n a) (sym same) ∙ sym (get_or-drop at xs 0 a) ∙ ap (λ ys. get_or ys 0 a) (sym e)

  pub left_rest : (xs : List X) (at : ℕ) (a : X) (rest : List X) → a ∷ rest ≡ drop at xs → rest ≡ drop (suc at) xs
  left_rest [] zero a rest e = absurd (cc e)
  left_rest [] (suc at) a rest e = absurd (cc e)
  left_rest (x ∷ xs) zero a rest e = cc e
  left_rest (x ∷ xs) (suc at) a rest e = left_rest xs at a rest e

  in_left : (xs : List X) (at : ℕ) (x : X) (rest : List X) → rest ≡ drop at xs → Contains rest x →
      (k : ℕ) × (at ≤ k) × (k < length xs) × (get_or xs k x ≡ x)
  in_left xs at x rest e (k, lt, is) =
      let n : length rest ≡ length xs - at = ap length e ∙ length-drop at xs in (
        at + k,
        omega arith,
        omega (arith, n, lt),
        sym (get_or-drop at xs k x) ∙ ap (λ ys. get_or ys k x) (sym e) ∙ is,
      )

-- ---- tests

apart_true : (x p q u : Bool) → p ≡ true → q ≡ true → u ≡ false → (x || (p && (q && not u))) ≡ true
apart_true true p q u e f g = refl
apart_true false p q u e f g = λ i. e i && (f i && not (g i))

apart_parts : (x p q u : Bool) → (x || (p && (q && not u))) ≡ true →
    (x ≡ true) ⊎ ((p ≡ true) × (q ≡ true) × (u ≡ false))
apart_parts true p q u h = inl refl
apart_parts false true true false h = inr (refl, refl, refl)
apart_parts false true true true h = absurd (cc h)
apart_parts false true false u h = absurd (cc h)
apart_parts false false q u h = absurd (cc h)

or_true : (x y : Bool) → x ≡ true → (x || y) ≡ true
or_true x y e = ap (λ b. b || y) e

self_equal : (o : Ordering) → o ≡ ordering_reverse o → o ≡ Equal
self_equal Less e = absurd (cc e)
self_equal Equal e = refl
self_equal Greater e = absurd (cc e)

not_true : (u : Bool) → (u ≡ true → ⊥) → u ≡ false
not_true true h = absurd (h refl)
not_true false h = refl

in_cond : (t : Bool) (x y : Fork) → Contains (cond t (x ∷ []) []) y ↔ ((t ≡ true) × (x ≡ y))
in_cond true x y = (
  λ c. elim (head_or x [] y c) [ inl is ↦ (refl, is) | inr none ↦ absurd (omega (arith, none.1)) ],
  λ w. subst (Contains (x ∷ [])) w.1 (here x []),
)
in_cond false x y = (λ c. absurd (omega (arith, c.1)), λ w. absurd (cc w.0))

-- ---- forks in order

abbrev pub by_fork : Fork → Fork → Ordering
by_fork a b = pair_cmp (fork_pair a) (fork_pair b)

fork_less : (f g : Fork) → f.small ≡ g.small → by_point f.large g.large ≡ Less → by_fork f g ≡ Less
fork_less f g same less =
    let self : by_point f.small g.small ≡ Equal =
    subst (λ (p : ℕ × List ℕ). by_point f.small p ≡ Equal) same
    (self_equal (by_point f.small f.small) (pairs_total.antisymm f.small f.small)) in
    ap (λ o. ordering_then o (by_point f.large g.large)) self ∙ less

smaller_less : (f g : Fork) → by_point f.small g.small ≡ Less → by_fork f g ≡ Less
smaller_less f g less = ap (λ o. ordering_then o (by_point f.large g.large)) less

module _ {K : Type 0} (cmp : K → K → Ordering) where
  all_join : (P : K → Type 0) (xs ys : List K) → AllByRecursion P xs → ((y : K) → Contains ys y → P y) →
      AllByRecursion P (xs ++ ys)
  all_join P [] [] all h = tt
  all_join P [] (y ∷ ys) all h = (h y (here y ys), all_join P [] ys tt (λ z c. h z (later y ys z c)))
  all_join P (x ∷ xs) ys all h = (all.0, all_join P xs ys all.1 h)

  sorted_join : (xs ys : List K) → IsStrictlySortedBy cmp xs → IsStrictlySortedBy cmp ys →
      ((x y : K) → Contains xs x → Contains ys y → cmp x y ≡ Less) → IsStrictlySortedBy cmp (xs ++ ys)
  unfolding IsStrictlySortedBy
  sorted_join [] ys s t h = t
  sorted_join (x ∷ xs) ys s t h = (
    all_join (λ y. cmp x y ≡ Less) xs ys s.0 (λ y c. h x y (here x xs) c),
    sorted_join xs ys s.1 t (λ z y c d. h z y (later x xs z c) d),
  )

  sorted_one : (t : Bool) (x : K) → IsStrictlySortedBy cmp (cond t (x ∷ []) [])
  unfolding IsStrictlySortedBy
  sorted_one true x = (tt, tt)
  sorted_one false x = tt

  sorted_none : IsStrictlySortedBy cmp []
  unfolding IsStrictlySortedBy
  sorted_none = tt

-- ---- the marks say of which tree heads the first is a prefix

module _ (digest : List ℕ → List ℕ) (held : Strings) (branches : List Branch)
    (each : AreBranches digest held branches) (sorted : IsStrictlySortedBy by_point (map head_of branches)) where
  abbrev pub At : ℕ → Branch → Type 0
  At k one = (k < length branches) × (get_or branches k one ≡ one)

  own : (k : ℕ) (one : Branch) → At k one → IsBranch digest held (take k branches) one
  own k one p = each k one p.0 p.1

  same_at : (k : ℕ) (a b : Branch) → At k a → At k b → a ≡ b
  same_at k a b p q = sym p.1 ∙ get_or_default branches k a b p.0 ∙ q.1

  short : (k l : ℕ) (a b : Branch) → k ≤ l → At k a → At l b → a.head.0 ≤ b.head.0
  short k l a b le p q = elim (cases_lt k l) [
    | inl lt ↦ less_size a.head b.head (rising branches sorted k l a b lt q.0 p.1 q.1)
    | inr ge ↦
        let e : l ≡ k = omega (arith, le, ge) in
        let same : a ≡ b = same_at k a b p (subst (λ n. At n b) e q) in
        let size : a.head.0 ≡ b.head.0 = ap (λ (x : Branch). x.head.0) same in omega (arith, size)
  ]

  -- the mark says whether the first is a prefix of the other
  pub record IsMark (a b : Branch) (mark : Bool) : Type 0 where
    pub yes : mark ≡ true → Departs digest held a.head b.head → ⊥
    pub no : mark ≡ false → Departs digest held a.head b.head

  -- the marks of the tree heads after the first, up to a place
  pub record Marked (at : ℕ) (a : Branch) (marks : List Bool) (next : ℕ) : Type 0 where
    pub len : length marks ≡ length branches
    pub first : get_or marks at false ≡ true
    pub others : (k : ℕ) (one : Branch) → at < k → k < next → At k one → a.whole ≡ true → one.whole ≡ true →
        IsMark a one (get_or marks k false)

  module _ (at : ℕ) (a : Branch) (is_a : At at a) (a_whole : a.whole ≡ true) (marks : List Bool) (next : ℕ)
      (h : Marked at a marks next) (b : Branch) (is_b : At next b) (behind : at < next) (b_whole : b.whole ≡ true) where
    before : (k : ℕ) (one : Branch) → k < next → At k one → get_or (take next branches) k one ≡ one
    before k one lt p = get_or-take next branches k one lt ∙ p.1

    len_before : length (take next branches) ≡ next
    len_before = length-take-le next branches (omega (arith, is_b.0))

    built_b : IsBuilt digest held b.head.0 b.head.1
    built_b = (own next b is_b).whole.0 b_whole

    not_under : b.after ≤ at → IsMark a b false
    not_under le = record {
      yes = λ e d. absurd (cc e);
      no = λ e.
          (own next b is_b).none at a b_whole le (omega (arith, len_before, behind)) (before at a behind is_a) a_whole;
    }

    -- the last tree head that is a prefix of this one is at the place g
    module _ (g : ℕ) (g_is : b.after - 1 ≡ g) (some : 0 < b.after) where
      fits : g < next
      fits = omega (arith, (own next b is_b).fits, len_before, g_is, some)

      one : Branch
      one = get_or branches g b

      is_one : At g (get_or branches g b)
      is_one =
          let lt : g < length branches = omega (arith, fits, is_b.0) in
          (lt, get_or_default branches g (get_or branches g b) b lt)

      last : ((get_or branches g b).whole ≡ true) × Precedes digest held (get_or branches g b).head b.head
      last =
          (own next b is_b).last (get_or branches g b) b_whole some
          (ap (λ n. get_or (take next branches) n (get_or branches g b)) g_is
          ∙ before g (get_or branches g b) fits is_one)

      through : (v : Bool) → IsMark a (get_or branches g b) v → at ≤ g → IsMark a b v
      through v m le = record {
        yes = λ e d. m.yes e
            (goes_back digest held (get_or branches g b).head b.head last.1 a.head
            (short at g a (get_or branches g b) le is_a is_one)
            ((own g (get_or branches g b) is_one).whole.0 last.0) d);
        no = λ e. goes_on digest held (get_or branches g b).head b.head last.1 a.head
            (short at g a (get_or branches g b) le is_a is_one) built_b (m.no e);
      }

      own_first : g ≡ at → IsMark a b true
      own_first e = record {
        yes = λ t d.
            let same : get_or branches g b ≡ a =
            same_at at (get_or branches g b) a (subst (λ n. At n (get_or branches g b)) e is_one) is_a in
            d.not_prefix (subst (λ (o : Branch). Precedes digest held o.head b.head) same last.1
            d.first d.second d.first_tree d.second_tree);
        no = λ t. absurd (cc t);
      }

    mark_is : IsMark a b (under_of at marks b.after)
    mark_is = elim (cases_lt at b.after) [
      | inr le ↦
          subst (λ t. IsMark a b (t && get_or marks (b.after - 1) false)) (sym (le-ltb at b.after le)) (not_under le)
      | inl lt ↦
          subst (λ t. IsMark a b (t && get_or marks (b.after - 1) false)) (sym (lt-ltb at b.after lt))
          (elim (cases_lt at (b.after - 1)) [
            | inl more ↦
                through (b.after - 1) refl (omega (arith, lt)) (get_or marks (b.after - 1) false)
                (h.others (b.after - 1) (get_or branches (b.after - 1) b) more (fits (b.after - 1) refl (omega (arith, lt)))
                (is_one (b.after - 1) refl (omega (arith, lt))) a_whole (last (b.after - 1) refl (omega (arith, lt))).0)
                (omega (arith, more))
            | inr le ↦
                let e : b.after - 1 ≡ at = omega (arith, lt, le) in
                subst (λ v. IsMark a b v) (sym (ap (λ n. get_or marks n false) e ∙ h.first))
                (own_first (b.after - 1) refl (omega (arith, lt)) e)
          ])
    ]

  -- ---- the forks whose smaller tree head is this one

  conflict_along : (a b c d : ℕ × List ℕ) → a ≡ c → b ≡ d → Conflicts digest held a b → Conflicts digest held c d
  conflict_along a b c d p q h =
      subst (λ x. Conflicts digest held c x) q (subst (λ x. Conflicts digest held x b) p h)

  -- the fork is of the first tree head and a later one that conflicts
  abbrev pub IsOfFirst : Branch → List Branch → Fork → Type 0
  IsOfFirst a rest fork =
      (fork.small ≡ a.head) × Contains (map head_of rest) fork.large × Conflicts digest held fork.small fork.large

  module _ (at : ℕ) (a : Branch) (is_a : At at a) where
    conflicts : (next : ℕ) (b : Branch) → At next b → (u : Bool) →
        (a.whole ≡ true → b.whole ≡ true → IsMark a b u) → (apart_of a b u ≡ true) ↔ Conflicts digest held a.head b.head
    conflicts next b is_b u mark = (
      λ t. elim (apart_parts (nat_eq a.head.0 b.head.0) a.whole b.whole u t) [
        | inl e ↦ inl (eqb-true a.head.0 b.head.0 e)
        | inr p ↦ inr ((mark p.0 p.1).no p.2)
      ],
      λ w. elim w [
        | inl e ↦ or_true (nat_eq a.head.0 b.head.0) (a.whole && (b.whole && not u)) (eq-eqb a.head.0 b.head.0 e)
        | inr d ↦
            let wa : a.whole ≡ true = (own at a is_a).whole.1 (record { entries = d.first; is = d.first_tree }) in
            let wb : b.whole ≡ true = (own next b is_b).whole.1 (record { entries = d.second; is = d.second_tree }) in
            apart_true (nat_eq a.head.0 b.head.0) a.whole b.whole u wa wb (not_true u (λ t. (mark wa wb).yes t d))
      ],
    )

    marked_more : (marks : List Bool) (next : ℕ) → Marked at a marks next → (b : Branch) → At next b → at < next →
        (u : Bool) → (a.whole ≡ true → b.whole ≡ true → IsMark a b u) → Marked at a (set marks next u) (suc next)
    marked_more marks next h b is_b lt u mark = record {
      len = length-set marks next u ∙ h.len;
      first = (let ne : at ≢ next = omega (arith, lt) in get_or-set_other marks next at u false ne) ∙ h.first;
      others = λ k one behind upto p wa wo. elim (cases_lt k next) [
        | inl less ↦
            let ne : k ≢ next = omega (arith, less) in
            subst (IsMark a one) (sym (get_or-set_other marks next k u false ne)) (h.others k one behind less p wa wo)
        | inr more ↦
            let e : k ≡ next = omega (arith, upto, more) in
            let same : b ≡ one = same_at next b one is_b (subst (λ n. At n one) e p) in
            let read : get_or (set marks next u) k false ≡ u =
            ap (λ n. get_or (set marks next u) n false) e ∙
            get_or-set_same marks next u false (omega (arith, h.len, is_b.0)) in
            subst (IsMark a one) (sym read)
            (subst (λ (o : Branch). IsMark a o u) same (mark wa (ap (λ (o : Branch). o.whole) same ∙ wo)))
      ];
    }

    first_marked : (marks : List Bool) → length marks ≡ length branches → Marked at a (set marks at true) (suc at)
    first_marked marks len = record {
      len = length-set marks at true ∙ len;
      first = get_or-set_same marks at true false (omega (arith, len, is_a.0));
      others = λ k one behind upto p wa wo. absurd (omega (arith, behind, upto));
    }

    -- the later ones are greater
    greater : (rest : List Branch) → rest ≡ drop (suc at) branches → (p : ℕ × List ℕ) → Contains (map head_of rest) p →
        by_point a.head p ≡ Less
    greater rest e p c =
        let s = source_of head_of rest p c in
        let w = in_left branches (suc at) s.0 rest e s.1 in
        subst (λ (q : ℕ × List ℕ). by_point a.head q ≡ Less) s.2
        (rising branches sorted at w.0 a s.0 (omega (arith, w.1)) w.2 is_a.1 w.3)

    with_exact : (marks : List Bool) (next : ℕ) (rest : List Branch) → rest ≡ drop next branches → at < next →
        Marked at a marks next → (fork : Fork) → Contains (forks_with at a marks next rest) fork ↔ IsOfFirst a rest fork
    with_exact marks next [] e lt h fork =
        (λ c. absurd (omega (arith, c.1)), λ w. absurd (let none = w.1.1 in omega (arith, none)))
    with_exact marks next (b ∷ rest) e lt h fork =
        let is_b : At next b = (left_lt branches next b rest e, left_here branches next b rest e) in
        let u : Bool = under_of at marks b.after in
        let mark : a.whole ≡ true → b.whole ≡ true → IsMark a b (under_of at marks b.after) =
        λ wa wb. mark_is at a is_a wa marks next h b is_b lt wb in
        let more =
        with_exact (set marks next (under_of at marks b.after)) (suc next) rest (left_rest branches next b rest e)
        (omega (arith, lt)) (marked_more marks next h b is_b lt (under_of at marks b.after) mark) fork in
        let con = conflicts next b is_b (under_of at marks b.after) mark in
        let pair : Fork = record { small = a.head; large = b.head } in
        let one = in_cond (apart_of a b (under_of at marks b.after)) (record { small = a.head; large = b.head }) fork in (
          λ c. elim
              (Contains-append_cases (fork_of a b (under_of at marks b.after))
              (forks_with at a (set marks next (under_of at marks b.after)) (suc next) rest) fork c) [
                | inl this ↦
                    let w = one.0 this in
                    let s : a.head ≡ fork.small = ap (λ (f : Fork). f.small) w.1 in
                    let l : b.head ≡ fork.large = ap (λ (f : Fork). f.large) w.1 in (
                      sym s,
                      subst (Contains (b.head ∷ map head_of rest)) l (here b.head (map head_of rest)),
                      conflict_along a.head b.head fork.small fork.large s l (con.0 w.0),
                    )
                | inr there ↦ let w = more.0 there in (w.0, later b.head (map head_of rest) fork.large w.1, w.2)
              ],
          λ w. elim (head_or b.head (map head_of rest) fork.large w.1) [
            | inl l ↦
                let s : fork.small ≡ a.head = w.0 in
                Contains-append_left (fork_of a b (under_of at marks b.after))
                (forks_with at a (set marks next (under_of at marks b.after)) (suc next) rest) fork
                (one.1 (
                  con.1 (conflict_along fork.small fork.large a.head b.head s (sym l) w.2),
                  λ i. record { small = sym s i; large = l i },
                ))
            | inr there ↦ Contains-append_right (fork_of a b (under_of at marks b.after))
                (forks_with at a (set marks next (under_of at marks b.after)) (suc next) rest) fork
                (more.1 (w.0, there, w.2))
          ],
        )

    with_sorted : (marks : List Bool) (next : ℕ) (rest : List Branch) → rest ≡ drop next branches → at < next →
        Marked at a marks next → IsStrictlySortedBy by_fork (forks_with at a marks next rest)
    with_sorted marks next [] e lt h = sorted_none by_fork
    with_sorted marks next (b ∷ rest) e lt h =
        let is_b : At next b = (left_lt branches next b rest e, left_here branches next b rest e) in
        let mark : a.whole ≡ true → b.whole ≡ true → IsMark a b (under_of at marks b.after) =
        λ wa wb. mark_is at a is_a wa marks next h b is_b lt wb in
        let h_more = marked_more marks next h b is_b lt (under_of at marks b.after) mark in
        let e_more = left_rest branches next b rest e in
        sorted_join by_fork (fork_of a b (under_of at marks b.after))
        (forks_with at a (set marks next (under_of at marks b.after)) (suc next) rest)
        (sorted_one by_fork (apart_of a b (under_of at marks b.after)) (record { small = a.head; large = b.head }))
        (with_sorted (set marks next (under_of at marks b.after)) (suc next) rest e_more (omega (arith, lt)) h_more)
        (λ x y c d.
        let w = (in_cond (apart_of a b (under_of at marks b.after)) (record { small = a.head; large = b.head }) x).0 c in
        let v =
        (with_exact (set marks next (under_of at marks b.after)) (suc next) rest e_more (omega (arith, lt)) h_more y).0
        d in
        let s : a.head ≡ x.small = ap (λ (f : Fork). f.small) w.1 in
        let l : b.head ≡ x.large = ap (λ (f : Fork). f.large) w.1 in
        fork_less x y (sym s ∙ sym v.0)
        (subst (λ (p : ℕ × List ℕ). by_point p y.large ≡ Less) l (greater_than next b is_b rest e_more y.large v.1)))
      where
        greater_than : (n : ℕ) (o : Branch) → At n o → (others : List Branch) → others ≡ drop (suc n) branches →
            (p : ℕ × List ℕ) → Contains (map head_of others) p → by_point o.head p ≡ Less
        greater_than n o is_o others q p c =
            let s = source_of head_of others p c in
            let w = in_left branches (suc n) s.0 others q s.1 in
            subst (λ (z : ℕ × List ℕ). by_point o.head z ≡ Less) s.2
            (rising branches sorted n w.0 o s.0 (omega (arith, w.1)) w.2 is_o.1 w.3)

  -- ---- all forks

  marked_len : (at : ℕ) (marks : List Bool) (next : ℕ) (rest : List Branch) →
      length (marked at marks next rest) ≡ length marks
  marked_len at marks next [] = refl
  marked_len at marks next (b ∷ rest) =
      marked_len at (set marks next (under_of at marks b.after)) (suc next) rest
      ∙ length-set marks next (under_of at marks b.after)

  -- a calm tree head has no fork with a later one
  module _ (at : ℕ) (a : Branch) (is_a : At at a)
      (calm : (k : ℕ) (b : Branch) → at < k → At k b → AreCalmTwo at a b) where
    calm_begins : (n k : ℕ) (b : Branch) → k < n → at < k → At k b → Departs digest held a.head b.head → ⊥
    calm_begins zero k b lt behind p d = absurd (omega (arith, lt))
    calm_begins (suc n) k b lt behind p d =
        let mine = own k b p in
        let b_whole : b.whole ≡ true = mine.whole.1 (record { entries = d.second; is = d.second_tree }) in
        let past : at < b.after = (calm k b behind p).begun b_whole in
        let len : length (take k branches) ≡ k = length-take-le k branches (omega (arith, p.0)) in
        let fits : b.after - 1 < k = omega (arith, mine.fits, len, past) in
        let g_lt : b.after - 1 < length branches = omega (arith, fits, p.0) in
        let is_g : At (b.after - 1) (get_or branches (b.after - 1) b) =
        (g_lt, get_or_default branches (b.after - 1) (get_or branches (b.after - 1) b) b g_lt) in
        let last =
        mine.last (get_or branches (b.after - 1) b) b_whole (omega (arith, past))
        (get_or-take k branches (b.after - 1) (get_or branches (b.after - 1) b) fits ∙ is_g.1) in
        let back =
        goes_back digest held (get_or branches (b.after - 1) b).head b.head last.1 a.head
        (short at (b.after - 1) a (get_or branches (b.after - 1) b) (omega (arith, past)) is_a is_g)
        ((own (b.after - 1) (get_or branches (b.after - 1) b) is_g).whole.0 last.0) d in
        elim (cases_lt at (b.after - 1)) [
          | inl more ↦
              calm_begins n (b.after - 1) (get_or branches (b.after - 1) b) (omega (arith, fits, lt)) more is_g back
          | inr le ↦
              let e : b.after - 1 ≡ at = omega (arith, past, le) in
              let same : get_or branches (b.after - 1) b ≡ a =
              same_at at (get_or branches (b.after - 1) b) a
              (subst (λ i. At i (get_or branches (b.after - 1) b)) e is_g) is_a in
              d.not_prefix (subst (λ (o : Branch). Precedes digest held o.head b.head) same last.1
              d.first d.second d.first_tree d.second_tree)
        ]

    calm_none : (rest : List Branch) → rest ≡ drop (suc at) branches → (fork : Fork) → IsOfFirst a rest fork → ⊥
    calm_none rest e fork w =
        let s = source_of head_of rest fork.large w.1 in
        let i = in_left branches (suc at) s.0 rest e s.1 in
        elim (conflict_along fork.small fork.large a.head s.0.head w.0 (sym s.2) w.2) [
          | inl same ↦ (calm i.0 s.0 (omega (arith, i.1)) (i.2, i.3)).sizes same
          | inr d ↦ calm_begins (suc i.0) i.0 s.0 (omega arith) (omega (arith, i.1)) (i.2, i.3) d
        ]

  module _ (calm : List Bool) (are_calm : AreCalm branches calm) (at : ℕ) (a : Branch) (rest : List Branch)
      (e : a ∷ rest ≡ drop at branches) (marks : List Bool) (len : length marks ≡ length branches) where
    is_first : At at a
    is_first = (left_lt branches at a rest e, left_here branches at a rest e)

    quiet_none : get_or calm at false ≡ true → (fork : Fork) → IsOfFirst a rest fork → ⊥
    quiet_none yes_calm fork w =
        calm_none at a is_first (λ k b behind p. are_calm at k a b yes_calm behind p.0 is_first.1 p.1) rest
        (left_rest branches at a rest e) fork w

    exact_by : (q : Bool) → (q ≡ true → (fork : Fork) → IsOfFirst a rest fork → ⊥) → (fork : Fork) →
        Contains (forks_from q at marks (a ∷ rest)) fork ↔ IsOfFirst a rest fork
    exact_by true none fork = (λ c. absurd (omega (arith, c.1)), λ w. absurd (none refl fork w))
    exact_by false none fork =
        with_exact at a is_first (set marks at true) (suc at) rest (left_rest branches at a rest e) (omega arith)
        (first_marked at a is_first marks len) fork

    first_exact : (fork : Fork) →
        Contains (forks_from (get_or calm at false) at marks (a ∷ rest)) fork ↔ IsOfFirst a rest fork
    first_exact = exact_by (get_or calm at false) quiet_none

    sorted_by : (q : Bool) → IsStrictlySortedBy by_fork (forks_from q at marks (a ∷ rest))
    sorted_by true = sorted_none by_fork
    sorted_by false =
        with_sorted at a is_first (set marks at true) (suc at) rest (left_rest branches at a rest e) (omega arith)
        (first_marked at a is_first marks len)

    len_by : (q : Bool) → length (marks_from q at marks (a ∷ rest)) ≡ length branches
    len_by true = len
    len_by false = marked_len at (set marks at true) (suc at) rest ∙ length-set marks at true ∙ len

    more_len : length (marks_from (get_or calm at false) at marks (a ∷ rest)) ≡ length branches
    more_len = len_by (get_or calm at false)

    behind : (p : ℕ × List ℕ) → Contains (map head_of rest) p → by_point a.head p ≡ Less
    behind = greater at a is_first rest (left_rest branches at a rest e)

    heads : List (ℕ × List ℕ)
    heads = map head_of rest

    one_first : (fork : Fork) → IsOfFirst a rest fork → IsForkOf digest held (a.head ∷ map head_of rest) fork
    one_first fork w = (
      record {
        small = subst (Contains (a.head ∷ map head_of rest)) (sym w.0) (here a.head (map head_of rest));
        large = later a.head (map head_of rest) fork.large w.1;
        order = subst (λ (p : ℕ × List ℕ). by_point p fork.large ≡ Less) (sym w.0) (behind fork.large w.1);
      },
      w.2,
    )

    one_later : (fork : Fork) → IsForkOf digest held (map head_of rest) fork →
        IsForkOf digest held (a.head ∷ map head_of rest) fork
    one_later fork w = (
      record {
        small = later a.head (map head_of rest) fork.small w.0.small;
        large = later a.head (map head_of rest) fork.large w.0.large;
        order = w.0.order;
      },
      w.1,
    )

    one_of : (fork : Fork) → IsForkOf digest held (a.head ∷ map head_of rest) fork →
        IsOfFirst a rest fork ⊎ IsForkOf digest held (map head_of rest) fork
    one_of fork w = elim (head_or a.head (map head_of rest) fork.large w.0.large) [
      | inl l ↦
          let before : by_point fork.small a.head ≡ Less =
          subst (λ (p : ℕ × List ℕ). by_point fork.small p ≡ Less) (sym l) w.0.order in
          elim (head_or a.head (map head_of rest) fork.small w.0.small) [
            | inl s ↦
                let self : by_point a.head a.head ≡ Less =
                subst (λ (p : ℕ × List ℕ). by_point p a.head ≡ Less) (sym s) before in
                not_both a.head a.head self self
            | inr s ↦ not_both fork.small a.head before (behind fork.small s)
          ]
      | inr l ↦ elim (head_or a.head (map head_of rest) fork.small w.0.small) [
        | inl s ↦ inl (sym s, l, w.1)
        | inr s ↦ inr (record { small = s; large = l; order = w.0.order }, w.1)
      ]
    ]

  pub all_exact : (calm : List Bool) → AreCalm branches calm → (at : ℕ) (marks : List Bool) (rest : List Branch) → rest ≡ drop at branches →
      length marks ≡ length branches → (fork : Fork) →
      Contains (all_forks calm at marks rest) fork ↔ IsForkOf digest held (map head_of rest) fork
  all_exact calm are_calm at marks [] e len fork =
      (λ c. absurd (omega (arith, c.1)), λ w. absurd (let none = w.0.small.1 in omega (arith, none)))
  all_exact calm are_calm at marks (a ∷ rest) e len fork =
      let first = first_exact calm are_calm at a rest e marks len fork in
      let more =
      all_exact calm are_calm (suc at) (marks_from (get_or calm at false) at marks (a ∷ rest)) rest (left_rest branches at a rest e)
      (more_len calm are_calm at a rest e marks len) fork in (
        λ c. elim
            (Contains-append_cases (forks_from (get_or calm at false) at marks (a ∷ rest))
            (all_forks calm (suc at) (marks_from (get_or calm at false) at marks (a ∷ rest)) rest) fork c) [
              | inl this ↦ one_first calm are_calm at a rest e marks len fork (first.0 this)
              | inr there ↦ one_later calm are_calm at a rest e marks len fork (more.0 there)
            ],
        λ w. elim (one_of calm are_calm at a rest e marks len fork w) [
          | inl this ↦ Contains-append_left (forks_from (get_or calm at false) at marks (a ∷ rest))
              (all_forks calm (suc at) (marks_from (get_or calm at false) at marks (a ∷ rest)) rest) fork (first.1 this)
          | inr there ↦ Contains-append_right (forks_from (get_or calm at false) at marks (a ∷ rest))
              (all_forks calm (suc at) (marks_from (get_or calm at false) at marks (a ∷ rest)) rest) fork (more.1 there)
        ],
      )

  pub all_sorted : (calm : List Bool) → AreCalm branches calm → (at : ℕ) (marks : List Bool) (rest : List Branch) → rest ≡ drop at branches →
      length marks ≡ length branches → IsStrictlySortedBy by_fork (all_forks calm at marks rest)
  all_sorted calm are_calm at marks [] e len = sorted_none by_fork
  all_sorted calm are_calm at marks (a ∷ rest) e len =
      let e_more = left_rest branches at a rest e in
      let len_more = more_len calm are_calm at a rest e marks len in
      sorted_join by_fork (forks_from (get_or calm at false) at marks (a ∷ rest)) (all_forks calm (suc at) (marks_from (get_or calm at false) at marks (a ∷ rest)) rest)
      (sorted_by calm are_calm at a rest e marks len (get_or calm at false))
      (all_sorted calm are_calm (suc at) (marks_from (get_or calm at false) at marks (a ∷ rest)) rest e_more len_more)
      (λ x y c d.
      let w = (first_exact calm are_calm at a rest e marks len x).0 c in
      let v = (all_exact calm are_calm (suc at) (marks_from (get_or calm at false) at marks (a ∷ rest)) rest e_more len_more y).0 d in
      smaller_less x y
      (subst (λ (p : ℕ × List ℕ). by_point p y.small ≡ Less) (sym w.0)
      (behind calm are_calm at a rest e marks len y.small v.0.small)))
