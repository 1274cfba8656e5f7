-- The branches of tree heads, step by step.
use Rattle.std.proofs.Common.{◌≡◌, ℕ, zero, suc, ◌+◌, ◌-◌, ◌<◌, ◌≤◌, List, [], ◌∷◌, ◌++◌, length, map, take, get_or}
use Rattle.std.proofs.Common.{Bool, true, false, sym, refl, ap, subst, ◌∙◌, inl, inr, arith, length-append}
use Rattle.std.specs.Prelude.{All, IsTrue, ◌↔◌}
use Rattle.std.specs.Ordering.{ordering_reverse, nat_cmp, is_gt}
use Rattle.std.specs.declared.cmp.Ordering.TheVariants.{Less, Greater}
use Rattle.std.specs.Cmp.Lexicographic.{slice_cmp}
use Rattle.std.specs.List.{AllByRecursion}
use Rattle.std.specs.List.Sorted.{IsStrictlySortedBy}
use Rattle.std.proofs.lemmas.Bool.{cases_lt}
use Rattle.std.proofs.lemmas.List.{take_more, take_all, map-append, get_or-append_right, take-append-le, length-take}
use Rattle.node_store.specs.Strings.{Strings}
use Rattle.mirror_model.specs.Complete.{IsTreeOf, IsBuilt}
use Rattle.mirror_model.specs.Forks.{IsPrefix}
use Rattle.mirror_trees.proofs.PrefixSteps.{prefix_of_prefix}
use Rattle.tlog_mirror.specs.Points.{by_point}
use Rattle.tlog_mirror.specs.Branches.{Precedes, IsBranch, AreBranches}
use Rattle.tlog_mirror.specs.Forks.{Departs}
use Rattle.tlog_mirror.specs.declared.branches.Branch.{Branch}
use Rattle.std.proofs.lemmas.List.{get_or_default}
use Rattle.tlog_mirror.proofs.PointLists.{pairs_total}
use Rattle.tlog_mirror.proofs.PointLists.{size_at_most}

abbrev pub head_of : Branch → ℕ × List ℕ
head_of branch = branch.head

-- ---- the order of tree heads

pub not_both : {X : Type 0} (a b : ℕ × List ℕ) → by_point a b ≡ Less → by_point b a ≡ Less → X
not_both a b p q =
    let wrong : Less ≡ Greater = sym q ∙ pairs_total.antisymm b a ∙ ap ordering_reverse p in
    absurd (cc wrong)

pub less_size : (a b : ℕ × List ℕ) → by_point a b ≡ Less → a.0 ≤ b.0
less_size a b e = size_at_most a.0 b.0 (slice_cmp nat_cmp a.1 b.1) (ap is_gt e)

in_all : (P : ℕ × List ℕ → Type 0) (xs : List Branch) → AllByRecursion P (map head_of xs) → (k : ℕ) (b : Branch) →
    k < length xs → get_or xs k b ≡ b → P b.head
in_all P [] h k b lt is = absurd (omega (arith, lt))
in_all P (x ∷ xs) h zero b lt is = subst (λ (y : Branch). P y.head) is h.0
in_all P (x ∷ xs) h (suc k) b lt is = in_all P xs h.1 k b (omega (arith, lt)) is

-- in sorted branches, the tree head at an earlier place is less
pub rising : (xs : List Branch) → IsStrictlySortedBy by_point (map head_of xs) → (k l : ℕ) (a b : Branch) → k < l →
    l < length xs → get_or xs k a ≡ a → get_or xs l b ≡ b → by_point a.head b.head ≡ Less
unfolding IsStrictlySortedBy
rising [] s k l a b lt fits p q = absurd (omega (arith, fits))
rising (x ∷ xs) s k zero a b lt fits p q = absurd (omega (arith, lt))
rising (x ∷ xs) s zero (suc l) a b lt fits p q =
    in_all (λ h. by_point a.head h ≡ Less) xs
    (subst (λ (y : Branch). AllByRecursion (λ h. by_point y.head h ≡ Less) (map head_of xs)) p s.0) l b
    (omega (arith, fits)) q
rising (x ∷ xs) s (suc k) (suc l) a b lt fits p q =
    rising xs s.1 k l a b (omega (arith, lt)) (omega (arith, fits)) p q

-- ---- tree heads that depart

module _ (digest : List ℕ → List ℕ) (held : Strings) where
  -- the test decides whether the entries of the first are a prefix of the entries of the second
  abbrev pub DecidesFork : Bool → ℕ × List ℕ → ℕ × List ℕ → Type 0
  DecidesFork b small large =
      (first second : List (List ℕ)) → IsTreeOf digest held small.0 small.1 first →
      IsTreeOf digest held large.0 large.1 second → IsTrue b ↔ IsPrefix first second

  abbrev pub Built : ℕ × List ℕ → Type 0
  Built head = IsBuilt digest held head.0 head.1

  departs : (b : Bool) (small large : ℕ × List ℕ) → DecidesFork b small large → b ≡ false → Built small → Built large →
      Departs digest held small large
  departs b small large tells recorded_no p q = record {
    first = p.entries;
    second = q.entries;
    first_tree = p.is;
    second_tree = q.is;
    not_prefix =
        λ pre. let yes_is : b ≡ true =
        (tells p.entries q.entries p.is q.is).1 pre in let wrong : true ≡ false = sym yes_is ∙ recorded_no in cc wrong;
  }

  -- if the second's entries are a prefix of the third's, the third departs from the first exactly if the second does;
  -- the first is no longer than the second
  module _ (second third : ℕ × List ℕ) (start : Precedes digest held second third) (first : ℕ × List ℕ)
      (short : first.0 ≤ second.0) where
    pub goes_on : Built third → Departs digest held first second → Departs digest held first third
    goes_on r d = record {
      first = d.first;
      second = r.entries;
      first_tree = d.first_tree;
      second_tree = r.is;
      not_prefix =
          λ pre. d.not_prefix
          ((prefix_of_prefix d.first d.second r.entries (start d.second r.entries d.second_tree r.is)
          (omega (arith, d.first_tree.size_is, d.second_tree.size_is, short))).0 pre);
    }

    pub goes_back : Built second → Departs digest held first third → Departs digest held first second
    goes_back q d = record {
      first = d.first;
      second = q.entries;
      first_tree = d.first_tree;
      second_tree = q.is;
      not_prefix =
          λ pre. d.not_prefix
          ((prefix_of_prefix d.first q.entries d.second (start q.entries d.second q.is d.second_tree)
          (omega (arith, d.first_tree.size_is, q.is.size_is, short))).1 pre);
    }

  -- ---- one tree head, against those before it

  module _ (before : List Branch) (branches : AreBranches digest held before) (head : ℕ × List ℕ)
      (built : Built head) (at : ℕ) (some : 0 < at) (fits : at ≤ length before) (one : Branch)
      (is : one ≡ get_or before (at - 1) one) where
    -- the tree head departs from each branch from a place on whose tree is held
    abbrev pub DepartsFrom : ℕ → Type 0
    DepartsFrom from =
        (k : ℕ) (other : Branch) → from ≤ k → k < length before → get_or before k other ≡ other → IsTrue other.whole →
        Departs digest held other.head head

    pub is_built : one.whole ≡ true → Built one.head
    is_built whole = (branches (at - 1) one (omega (arith, some, fits)) (sym is)).whole.0 whole

    -- the tree head departs from this one
    pub one_more : (one.whole ≡ true → Departs digest held one.head head) → DepartsFrom at → DepartsFrom (at - 1)
    one_more this rest k other from lt there whole =
        elim (cases_lt k at) [
          | inl less ↦
              let place : k ≡ at - 1 = omega (arith, less, from) in
              let same : one ≡ other =
              is ∙ get_or_default before (at - 1) one other (omega (arith, some, fits)) ∙
              ap (λ n. get_or before n other) (sym place) ∙ there in
              subst (λ (b : Branch). Departs digest held b.head head) same
              (this (ap (λ (b : Branch). b.whole) same ∙ whole))
          | inr more ↦ rest k other more lt there whole
        ]

    pub not_begun : (b : Bool) → DecidesFork b one.head head → b ≡ false → one.whole ≡ true →
        Departs digest held one.head head
    not_begun b tells recorded_no whole = departs b one.head head tells recorded_no (is_built whole) built

    -- this is the last one that is a prefix of the tree head
    pub last_is : (b : Bool) → DecidesFork b one.head head → b ≡ true → one.whole ≡ true → (n : ℕ) → n ≡ at - 1 →
        (other : Branch) → get_or before n other ≡ other →
        (other.whole ≡ true) × Precedes digest held other.head head
    last_is b tells recorded_yes whole n place other there =
        let same : one ≡ other =
        is ∙ get_or_default before (at - 1) one other (omega (arith, some, fits)) ∙
        ap (λ m. get_or before m other) (sym place) ∙ there in
        subst (λ (o : Branch). (o.whole ≡ true) × Precedes digest held o.head head) same
        (whole, λ first second p q. (tells first second p q).0 recorded_yes)

  -- the place of the last prefix of a tree head is in the list
  pub fits_all : (branches : List Branch) → AreBranches digest held branches →
      All (λ b. b.after ≤ length branches) branches
  fits_all branches each k d lt =
      let own = each k (get_or branches k d) lt (get_or_default branches k (get_or branches k d) d lt) in
      omega (arith, own.fits, length-take k branches)

  -- ---- all tree heads, in order

  module _ (before : List Branch) (branch : Branch) (after : List Branch) (is : after ≡ before ++ branch ∷ []) where
    pub heads_more : (heads : List (ℕ × List ℕ)) (i : ℕ) (d : ℕ × List ℕ) → i < length heads →
        map head_of before ≡ take i heads → branch.head ≡ get_or heads i d → map (λ b. b.head) after ≡ take (i + 1) heads
    heads_more heads i d fits heads_are same =
        ap (map head_of) is ∙ map-append head_of before (branch ∷ [])
        ∙ (λ t. heads_are t ++ same t ∷ []) ∙ sym (take_more heads i d fits)

    pub branches_more : AreBranches digest held before → IsBranch digest held before branch →
        AreBranches digest held after
    branches_more each new = subst (AreBranches digest held) (sym is) at
      where
        at : AreBranches digest held (before ++ branch ∷ [])
        at k one lt there =
            let len : length (before ++ branch ∷ []) ≡ length before + 1 = length-append before (branch ∷ []) in
            elim (cases_lt k (length before)) [
              | inl less ↦
                  subst (λ (bs : List Branch). IsBranch digest held bs one)
                  (sym (take-append-le k before (branch ∷ []) (omega (arith, less))))
                  (each k one less (sym (get_or-left before (branch ∷ []) k one less) ∙ there))
              | inr more ↦
                  let same : k ≡ length before = omega (arith, lt, len, more) in
                  let none : k - length before ≡ 0 = omega (arith, same) in
                  let read : get_or (before ++ branch ∷ []) k one ≡ branch =
                  get_or-append_right before (branch ∷ []) (length before) k one refl (omega (arith, same)) ∙
                  ap (λ n. get_or (branch ∷ []) n one) none in
                  let all : take k (before ++ branch ∷ []) ≡ before =
                  ap (λ n. take n (before ++ branch ∷ [])) same ∙
                  take-append-le (length before) before (branch ∷ []) (omega arith) ∙
                  take_all (length before) before (omega arith) in
                  subst (IsBranch digest held (take k (before ++ branch ∷ []))) (sym read ∙ there)
                  (subst (λ (bs : List Branch). IsBranch digest held bs branch) (sym all) new)
            ]
          where
            get_or-left : (xs ys : List Branch) (k : ℕ) (e : Branch) → k < length xs →
                get_or (xs ++ ys) k e ≡ get_or xs k e
            get_or-left [] ys k e lt = absurd (omega (arith, lt))
            get_or-left (x ∷ xs) ys zero e lt = refl
            get_or-left (x ∷ xs) ys (suc k) e lt = get_or-left xs ys k e (omega (arith, lt))
