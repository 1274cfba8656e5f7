-- Sizes and roots in order, and lists that were mapped.
use Rattle.std.proofs.Common.{◌≡◌, ◌<◌, ◌≤◌, ℕ, zero, suc, List, [], ◌∷◌, length, map, get_or, true, false, sym, refl}
use Rattle.std.proofs.Common.{ap, subst, ◌∙◌, nat_eq, arith}
use Rattle.std.specs.Ordering.{nat_cmp, eq_by_cmp, ordering_then, is_gt}
use Rattle.std.specs.declared.cmp.Ordering.{Ordering}
use Rattle.std.specs.declared.cmp.Ordering.TheVariants.{Less}
use Rattle.std.specs.Cmp.{IsTotalOrder, IsEquivalence, on_total, unsigned_ties, both_tied, eq_by_cmp_equiv}
use Rattle.std.specs.Cmp.Lexicographic.{slice_cmp, pointwise, lists_ties}
use Rattle.std.specs.List.{Contains, AllByRecursion}
use Rattle.std.specs.List.Sorted.{IsStrictlySortedBy}
use Rattle.std.proofs.lemmas.Cmp.{ranked, by_ranked}
use Rattle.std.proofs.lemmas.List.{get_or-map, length-map}
use Rattle.mirror_model.specs.Forks.{Point}
use Rattle.mirror_trees.proofs.Marking.{point_total, point_same, same_key}
use Rattle.mirror_trees.proofs.Orders.{equal_is}
use Rattle.mirror_trees.specs.Marked.{point_of}
use Rattle.tlog_mirror.specs.Points.{by_point}

-- an item of a mapped list, with the item before the map
pub record Unmapped {X Y : Type 0} (f : X → Y) (xs : List X) (k : ℕ) (y : Y) : Type 0 where
  pub one : X
  pub within : k < length xs
  pub is_there : get_or xs k one ≡ one
  pub is : f one ≡ y

pub unmapped : {X Y : Type 0} (f : X → Y) (xs : List X) (k : ℕ) (y : Y) → k < length (map f xs) →
    get_or (map f xs) k y ≡ y → Unmapped f xs k y
unmapped f [] k y lt is = absurd (omega (arith, lt))
unmapped f (x ∷ xs) zero y lt is = record { one = x; within = omega arith; is_there = refl; is = is }
unmapped f (x ∷ xs) (suc k) y lt is =
    let r = unmapped f xs k y (omega (arith, lt)) is in
    record { one = r.one; within = omega (arith, r.within); is_there = r.is_there; is = r.is }

pub size_at_most : (n m : ℕ) (o : Ordering) → is_gt (ordering_then (nat_cmp n m) o) ≡ false → n ≤ m
size_at_most n m o h =
    by_ranked (n < m) (n ≡ m) (m < n) (nat_cmp n m) (ranked n m (nat_cmp n m) refl)
    (λ e lt. omega (arith, lt))
    (λ e same. omega (arith, same))
    (λ e more. absurd
    (let wrong : true ≡ false = ap (λ (x : Ordering). is_gt (ordering_then x o)) (sym e) ∙ h in cc wrong))

-- ---- the order of sizes and roots, and the test for equality

pub pairs_total : IsTotalOrder by_point
pairs_total = on_total point_of point_total

pub pairs_tie : (a b : ℕ × List ℕ) → same_key a b ≡ eq_by_cmp by_point a b
pairs_tie a b =
    both_tied (nat_eq a.0 b.0) (pointwise nat_eq a.1 b.1) (nat_cmp a.0 b.0) (slice_cmp nat_cmp a.1 b.1)
    (unsigned_ties a.0 b.0) (lists_ties nat_cmp unsigned_ties a.1 b.1)

pub pairs_equivalence : IsEquivalence same_key
pairs_equivalence = subst IsEquivalence (λ i a b. sym (pairs_tie a b) i) (eq_by_cmp_equiv pairs_total)

pub pairs_exact : (a b : ℕ × List ℕ) → same_key a b ≡ true → a ≡ b
pairs_exact a b h =
    let same = point_same (point_of a) (point_of b) (equal_is (by_point a b) (sym (pairs_tie a b) ∙ h)) in
    let s : a.0 ≡ b.0 = ap (λ (p : Point). p.size) same in
    let r : a.1 ≡ b.1 = ap (λ (p : Point). p.root) same in
    λ i. (s i, r i)

-- ---- mapped lists

module _ {X Y : Type 0} (f : X → Y) where
  pub mapped : (xs : List X) (x : X) → Contains xs x → Contains (map f xs) (f x)
  mapped xs x (k, lt, is) = (k, subst (λ n. k < n) (sym (length-map xs f)) lt, get_or-map f xs k x (f x) lt ∙ ap f is)

  pub source_of : (xs : List X) (y : Y) → Contains (map f xs) y → (x : X) × Contains xs x × (f x ≡ y)
  source_of xs y (k, lt, is) = let u = unmapped f xs k y lt is in (u.one, (k, u.within, u.is_there), u.is)

module _ {X Y : Type 0} (f : X → Y) (cmp : Y → Y → Ordering) where
  abbrev pub through : X → X → Ordering
  through a b = cmp (f a) (f b)

  all_out : (x : X) (xs : List X) → AllByRecursion (λ y. through x y ≡ Less) xs →
      AllByRecursion (λ y. cmp (f x) y ≡ Less) (map f xs)
  all_out x [] h = tt
  all_out x (y ∷ xs) h = (h.0, all_out x xs h.1)

  all_in : (x : X) (xs : List X) → AllByRecursion (λ y. cmp (f x) y ≡ Less) (map f xs) →
      AllByRecursion (λ y. through x y ≡ Less) xs
  all_in x [] h = tt
  all_in x (y ∷ xs) h = (h.0, all_in x xs h.1)

  pub sorted_out : (xs : List X) → IsStrictlySortedBy through xs → IsStrictlySortedBy cmp (map f xs)
  unfolding IsStrictlySortedBy
  sorted_out [] s = tt
  sorted_out (x ∷ xs) s = (all_out x xs s.0, sorted_out xs s.1)

  pub sorted_in : (xs : List X) → IsStrictlySortedBy cmp (map f xs) → IsStrictlySortedBy through xs
  unfolding IsStrictlySortedBy
  sorted_in [] s = tt
  sorted_in (x ∷ xs) s = (all_in x xs s.0, sorted_in xs s.1)
