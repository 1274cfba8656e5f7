-- The strings of a store with one tag, gathered and sorted.
use Rattle.std.proofs.Common.{Result, Ok, Err}
use Rattle.std.proofs.Common.{◌≡◌, inl, inr, ℕ, zero, suc, ◌+◌, ◌*◌, ◌<◌, ◌≤◌, take, drop, List}
use Rattle.std.proofs.Common.{[], ◌∷◌, ◌++◌, length, map, All, Bool, true, refl, sym, ap, subst, ◌∙◌, arith, nat_eq}
use Rattle.std.specs.Prelude.{◌↔◌, ◌&&◌, OnOk}
use Rattle.std.specs.Borrow.{Bor}
use Rattle.std.specs.Prelude.{slice_index}
use Rattle.std.specs.Int.{w64, from_be_bytes}
use Rattle.base64.specs.GeneralPurpose.{IsBytes}
use Rattle.std.proofs.lemmas.Bool.Decides.{nat_tests}
use Rattle.std.proofs.lemmas.List.{length-take-le, take-append-drop}
use Rattle.mirror_model.proofs.Listing.{head_or, later as cons_later}
use Rattle.std.specs.FinSet.{from_list}
use Rattle.std.specs.List.{Contains, AllByRecursion, dedup}
use Rattle.std.specs.List.Sorted.{IsPermutation, IsStrictlySortedBy}
use Rattle.std.specs.Ordering.{nat_cmp, ordering_then, eq_by_cmp}
use Rattle.std.specs.declared.cmp.Ordering.{Ordering}
use Rattle.std.specs.declared.cmp.Ordering.TheVariants.{Less, Equal, Greater}
use Rattle.std.specs.Cmp.{IsTotalOrder, IsEquivalence, eq_by_cmp_equiv, unsigned_ties, both_tied, first_so, second_so}
use Rattle.std.specs.Cmp.{then_total, on_total, nat_cmp_total}
use Rattle.std.specs.Cmp.Lexicographic.{slice_cmp, pointwise, lists_ties, on_texts}
use Rattle.std.proofs.lemmas.List.Elements.{Contains-append_left, Contains-append_right, Contains-append_cases}
use Rattle.std.proofs.lemmas.List.Elements.{recursion_from_All}
use Rattle.std.proofs.lemmas.List.Kept.{Any-dedup, Contains-from_dedup}
use Rattle.std.proofs.lemmas.List.Sorted.{Contains-permutation, IsPermutation-sym}
use Rattle.node_store.specs.Strings.{Strings, Has}
use Rattle.mirror_model.proofs.StringSets.{listed_from_has, has_from_listed}
use Rattle.mirror_files.specs.Listing.{HoldsEach, HoldsPart, ListsEach}
use Rattle.mirror_files.specs.Content.{Rises}
use Rattle.mirror_files.specs.Putting.{KeyedPair, pair_bytes, with_bytes, IsKeyed}
use Rattle.mirror_files.proofs.Mapped.{nothing_in, mapped, from_mapped}
use Rattle.node_store.proofs.Pools.{exact as exact_bytes}

-- ---- gathering, string by string

cons_here : {X : Type 0} (x y : X) (xs : List X) → x ≡ y → Contains (x ∷ xs) y
cons_here x y xs is = (zero, omega arith, is)

tail_of : List ℕ → List ℕ
tail_of [] = []
tail_of (x ∷ xs) = xs

module _ (tag : ℕ) (strings : Strings) where
  pub part_start : (items all : List (List ℕ)) → items ≡ [] → from_list all ≡ strings → HoldsPart tag strings items all
  part_start items all none is = subst (λ (i : List (List ℕ)). HoldsPart tag strings i all) (sym none) (λ e. (
    λ h. inr (listed_from_has all (tag ∷ e) (subst (λ (s : Strings). Has s (tag ∷ e)) (sym is) h)),
    λ h. elim h [
      | inl c ↦ absurd (nothing_in e c)
      | inr c ↦ subst (λ (s : Strings). Has s (tag ∷ e)) is (has_from_listed all (tag ∷ e) c)
    ],
  ))

  pub part_end : (items left : List (List ℕ)) → left ≡ [] → HoldsPart tag strings items left → HoldsEach tag strings items
  part_end items left none p = λ e. (
    λ c. (p e).1 (inl c),
    λ h. elim ((p e).0 h) [
      | inl c ↦ c
      | inr c ↦ absurd (nothing_in (tag ∷ e) (subst (λ (l : List (List ℕ)). Contains l (tag ∷ e)) none c))
    ],
  )

  module _ (items left after : List (List ℕ)) (p : HoldsPart tag strings items left) where
    -- a string with the tag
    pub part_more : (item : List ℕ) → left ≡ (tag ∷ item) ∷ after → HoldsPart tag strings (items ++ item ∷ []) after
    unfolding tail_of
    part_more item is = λ e. (
      λ h. elim ((p e).0 h) [
        | inl c ↦ inl (Contains-append_left items (item ∷ []) e c)
        | inr c ↦
            elim (head_or (tag ∷ item) after (tag ∷ e) (subst (λ (l : List (List ℕ)). Contains l (tag ∷ e)) is c)) [
              | inl same ↦ inl (Contains-append_right items (item ∷ []) e (cons_here item e [] (ap tail_of same)))
              | inr later ↦ inr later
            ]
      ],
      λ h. elim h [
        | inl c ↦ elim (Contains-append_cases items (item ∷ []) e c) [
          | inl before ↦ (p e).1 (inl before)
          | inr one ↦ elim (head_or item [] e one) [
            | inl same ↦ (p e).1 (inr (subst (λ (l : List (List ℕ)). Contains l (tag ∷ e)) (sym is)
                (cons_here (tag ∷ item) (tag ∷ e) after (ap (λ (x : List ℕ). tag ∷ x) same))))
            | inr none ↦ absurd (nothing_in e none)
          ]
        ]
        | inr later ↦ (p e).1 (inr (subst (λ (l : List (List ℕ)). Contains l (tag ∷ e)) (sym is)
            (cons_later (tag ∷ item) after (tag ∷ e) later)))
      ],
    )

    -- a string with another tag
    pub part_pass : (other : List ℕ) → ((e : List ℕ) → other ≡ tag ∷ e → ⊥) → left ≡ other ∷ after →
        HoldsPart tag strings items after
    part_pass other differs is = λ e. (
      λ h. elim ((p e).0 h) [
        | inl c ↦ inl c
        | inr c ↦ elim (head_or other after (tag ∷ e) (subst (λ (l : List (List ℕ)). Contains l (tag ∷ e)) is c)) [
          | inl same ↦ absurd (differs e same)
          | inr later ↦ inr later
        ]
      ],
      λ h. elim h [
        | inl c ↦ (p e).1 (inl c)
        | inr later ↦ (p e).1 (inr
            (subst (λ (l : List (List ℕ)). Contains l (tag ∷ e)) (sym is) (cons_later other after (tag ∷ e) later)))
      ],
    )

-- the items, sorted
pub sorted_each : (tag : ℕ) (strings : Strings) (items sorted : List (List ℕ)) → HoldsEach tag strings items →
    Rises sorted → ((e : List ℕ) → Contains sorted e ↔ Contains items e) → ListsEach tag strings sorted
sorted_each tag strings items sorted holds rises same = record {
  rises = rises;
  exact = λ e. (λ h. (holds e).0 ((same e).0 h), λ h. (same e).1 ((holds e).1 h));
}

-- the answer for two facts
pub both_ok : {T E P Q R : Type 0} (r : Result T E) → OnOk r P → OnOk r Q → (P → Q → R) → OnOk r R
both_ok (Ok x) p q f = f p q
both_ok (Err e) p q f = tt

-- ---- items in order, each once

module _ {X : Type 0} (bytes : X → List ℕ) {cmp : X → X → Ordering} (total : IsTotalOrder cmp) {same : X → X → Bool}
    (ties : (x y : X) → same x y ≡ eq_by_cmp cmp x y) (exact : (x y : X) → same x y ≡ true → bytes x ≡ bytes y) where
  equivalence : IsEquivalence same
  equivalence = subst IsEquivalence (λ i a b. sym (ties a b) i) (eq_by_cmp_equiv total)

  pub same_items : (old sorted new : List X) → IsPermutation old sorted → new ≡ dedup same sorted → (e : List ℕ) →
      Contains (map bytes new) e ↔ Contains (map bytes old) e
  same_items old sorted new moved is e = (
    λ c.
        let m = from_mapped bytes (dedup same sorted) e (subst (λ (xs : List X). Contains (map bytes xs) e) is c) in
        let there = Contains-permutation sorted old m.from (IsPermutation-sym old sorted moved)
        (Contains-from_dedup same sorted m.from m.is_in) in
        subst (Contains (map bytes old)) m.is (mapped bytes old m.from there),
    λ c.
        let m = from_mapped bytes old e c in
        let a = Any-dedup equivalence sorted m.from (Contains-permutation old sorted m.from moved m.is_in) in
        let there = mapped bytes (dedup same sorted) a.1 (a.0, a.2, a.3) in
        subst (λ (xs : List X). Contains (map bytes xs) e) (sym is)
        (subst (Contains (map bytes (dedup same sorted))) (sym (exact m.from a.1 a.4) ∙ m.is) there),
  )

-- items that rise by an order rise by their bytes, if both are the same order
module _ {X : Type 0} (bytes : X → List ℕ) (cmp : X → X → Ordering) (Fits : X → Type 0)
    (agrees : (x y : X) → Fits x → Fits y → cmp x y ≡ Less → slice_cmp nat_cmp (bytes x) (bytes y) ≡ Less) where
  all_above : (x : X) (xs : List X) → Fits x → AllByRecursion Fits xs → AllByRecursion (λ y. cmp x y ≡ Less) xs →
      AllByRecursion (λ y. slice_cmp nat_cmp (bytes x) y ≡ Less) (map bytes xs)
  all_above x [] fit fits h = tt
  all_above x (y ∷ ys) fit fits h = (agrees x y fit fits.0 h.0, all_above x ys fit fits.1 h.1)

  pub rises_by_bytes : (xs : List X) → AllByRecursion Fits xs → IsStrictlySortedBy cmp xs → Rises (map bytes xs)
  unfolding IsStrictlySortedBy
  rises_by_bytes [] fits s = tt
  rises_by_bytes (x ∷ xs) fits s = (all_above x xs fits.0 fits.1 s.0, rises_by_bytes xs fits.1 s.1)

-- ---- entries

abbrev pub lent_bytes : Bor (List ℕ) → List ℕ
lent_bytes lent = lent.now

abbrev pub lent_cmp : Bor (List ℕ) → Bor (List ℕ) → Ordering
lent_cmp a b = slice_cmp nat_cmp a.now b.now

abbrev pub lent_same : Bor (List ℕ) → Bor (List ℕ) → Bool
lent_same a b = pointwise nat_eq a.now b.now

pub lent_total : IsTotalOrder lent_cmp
lent_total = on_texts lent_bytes

pub lent_ties : (a b : Bor (List ℕ)) → lent_same a b ≡ eq_by_cmp lent_cmp a b
lent_ties a b = lists_ties nat_cmp unsigned_ties a.now b.now

pub lent_exact : (a b : Bor (List ℕ)) → lent_same a b ≡ true → lent_bytes a ≡ lent_bytes b
lent_exact a b h = exact_bytes a.now b.now h

all_units : {X : Type 0} (xs : List X) → AllByRecursion (λ (x : X). Unit {0}) xs
all_units [] = tt
all_units (x ∷ xs) = (tt, all_units xs)

pub entries_rise : (xs : List (Bor (List ℕ))) → IsStrictlySortedBy lent_cmp xs → Rises (map lent_bytes xs)
entries_rise xs s = rises_by_bytes lent_bytes lent_cmp (λ x. Unit {0}) (λ x y a b h. h) xs (all_units xs) s

-- ---- pairs

abbrev Pair : Type 0
Pair = Bor (List ℕ) × Bor (List ℕ)

abbrev pair_cmp : Pair → Pair → Ordering
pair_cmp a b = ordering_then (slice_cmp nat_cmp a.0.now b.0.now) (slice_cmp nat_cmp a.1.now b.1.now)

abbrev pair_same : Pair → Pair → Bool
pair_same a b = pointwise nat_eq a.0.now b.0.now && pointwise nat_eq a.1.now b.1.now

pair_total : IsTotalOrder pair_cmp
pair_total = then_total (on_texts (λ (p : Pair). p.0.now)) (on_texts (λ (p : Pair). p.1.now))

pair_ties : (a b : Pair) → pair_same a b ≡ eq_by_cmp pair_cmp a b
pair_ties a b = both_tied (pointwise nat_eq a.0.now b.0.now)
    (pointwise nat_eq a.1.now b.1.now) (slice_cmp nat_cmp a.0.now b.0.now) (slice_cmp nat_cmp a.1.now b.1.now)
    (lists_ties nat_cmp unsigned_ties a.0.now b.0.now) (lists_ties nat_cmp unsigned_ties a.1.now b.1.now)

pair_exact : (a b : Pair) → pair_same a b ≡ true → a.0.now ++ a.1.now ≡ b.0.now ++ b.1.now
pair_exact a b h =
    let left = exact_bytes a.0.now b.0.now
    (first_so (pointwise nat_eq a.0.now b.0.now) (pointwise nat_eq a.1.now b.1.now) h) in
    let right = exact_bytes a.1.now b.1.now
    (second_so (pointwise nat_eq a.0.now b.0.now) (pointwise nat_eq a.1.now b.1.now) h) in
    λ i. left i ++ right i

then_assoc : (o a b : Ordering) → ordering_then (ordering_then o a) b ≡ ordering_then o (ordering_then a b)
then_assoc Less a b = refl
then_assoc Equal a b = refl
then_assoc Greater a b = refl

-- for lists whose prefixes have one length, the prefixes decide first
cat_cmp : (l m r s : List ℕ) → length l ≡ length m →
    slice_cmp nat_cmp (l ++ r) (m ++ s) ≡ ordering_then (slice_cmp nat_cmp l m) (slice_cmp nat_cmp r s)
cat_cmp [] [] r s len = refl
cat_cmp [] (y ∷ ys) r s len = absurd cc
cat_cmp (x ∷ xs) [] r s len = absurd cc
cat_cmp (x ∷ xs) (y ∷ ys) r s len =
    let both : suc (length xs) ≡ suc (length ys) = len in
    ap (λ (o : Ordering). ordering_then (nat_cmp x y) o) (cat_cmp xs ys r s (omega (arith, both)))
    ∙ sym (then_assoc (nat_cmp x y) (slice_cmp nat_cmp xs ys) (slice_cmp nat_cmp r s))

-- ---- pairs after a number

abbrev pub keyed_cmp : KeyedPair → KeyedPair → Ordering
keyed_cmp a b = ordering_then (nat_cmp a.0 b.0) (pair_cmp a.1 b.1)

abbrev pub keyed_same : KeyedPair → KeyedPair → Bool
keyed_same a b = nat_eq a.0 b.0 && pair_same a.1 b.1

pub keyed_total : IsTotalOrder keyed_cmp
keyed_total = then_total (on_total (λ (p : KeyedPair). p.0) nat_cmp_total) (on_total (λ (p : KeyedPair). p.1) pair_total)

pub keyed_ties : (a b : KeyedPair) → keyed_same a b ≡ eq_by_cmp keyed_cmp a b
keyed_ties a b = both_tied (nat_eq a.0 b.0) (pair_same a.1 b.1) (nat_cmp a.0 b.0) (pair_cmp a.1 b.1)
    (unsigned_ties a.0 b.0) (pair_ties a.1 b.1)

pub keyed_exact : (a b : KeyedPair) → keyed_same a b ≡ true → pair_bytes a ≡ pair_bytes b
keyed_exact a b h = pair_exact a.1 b.1 (second_so (nat_eq a.0 b.0) (pair_same a.1 b.1) h)

-- one more byte is one more digit
place_cmp : (a b x y : ℕ) → x < 256 → y < 256 →
    nat_cmp (256 * a + x) (256 * b + y) ≡ ordering_then (nat_cmp a b) (nat_cmp x y)
place_cmp a b x y small small' = grind (arith, nat_tests)

then_equal : (o : Ordering) → o ≡ ordering_then o Equal
then_equal Less = refl
then_equal Equal = refl
then_equal Greater = refl

with_cmp : (a b : ℕ) (xs ys : List ℕ) → length xs ≡ length ys → IsBytes xs → IsBytes ys →
    nat_cmp (with_bytes a xs) (with_bytes b ys) ≡ ordering_then (nat_cmp a b) (slice_cmp nat_cmp xs ys)
with_cmp a b [] [] len small small' = then_equal (nat_cmp a b)
with_cmp a b [] (y ∷ ys) len small small' = absurd cc
with_cmp a b (x ∷ xs) [] len small small' = absurd cc
with_cmp a b (x ∷ xs) (y ∷ ys) len small small' =
    let both : suc (length xs) ≡ suc (length ys) = len in
    with_cmp (256 * a + x) (256 * b + y) xs ys (omega (arith, both)) (λ i. small (suc i)) (λ i. small' (suc i))
    ∙ (ap (λ (o : Ordering). ordering_then o (slice_cmp nat_cmp xs ys)) (place_cmp a b x y (small 0) (small' 0))
    ∙ then_assoc (nat_cmp a b) (nat_cmp x y) (slice_cmp nat_cmp xs ys))

front_bytes : (k : ℕ) (xs : List ℕ) → IsBytes xs → IsBytes (take k xs)
front_bytes zero xs small i = omega arith
front_bytes (suc k) [] small i = omega arith
front_bytes (suc k) (x ∷ xs) small zero = small 0
front_bytes (suc k) (x ∷ xs) small (suc i) = front_bytes k xs (λ j. small (suc j)) i

-- the number of eight bytes
pub front_key : (xs : List ℕ) → 8 ≤ length xs →
    from_be_bytes w64 (slice_index xs 0 ∷ slice_index xs 1 ∷ slice_index xs 2 ∷ slice_index xs 3 ∷ slice_index xs 4
    ∷ slice_index xs 5 ∷ slice_index xs 6 ∷ slice_index xs 7 ∷ []) ≡ with_bytes 0 (take 8 xs)
front_key (a ∷ b ∷ c ∷ d ∷ e ∷ f ∷ g ∷ h ∷ rest) long = omega arith
front_key [] long = absurd (omega (arith, long))
front_key (a ∷ []) long = absurd (omega (arith, long))
front_key (a ∷ b ∷ []) long = absurd (omega (arith, long))
front_key (a ∷ b ∷ c ∷ []) long = absurd (omega (arith, long))
front_key (a ∷ b ∷ c ∷ d ∷ []) long = absurd (omega (arith, long))
front_key (a ∷ b ∷ c ∷ d ∷ e ∷ []) long = absurd (omega (arith, long))
front_key (a ∷ b ∷ c ∷ d ∷ e ∷ f ∷ []) long = absurd (omega (arith, long))
front_key (a ∷ b ∷ c ∷ d ∷ e ∷ f ∷ g ∷ []) long = absurd (omega (arith, long))

-- if a prefix decides the order, the complete lists decide it in the same way
then_again : (o a b : Ordering) →
    ordering_then o (ordering_then (ordering_then o a) b) ≡ ordering_then (ordering_then o a) b
then_again Less a b = refl
then_again Equal a b = refl
then_again Greater a b = refl

-- the number puts pairs in the same order as their hashes
keyed_as_pair : (x y : KeyedPair) → IsKeyed x → IsKeyed y → keyed_cmp x y ≡ pair_cmp x.1 y.1
keyed_as_pair x y f g =
    let len : length (take 8 x.1.0.now) ≡ length (take 8 y.1.0.now) =
    length-take-le 8 x.1.0.now (omega (arith, f.sized)) ∙ sym (length-take-le 8 y.1.0.now (omega (arith, g.sized))) in
    let key : nat_cmp x.0 y.0 ≡ slice_cmp nat_cmp (take 8 x.1.0.now) (take 8 y.1.0.now) =
    (λ i. nat_cmp (f.key_is i) (g.key_is i))
    ∙ with_cmp 0 0 (take 8 x.1.0.now) (take 8 y.1.0.now) len
    (front_bytes 8 x.1.0.now f.small) (front_bytes 8 y.1.0.now g.small) in
    let left : slice_cmp nat_cmp x.1.0.now y.1.0.now
    ≡ ordering_then (slice_cmp nat_cmp (take 8 x.1.0.now) (take 8 y.1.0.now))
    (slice_cmp nat_cmp (drop 8 x.1.0.now) (drop 8 y.1.0.now)) =
    (λ i. slice_cmp nat_cmp (sym (take-append-drop 8 x.1.0.now) i) (sym (take-append-drop 8 y.1.0.now) i))
    ∙ cat_cmp (take 8 x.1.0.now) (take 8 y.1.0.now) (drop 8 x.1.0.now) (drop 8 y.1.0.now) len in
    let right = slice_cmp nat_cmp x.1.1.now y.1.1.now in
    (λ i. ordering_then (key i) (ordering_then (left i) right))
    ∙ (then_again (slice_cmp nat_cmp (take 8 x.1.0.now) (take 8 y.1.0.now))
    (slice_cmp nat_cmp (drop 8 x.1.0.now) (drop 8 y.1.0.now)) right
    ∙ ap (λ (o : Ordering). ordering_then o right) (sym left))

pub pairs_rise : (xs : List KeyedPair) → All IsKeyed xs → IsStrictlySortedBy keyed_cmp xs → Rises (map pair_bytes xs)
pairs_rise xs keyed s = rises_by_bytes pair_bytes keyed_cmp IsKeyed
    (λ x y a b h. cat_cmp x.1.0.now y.1.0.now x.1.1.now y.1.1.now (a.sized ∙ sym b.sized)
    ∙ (sym (keyed_as_pair x y a b) ∙ h)) xs (recursion_from_All IsKeyed xs keyed) s
