-- Consistency proofs.
use Rattle.std.proofs.Common.{rules, subst, Bool, true, false, inl, inr, ◌⊎◌, ◌≡◌, ℕ, zero, suc, ◌+◌, ◌-◌, ◌*◌, ◌%◌}
use Rattle.std.proofs.Common.{◌^◌, ◌<◌, ◌≤◌, List, [], ◌∷◌, ◌++◌, reverse, Option, None, sym, refl, ap, ◌∙◌, arith}
use Rattle.std.proofs.lemmas.List.{reverse-append}
use Rattle.std.proofs.lemmas.Bool.{cases_lt}
use Rattle.std.proofs.lemmas.Nat.{pow_pos, mul-le}
use Rattle.std.proofs.Math.Nat.{pow-succ'}
use Rattle.std.specs.Prelude.{nat_eq, nat_le}
use Rattle.std.specs.Option.{option_map}
use Rattle.tlog_shape.specs.Split.{split_of, IsPowerOfTwo}
use Rattle.tlog_shape.proofs.Splits.{split_of-below, split_of-positive, split_of-power, split_of-half}
use Rattle.tlog_hash.specs.Tree.{Tree, One, Join, size_of}
use Rattle.tlog_proof.specs.Climb.{climb}
use Rattle.tlog_hash.specs.Shape.{shape}
use Rattle.tlog_proof.specs.Consistency.{at_end, both_right, both_left, cons_in, cons}
use Rattle.tlog_hash.proofs.Cuts.{split_of-blocks}
use Rattle.tlog_hash.proofs.Shapes.{shape-one, shape-join, size_of-shape}
use Rattle.tlog_proof.proofs.Climbing.{climb-left, climb-right}

-- n items make count blocks of 2^j, and the last block may be shorter; m items make exactly c + 1 full blocks
pub record IsCounted (j n count m c : ℕ) : Type 0 where
  pub upto : n ≤ count * 2 ^ j
  pub above : count * 2 ^ j < n + 2 ^ j
  pub first_is : m ≡ (c + 1) * 2 ^ j
  pub even : c % 2 ≡ 0

-- the value that the climb begins with: g if m is a power of two, and otherwise the first hash of the path
abbrev pub IsStart : ℕ → List ℕ → List ℕ → List (List ℕ) → List (List ℕ) → Type 0
IsStart c g v rest path = ((c ≡ 0) × (path ≡ rest) × (g ≡ v)) ⊎ ((0 < c) × (path ≡ v ∷ rest))

from_products : (i k c : ℕ) → i * c < k * c → i < k
from_products i k c h =
    elim (cases_lt i k) [
      | inl a ↦ a
      | inr a ↦ let le : k * c ≤ i * c =
          mul-le _ _ _ _ a (omega arith) in absurd (omega arith)
    ]

-- the only odd power of two is 1
odd_power : (k : ℕ) → IsPowerOfTwo k → k % 2 ≡ 1 → k ≡ 1
odd_power k h odd = at h.exponent h.is
  where
    at : (e : ℕ) → k ≡ 2 ^ e → k ≡ 1
    at zero is = is
    at (suc e) is = let twice = pow-succ' 2 e in absurd (omega (arith, is, twice))

-- a power of two other than 1 is even
even_power : (k : ℕ) → IsPowerOfTwo k → 2 ≤ k → k % 2 ≡ 0
even_power k h two =
    elim (cases_lt (k % 2) 1) [
      | inl lt ↦ omega arith
      | inr le ↦ let one : k ≡ 1 =
          odd_power k h (omega arith) in absurd (omega arith)
    ]

pub not_equal : (a b : ℕ) → a < b → nat_eq a b ≡ false
not_equal a b h = search rules

pub at_most : (a b : ℕ) → a ≤ b → nat_le a b ≡ true
at_most a b h = search rules

pub not_at_most : (a b : ℕ) → b < a → nat_le a b ≡ false
not_at_most a b h = search rules

pub equal : (a b : ℕ) → a ≡ b → nat_eq a b ≡ true
equal a b h = search rules

module _ (digest : List ℕ → List ℕ) where
  pub cons-left : (l r : Tree ℕ) (m : ℕ) (flag : Bool) (g c : List ℕ) (q : List (List ℕ)) → m < size_of l + size_of r →
      m ≤ size_of l →
      cons_in digest (Join l r) m flag g (c ∷ q) ≡ option_map (both_right digest c) (cons_in digest l m flag g q)
  cons-left l r m flag g c q below le = rw (not_equal m (size_of l + size_of r) below, at_most m (size_of l) le)

  pub cons-right : (l r : Tree ℕ) (m : ℕ) (flag : Bool) (g c : List ℕ) (q : List (List ℕ)) → m < size_of l + size_of r →
      size_of l < m →
      cons_in digest (Join l r) m flag g (c ∷ q)
      ≡ option_map (both_left digest c) (cons_in digest r (m - size_of l) false g q)
  cons-right l r m flag g c q below lt = rw (not_equal m (size_of l + size_of r) below, not_at_most m (size_of l) lt)

  pub cons-short : (l r : Tree ℕ) (m : ℕ) (flag : Bool) (g : List ℕ) → m < size_of l + size_of r →
      cons_in digest (Join l r) m flag g [] ≡ None
  cons-short l r m flag g below = rw (not_equal m (size_of l + size_of r) below)

  pub cons-whole : (l r : Tree ℕ) (m : ℕ) (flag : Bool) (g : List ℕ) (path : List (List ℕ)) →
      m ≡ size_of l + size_of r → cons_in digest (Join l r) m flag g path ≡ at_end flag g path
  cons-whole l r m flag g [] is = rw (equal m (size_of l + size_of r) is)
  cons-whole l r m flag g (c ∷ path) is = rw (equal m (size_of l + size_of r) is)

  pub cons-one : (m : ℕ) (flag : Bool) (g : List ℕ) (path : List (List ℕ)) → m ≡ 1 →
      cons_in digest (One 0) m flag g path ≡ at_end flag g path
  cons-one m flag g path is = rw (equal m 1 is)

  pub sizes : (n : ℕ) → 2 ≤ n → size_of (shape (split_of n)) + size_of (shape (n - split_of n)) ≡ n
  sizes n two =
      let b = split_of-below n two in let l =
      size_of-shape (split_of n) in let r = size_of-shape (n - split_of n) in omega (arith, b, l, r)

  -- the first tree is the whole tree
  pub whole : (n : ℕ) (flag : Bool) (g : List ℕ) (path : List (List ℕ)) → 1 ≤ n →
      cons_in digest (shape n) n flag g path ≡ at_end flag g path
  whole n flag g path some = elim (cases_lt 1 n) [
    | inr le ↦ let one : n ≡ 1 =
        omega arith in ap (λ t. cons_in digest t n flag g path) (ap shape one ∙ shape-one) ∙ cons-one n flag g path one
    | inl two ↦ ap (λ t. cons_in digest t n flag g path) (shape-join n two) ∙
        cons-whole (shape (split_of n)) (shape (n - split_of n)) n flag g path (sym (sizes n two))
  ]

  -- an empty path shows nothing, unless the first tree with its known root is the whole tree
  pub none_at : (n m : ℕ) (flag : Bool) (g : List ℕ) → 1 ≤ m → m ≤ n → (flag ≡ false) ⊎ (m < n) →
      cons_in digest (shape n) m flag g [] ≡ None
  none_at n m flag g some le why = elim (cases_lt m n) [
    | inl lt ↦ ap (λ t. cons_in digest t m flag g []) (shape-join n (omega arith)) ∙
        cons-short (shape (split_of n)) (shape (n - split_of n)) m flag g (omega (arith, sizes n (omega arith)))
    | inr ge ↦
        let same : m ≡ n = omega arith in
        elim why [
          | inr lt ↦ absurd (omega arith)
          | inl is ↦ ap (λ k. cons_in digest (shape n) k flag g []) same ∙
              whole n flag g [] (omega arith) ∙ ap (λ b. at_end b g []) is
        ]
  ]

  -- like IsStart, for a path with its last hash first
  abbrev IsTurned : Bool → ℕ → List ℕ → List ℕ → List (List ℕ) → List (List ℕ) → Type 0
  IsTurned flag c g v rq path =
      ((flag ≡ true) × (c ≡ 0) × (path ≡ rq) × (g ≡ v)) ⊎ (((flag ≡ false) ⊎ (0 < c)) × (path ≡ rq ++ v ∷ []))

  module _ (j : ℕ) (g v : List ℕ) where
    abbrev value : List ℕ × List ℕ
    value = (v, v)

    abbrev up : Tree ℕ → ℕ → List (List ℕ) → Option (List ℕ × List ℕ)
    up t c rq = climb (both_right digest) (both_left digest) t c value rq

    ends : (flag : Bool) (rq path : List (List ℕ)) → IsTurned flag 0 g v rq path → at_end flag g path ≡ up (One 0) 0 rq
    ends flag [] path (inl h) = (λ i. at_end (h.0 i) (h.3 i) (h.2 i))
    ends flag (z ∷ rq) path (inl h) = (λ i. at_end (h.0 i) g (h.2 i))
    ends flag [] path (inr h) = elim h.0 [ inl f ↦ (λ i. at_end (f i) g (h.1 i)) | inr some ↦ absurd (omega arith) ]
    ends flag (z ∷ []) path (inr h) =
        elim h.0 [ inl f ↦ (λ i. at_end (f i) g (h.1 i)) | inr some ↦ absurd (omega arith) ]
    ends flag (z ∷ y ∷ rq) path (inr h) =
        elim h.0 [ inl f ↦ (λ i. at_end (f i) g (h.1 i)) | inr some ↦ absurd (omega arith) ]

    record GoesLeft (a b : Tree ℕ) (m c : ℕ) (flag : Bool) : Type 0 where
      inside : m ≤ size_of a
      inside_up : c < size_of b
      same : (rq path : List (List ℕ)) → IsTurned flag c g v rq path → cons_in digest a m flag g path ≡ up b c rq
      none : (flag ≡ false) ⊎ (0 < c) → cons_in digest a m flag g [] ≡ None

    record GoesRight (l a k b : Tree ℕ) (m c : ℕ) : Type 0 where
      past : size_of l < m
      past_up : size_of k ≤ c
      some : 0 < c
      same : (rq path : List (List ℕ)) → IsTurned false (c - size_of k) g v rq path →
          cons_in digest a (m - size_of l) false g path ≡ up b (c - size_of k) rq
      none : cons_in digest a (m - size_of l) false g [] ≡ None

    split_step : (l a k b : Tree ℕ) (m c : ℕ) (flag : Bool) → m < size_of l + size_of a →
        GoesLeft l k m c flag ⊎ GoesRight l a k b m c → (rq path : List (List ℕ)) → IsTurned flag c g v rq path →
        cons_in digest (Join l a) m flag g path ≡ up (Join k b) c rq
    split_step l a k b m c flag below goes [] path (inl h) =
        ap (cons_in digest (Join l a) m flag g) h.2 ∙ cons-short l a m flag g below
    split_step l a k b m c flag below (inl s) [] path (inr h) =
        ap (cons_in digest (Join l a) m flag g) h.1 ∙ cons-left l a m flag g v [] below s.inside ∙
        ap (option_map (both_right digest v)) (s.none h.0)
    split_step l a k b m c flag below (inr s) [] path (inr h) =
        ap (cons_in digest (Join l a) m flag g) h.1 ∙ cons-right l a m flag g v [] below s.past ∙
        ap (option_map (both_left digest v)) s.none
    split_step l a k b m c flag below (inl s) (z ∷ rq) path (inl h) =
        ap (cons_in digest (Join l a) m flag g) h.2 ∙ cons-left l a m flag g z rq below s.inside ∙
        ap (option_map (both_right digest z)) (s.same rq rq (inl (h.0, h.1, refl, h.3))) ∙
        sym (climb-left (both_right digest) (both_left digest) k b c value z rq s.inside_up)
    split_step l a k b m c flag below (inr s) (z ∷ rq) path (inl h) = absurd (omega (arith, s.some, h.1))
    split_step l a k b m c flag below (inl s) (z ∷ rq) path (inr h) =
        ap (cons_in digest (Join l a) m flag g) h.1 ∙ cons-left l a m flag g z (rq ++ v ∷ []) below s.inside ∙
        ap (option_map (both_right digest z)) (s.same rq (rq ++ v ∷ []) (inr (h.0, refl))) ∙
        sym (climb-left (both_right digest) (both_left digest) k b c value z rq s.inside_up)
    split_step l a k b m c flag below (inr s) (z ∷ rq) path (inr h) =
        ap (cons_in digest (Join l a) m flag g) h.1 ∙ cons-right l a m flag g z (rq ++ v ∷ []) below s.past ∙
        ap (option_map (both_left digest z)) (s.same rq (rq ++ v ∷ []) (inr (inl refl, refl))) ∙
        sym (climb-right (both_right digest) (both_left digest) k b c value z rq s.past_up)

    -- `cons` is a climb from the last whole block of the first tree
    pub cons_up : (f n count m c : ℕ) (flag : Bool) → n ≤ f → IsCounted j n count m c →
        (m < n) ⊎ ((m ≡ n) × (n ≡ 2 ^ j)) → (rq path : List (List ℕ)) → IsTurned flag c g v rq path →
        cons_in digest (shape n) m flag g path ≡ up (shape count) c rq
    cons_up f n count m c flag fuel h (inr e) rq path start =
        let b = 2 ^ j in
        let some : 0 < b = pow_pos j in
        let one_b : 1 * b ≡ b = omega arith in
        let zero_b : 0 * b ≡ 0 = omega arith in
        let two_b : 2 * b ≡ b + b = omega arith in
        let count_low : 0 < count = from_products 0 count b (omega (arith, h.upto, e.1)) in
        let count_high : count < 2 = from_products count 2 b (omega (arith, h.above, e.1)) in
        let c_low : c + 1 < 2 = from_products (c + 1) 2 b (omega (arith, h.first_is, e.0, e.1)) in
        let count_is : count ≡ 1 = omega arith in
        let c_is : c ≡ 0 = omega arith in
        ap (λ k. cons_in digest (shape n) k flag g path) e.0 ∙ whole n flag g path (omega (arith, e.1)) ∙
        ends flag rq path (subst (λ k. IsTurned flag k g v rq path) c_is start) ∙
        sym (λ i. up ((ap shape count_is ∙ shape-one) i) (c_is i) rq)
    cons_up zero n count m c flag fuel h (inl lt) rq path start = absurd (omega arith)
    cons_up (suc f) n count m c flag fuel h (inl lt) rq path start =
        let b = 2 ^ j in
        let some : 0 < b = pow_pos j in
        let c1 : (c + 1) * b ≡ c * b + b = omega arith in
        let c_count : c + 1 < count = from_products (c + 1) count b (omega (arith, h.upto, h.first_is)) in
        let two_count : 2 ≤ count = omega arith in
        let two : 2 ≤ n = omega (arith, h.first_is, c1) in
        let k2 = split_of count in
        let k = split_of n in
        let k_is : k2 * b ≡ k = split_of-blocks j count n two_count h.above h.upto in
        let below : k < n = split_of-below n two in
        let positive : 0 < k = split_of-positive n two in
        let below_2 : k2 < count = split_of-below count two_count in
        let some_2 : 0 < k2 = split_of-positive count two_count in
        let power = split_of-power count two_count in
        let half = split_of-half count two_count in
        let sk : size_of (shape k) ≡ k = size_of-shape k in
        let sk2 : size_of (shape k2) ≡ k2 = size_of-shape k2 in
        let total = sizes n two in
        ap (λ t. cons_in digest t m flag g path) (shape-join n two)
        ∙ split_step (shape k) (shape (n - k)) (shape k2) (shape (count - k2)) m c flag (omega (arith, total))
        (elim (cases_lt c k2) [
          | inl inside ↦
              let le : (c + 1) * b ≤ k2 * b = mul-le _ _ _ _ (omega arith) (omega arith) in
              let m_k : m ≤ k = omega (arith, h.first_is, le, k_is) in
              let last : (m < k) ⊎ ((m ≡ k) × (k ≡ b)) = elim (cases_lt (c + 1) k2) [
                | inl less ↦
                    (let c2 : (c + 2) * b ≡ c * b + (b + b) =
                    omega arith in let le2 : (c + 2) * b ≤ k2 * b =
                    mul-le _ _ _ _ (omega arith) (omega arith) in inl (omega (arith, h.first_is, k_is, c1, c2, le2)))
                | inr same ↦
                    let is : k2 ≡ c + 1 = omega arith in
                    let one : k2 ≡ 1 = odd_power k2 power (omega (arith, h.even, is)) in
                    let kb : k ≡ b = sym k_is ∙ ap (λ x. x * b) one ∙ omega arith in
                    let cb : (c + 1) * b ≡ k2 * b = ap (λ x. x * b) (sym is) in
                    inr (omega (arith, h.first_is, k_is, cb), kb)
              ] in
              inl (record {
                inside = omega arith;
                inside_up = omega arith;
                same = cons_up f k k2 m c flag (omega arith)
                    (record {
                      upto =
                          omega (arith, k_is);
                      above = omega (arith, k_is);
                      first_is = h.first_is;
                      even = h.even;
                    }) last;
                none = λ why. none_at k m flag g (omega (arith, h.first_is, c1)) m_k
                    (elim why [
                      | inl x ↦ inl x
                      | inr x ↦ elim last [
                        | inl y ↦ inr y
                        | inr y ↦
                            (let over : 2 * b ≤ (c + 1) * b =
                            mul-le _ _ _ _ (omega arith) (omega arith) in absurd
                            (omega (arith, over, h.first_is, y.0, y.1)))
                      ]
                    ]);
              })
          | inr past ↦
              let le : k2 * b ≤ c * b = mul-le _ _ _ _ past (omega arith) in
              let e : c - k2 ≡ c - size_of (shape k2) = omega arith in
              let em : m - k ≡ m - size_of (shape k) = omega arith in
              let two_2 : 2 ≤ k2 = omega (arith, half) in
              let evens = even_power k2 power two_2 in
              let back : (c - k2) + k2 ≡ c = omega arith in
              let parts : (c - k2) * b + k2 * b ≡ c * b =
              (let sum : ((c - k2) + k2) * b ≡ (c - k2) * b + k2 * b =
              omega arith in sym sum ∙ ap (λ x. x * b) back) in
              let c1' : ((c - k2) + 1) * b ≡ (c - k2) * b + b = omega arith in
              let rest : (count - k2) * b + k2 * b ≡ count * b =
              (let back' : (count - k2) + k2 ≡ count =
              omega arith in let sum : ((count - k2) + k2) * b ≡ (count - k2) * b + k2 * b =
              omega arith in sym sum ∙ ap (λ x. x * b) back') in
              inr (record {
                past = omega (arith, h.first_is, c1, k_is, le);
                past_up = omega arith;
                some = omega arith;
                same = λ rq' path' start'. subst
                    (λ x. cons_in digest (shape (n - k)) x false g path'
                    ≡ up (shape (count - k2)) (c - size_of (shape k2)) rq') em
                    (subst (λ x. cons_in digest (shape (n - k)) (m - k) false g path' ≡ up (shape (count - k2)) x rq') e
                    (cons_up f (n - k) (count - k2) (m - k) (c - k2) false (omega arith)
                    (record {
                      upto =
                          omega (arith, h.upto, rest, k_is);
                      above =
                          omega (arith, h.above, rest, k_is);
                      first_is =
                          omega (arith, h.first_is, c1, c1', parts, k_is, le);
                      even = omega (arith, h.even, evens);
                    })
                    (inl (omega (arith, h.first_is, c1, k_is, le))) rq' path'
                    (subst (λ x. IsTurned false x g v rq' path') (sym e) start')));
                none = subst (λ x. cons_in digest (shape (n - k)) x false g [] ≡ None) em
                    (none_at (n - k) (m - k) false g (omega (arith, h.first_is, c1, k_is, le)) (omega arith)
                    (inl refl));
              })
        ]) rq path start
        ∙ sym (ap (λ t. up t c rq) (shape-join count two_count))

-- `cons` read from the leaves up
pub cons_climbs : (digest : List ℕ → List ℕ) (j n count m c : ℕ) → IsCounted j n count m c → m < n →
    (g v : List ℕ) (rest path : List (List ℕ)) → IsStart c g v rest path →
    cons digest m n true g path ≡ climb (both_right digest) (both_left digest) (shape count) c (v, v) (reverse rest)
unfolding cons
cons_climbs digest j n count m c h lt g v rest path start =
    cons_up digest j g v n n count m c true (omega arith) h (inl lt) (reverse rest) (reverse path)
    (elim start [
      | inl s ↦ inl (refl, s.0, ap reverse s.1, s.2)
      | inr s ↦ inr
          (inr s.0, ap reverse s.1 ∙ reverse-append (v ∷ []) rest)
    ])
