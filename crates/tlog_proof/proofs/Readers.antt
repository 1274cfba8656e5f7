-- The equations of `incl` and `cons`, and that no other function meets them.
use Rattle.std.proofs.Common.{rules, Bool, true, false, ◌⊎◌, inl, inr, ◌≡◌, ℕ, ◌+◌, ◌-◌, ◌<◌, ◌≤◌, List, [], ◌∷◌, ◌++◌}
use Rattle.std.proofs.Common.{reverse, Option, Some, None, sym, refl, ap, ◌∙◌, arith}
use Rattle.std.proofs.lemmas.List.{reverse-append, reverse-reverse}
use Rattle.std.proofs.lemmas.Bool.{cases_lt}
use Rattle.std.specs.Prelude.{nat_eq}
use Rattle.std.specs.Option.{option_map}
use Rattle.tlog_shape.specs.Split.{split_of}
use Rattle.tlog_shape.proofs.Splits.{split_of-below}
use Rattle.tlog_hash.specs.Tree.{Tree, Empty, One, Join, size_of}
use Rattle.tlog_hash.specs.Shape.{shape}
use Rattle.tlog_hash.proofs.Trees.{tree_of-none}
use Rattle.tlog_hash.proofs.Shapes.{shape-one, shape-join, size_of-shape}
use Rattle.tlog_proof.specs.Inclusion.{hash_right, hash_left, incl_in, incl}
use Rattle.tlog_proof.specs.Consistency.{at_end, both_right, both_left, cons_in, cons}
use Rattle.tlog_proof.specs.Laws.{IsPathReader, InclEquations, IsSubproofReader, ConsEquations}
use Rattle.tlog_proof.proofs.Climbing.{climb-left, climb-right, none_empty}
use Rattle.tlog_proof.proofs.Consistencies.{not_at_most, sizes, whole, cons-left, cons-right, cons-short}

shape-none : shape 0 ≡ Empty
unfolding shape
shape-none = tree_of-none

-- the last hash of a path is the first hash of the reversed path
last-first : (path : List (List ℕ)) (hash : List ℕ) → reverse (path ++ hash ∷ []) ≡ hash ∷ reverse path
last-first path hash = reverse-append path (hash ∷ [])

-- a tree has no leaf, one leaf, or more
three : (n : ℕ) → (n ≡ 0) ⊎ ((n ≡ 1) ⊎ (2 ≤ n))
three n =
    elim (cases_lt n 1) [
      | inl a ↦ inl (omega arith)
      | inr a ↦ elim
          (cases_lt n 2) [ inl b ↦ inr (inl (omega arith)) | inr b ↦ inr (inr b) ]
    ]

module _ (digest : List ℕ → List ℕ) where
  incl-none : (i : ℕ) (h : List ℕ) (rq : List (List ℕ)) → incl_in digest (shape 0) i h rq ≡ None
  incl-none i h rq = ap (λ t. incl_in digest t i h rq) shape-none

  incl-one : (i : ℕ) (h : List ℕ) → incl_in digest (shape 1) i h [] ≡ Some h
  incl-one i h = ap (λ t. incl_in digest t i h []) shape-one

  incl-one_long : (i : ℕ) (h p : List ℕ) (rq : List (List ℕ)) → incl_in digest (shape 1) i h (p ∷ rq) ≡ None
  incl-one_long i h p rq = ap (λ t. incl_in digest t i h (p ∷ rq)) shape-one

  incl-left : (i n : ℕ) (h p : List ℕ) (rq : List (List ℕ)) → 2 ≤ n → i < split_of n →
      incl_in digest (shape n) i h (p ∷ rq)
      ≡ option_map (hash_right digest p) (incl_in digest (shape (split_of n)) i h rq)
  incl-left i n h p rq two inside =
      let k = split_of n in
      let sk = size_of-shape k in
      ap (λ t. incl_in digest t i h (p ∷ rq)) (shape-join n two) ∙
      climb-left (hash_right digest) (hash_left digest) (shape k) (shape (n - k)) i h p rq (omega arith)

  incl-right : (i n : ℕ) (h p : List ℕ) (rq : List (List ℕ)) → 2 ≤ n → split_of n ≤ i →
      incl_in digest (shape n) i h (p ∷ rq)
      ≡ option_map (hash_left digest p) (incl_in digest (shape (n - split_of n)) (i - split_of n) h rq)
  incl-right i n h p rq two past =
      let k = split_of n in
      let sk = size_of-shape k in
      ap (λ t. incl_in digest t i h (p ∷ rq)) (shape-join n two) ∙
      climb-right (hash_right digest) (hash_left digest) (shape k) (shape (n - k)) i h p rq (omega arith)
      ∙ ap (λ j. option_map (hash_left digest p) (incl_in digest (shape (n - k)) (i - j) h rq)) sk

  only_incl : (read : ℕ → ℕ → List ℕ → List (List ℕ) → Option (List ℕ)) → IsPathReader digest read →
      (rq : List (List ℕ)) (i n : ℕ) (h : List ℕ) → read i n h (reverse rq) ≡ incl_in digest (shape n) i h rq
  only_incl read e [] i n h = elim (three n) [
    | inl z ↦ ap (λ m. read i m h []) z ∙ e.none i h [] ∙
        sym (ap (λ m. incl_in digest (shape m) i h []) z ∙ incl-none i h [])
    | inr (inl o) ↦ ap (λ m. read i m h []) o ∙ e.one i h ∙
        sym (ap (λ m. incl_in digest (shape m) i h []) o ∙ incl-one i h)
    | inr (inr two) ↦ e.short i n h two ∙ sym (none_empty (hash_right digest) (hash_left digest) n i h two)
  ]
  only_incl read e (p ∷ rq) i n h = ap (read i n h) (reverse-append (p ∷ []) rq) ∙ elim (three n) [
    | inl z ↦ ap (λ m. read i m h (reverse rq ++ p ∷ [])) z ∙ e.none i h (reverse rq ++ p ∷ []) ∙
        sym (ap (λ m. incl_in digest (shape m) i h (p ∷ rq)) z ∙ incl-none i h (p ∷ rq))
    | inr (inl o) ↦ ap (λ m. read i m h (reverse rq ++ p ∷ [])) o ∙ e.one_long i h p (reverse rq) ∙
        sym (ap (λ m. incl_in digest (shape m) i h (p ∷ rq)) o ∙ incl-one_long i h p rq)
    | inr (inr two) ↦ elim (cases_lt i (split_of n)) [
      | inl inside ↦ e.left i n h p (reverse rq) two inside ∙
          ap (option_map (hash_right digest p)) (only_incl read e rq i (split_of n) h) ∙
          sym (incl-left i n h p rq two inside)
      | inr past ↦ e.right i n h p (reverse rq) two past ∙
          ap (option_map (hash_left digest p)) (only_incl read e rq (i - split_of n) (n - split_of n) h) ∙
          sym (incl-right i n h p rq two past)
    ]
  ]

pub incl_equations : InclEquations
unfolding incl
incl_equations digest = (
  record {
    none = λ i h path. incl-none digest i h (reverse path);
    one = λ i h. incl-one digest i h;
    one_long =
        λ i h p path. ap (incl_in digest (shape 1) i h) (last-first path p) ∙ incl-one_long digest i h p (reverse path);
    short = λ i n h two. none_empty (hash_right digest) (hash_left digest) n i h two;
    left = λ i n h p path two inside. ap (incl_in digest (shape n) i h) (last-first path p) ∙
        incl-left digest i n h p (reverse path) two inside;
    right = λ i n h p path two past. ap (incl_in digest (shape n) i h) (last-first path p) ∙
        incl-right digest i n h p (reverse path) two past;
  },
  λ read e i n h path. ap (read i n h) (sym (reverse-reverse path)) ∙ only_incl digest read e (reverse path) i n h,
)

-- ---- consistency

-- two hashes or more are too many
end-long : (flag : Bool) (g y z : List ℕ) (xs : List (List ℕ)) → at_end flag g ((xs ++ y ∷ []) ++ z ∷ []) ≡ None
end-long true g y z [] = refl
end-long true g y z (x ∷ xs) = refl
end-long false g y z [] = refl
end-long false g y z (x ∷ []) = refl
end-long false g y z (x ∷ w ∷ xs) = refl

-- at_end gives the same result for the reversed path
end-turned : (flag : Bool) (g : List ℕ) (path : List (List ℕ)) → at_end flag g (reverse path) ≡ at_end flag g path
end-turned flag g [] = refl
end-turned true g (h ∷ []) = refl
end-turned false g (h ∷ []) = refl
end-turned flag g (h ∷ z ∷ path) =
    ap (at_end flag g) (reverse-append (h ∷ []) (z ∷ path) ∙ ap (λ xs. xs ++ h ∷ []) (reverse-append (z ∷ []) path)) ∙
    end-long flag g z h (reverse path) ∙ sym (none flag)
  where
    none : (flag : Bool) → at_end flag g (h ∷ z ∷ path) ≡ None
    none true = refl
    none false = refl

pub equal_not : (a b : ℕ) → b < a → nat_eq a b ≡ false
equal_not a b h = search rules

module _ (digest : List ℕ → List ℕ) where
  cons-one_none : (flag : Bool) (g : List ℕ) (rq : List (List ℕ)) → cons_in digest (shape 1) 0 flag g rq ≡ None
  cons-one_none flag g rq = ap (λ t. cons_in digest t 0 flag g rq) shape-one

  cons-empty : (m : ℕ) (flag : Bool) (g : List ℕ) (rq : List (List ℕ)) → cons_in digest (shape 0) m flag g rq ≡ None
  cons-empty m flag g rq = ap (λ t. cons_in digest t m flag g rq) shape-none

  cons-none : (flag : Bool) (g : List ℕ) (rq : List (List ℕ)) (n : ℕ) → cons_in digest (shape n) 0 flag g rq ≡ None
  cons-none flag g [] n = elim (three n) [
    | inl z ↦ ap (λ m. cons_in digest (shape m) 0 flag g []) z ∙ cons-empty 0 flag g []
    | inr (inl o) ↦ ap (λ m. cons_in digest (shape m) 0 flag g []) o ∙ cons-one_none flag g []
    | inr (inr two) ↦ ap (λ t. cons_in digest t 0 flag g []) (shape-join n two) ∙
        cons-short digest (shape (split_of n)) (shape (n - split_of n)) 0 flag g (omega (arith, sizes digest n two))
  ]
  cons-none flag g (p ∷ rq) n = elim (three n) [
    | inl z ↦ ap (λ m. cons_in digest (shape m) 0 flag g (p ∷ rq)) z ∙ cons-empty 0 flag g (p ∷ rq)
    | inr (inl o) ↦ ap (λ m. cons_in digest (shape m) 0 flag g (p ∷ rq)) o ∙ cons-one_none flag g (p ∷ rq)
    | inr (inr two) ↦
        ap (λ t. cons_in digest t 0 flag g (p ∷ rq)) (shape-join n two)
        ∙ cons-left digest (shape (split_of n)) (shape (n - split_of n)) 0 flag g p rq
        (omega (arith, sizes digest n two)) (omega arith)
        ∙ ap (option_map (both_right digest p)) (cons-none flag g rq (split_of n))
  ]

  join-beyond : (l r : Tree ℕ) (m : ℕ) (flag : Bool) (g : List ℕ) → size_of l + size_of r < m →
      cons_in digest (Join l r) m flag g [] ≡ None
  join-beyond l r m flag g past = rw (equal_not m (size_of l + size_of r) past)

  join-beyond_more : (l r : Tree ℕ) (m : ℕ) (flag : Bool) (g p : List ℕ) (rq : List (List ℕ)) →
      size_of l + size_of r < m →
      cons_in digest (Join l r) m flag g (p ∷ rq)
      ≡ option_map (both_left digest p) (cons_in digest r (m - size_of l) false g rq)
  join-beyond_more l r m flag g p rq past =
      rw (equal_not m (size_of l + size_of r) past, not_at_most m (size_of l) (omega arith))

  one-beyond : (m : ℕ) (flag : Bool) (g : List ℕ) (rq : List (List ℕ)) → 1 < m →
      cons_in digest (One 0) m flag g rq ≡ None
  one-beyond m flag g rq past = rw (equal_not m 1 past)

  cons-beyond : (flag : Bool) (g : List ℕ) (rq : List (List ℕ)) (m n : ℕ) → n < m →
      cons_in digest (shape n) m flag g rq ≡ None
  cons-beyond flag g [] m n past = elim (three n) [
    | inl z ↦ ap (λ k. cons_in digest (shape k) m flag g []) z ∙ cons-empty m flag g []
    | inr (inl o) ↦ ap (λ t. cons_in digest t m flag g []) (ap shape o ∙ shape-one) ∙
        one-beyond m flag g [] (omega arith)
    | inr (inr two) ↦ ap (λ t. cons_in digest t m flag g []) (shape-join n two) ∙
        join-beyond (shape (split_of n)) (shape (n - split_of n)) m flag g (omega (arith, sizes digest n two))
  ]
  cons-beyond flag g (p ∷ rq) m n past = elim (three n) [
    | inl z ↦ ap (λ k. cons_in digest (shape k) m flag g (p ∷ rq)) z ∙ cons-empty m flag g (p ∷ rq)
    | inr (inl o) ↦ ap (λ t. cons_in digest t m flag g (p ∷ rq)) (ap shape o ∙ shape-one) ∙
        one-beyond m flag g (p ∷ rq) (omega arith)
    | inr (inr two) ↦
        let below = split_of-below n two in
        let sk = size_of-shape (split_of n) in
        ap (λ t. cons_in digest t m flag g (p ∷ rq)) (shape-join n two)
        ∙ join-beyond_more (shape (split_of n)) (shape (n - split_of n)) m flag g p rq
        (omega (arith, sizes digest n two))
        ∙ ap (option_map (both_left digest p))
        (cons-beyond false g rq (m - size_of (shape (split_of n))) (n - split_of n) (omega arith))
  ]

  step-left : (m n : ℕ) (flag : Bool) (g p : List ℕ) (rq : List (List ℕ)) → 0 < m → m < n → m ≤ split_of n →
      cons_in digest (shape n) m flag g (p ∷ rq)
      ≡ option_map (both_right digest p) (cons_in digest (shape (split_of n)) m flag g rq)
  step-left m n flag g p rq some lt inside =
      let two : 2 ≤ n = omega arith in
      let sk = size_of-shape (split_of n) in
      ap (λ t. cons_in digest t m flag g (p ∷ rq)) (shape-join n two) ∙
      cons-left digest (shape (split_of n)) (shape (n - split_of n)) m flag g p rq
      (omega (arith, sizes digest n two)) (omega arith)

  step-right : (m n : ℕ) (flag : Bool) (g p : List ℕ) (rq : List (List ℕ)) → m < n → split_of n < m →
      cons_in digest (shape n) m flag g (p ∷ rq)
      ≡ option_map (both_left digest p) (cons_in digest (shape (n - split_of n)) (m - split_of n) false g rq)
  step-right m n flag g p rq lt past =
      let two : 2 ≤ n = omega arith in
      let sk = size_of-shape (split_of n) in
      ap (λ t. cons_in digest t m flag g (p ∷ rq)) (shape-join n two) ∙
      cons-right digest (shape (split_of n)) (shape (n - split_of n)) m flag g p rq
      (omega (arith, sizes digest n two)) (omega arith)
      ∙ ap (λ j. option_map (both_left digest p) (cons_in digest (shape (n - split_of n)) (m - j) false g rq)) sk

  step-short : (m n : ℕ) (flag : Bool) (g : List ℕ) → 0 < m → m < n → cons_in digest (shape n) m flag g [] ≡ None
  step-short m n flag g some lt =
      let two : 2 ≤ n = omega arith in
      ap (λ t. cons_in digest t m flag g []) (shape-join n two) ∙
      cons-short digest (shape (split_of n)) (shape (n - split_of n)) m flag g (omega (arith, sizes digest n two))

  -- the four cases of two sizes
  four : (m n : ℕ) → (m ≡ 0) ⊎ ((n < m) ⊎ (((m ≡ n) × (1 ≤ n)) ⊎ ((0 < m) × (m < n))))
  four m n = elim (cases_lt n m) [
    | inl past ↦ inr (inl past)
    | inr le ↦ elim (cases_lt m n) [
      | inr ge ↦ elim (cases_lt n 1) [ inl z ↦ inl (omega arith) | inr some ↦ inr (inr (inl (omega arith, some))) ]
      | inl lt ↦ elim (cases_lt 0 m) [ inl some ↦ inr (inr (inr (some, lt))) | inr z ↦ inl (omega arith) ]
    ]
  ]

  module _ (read : ℕ → ℕ → Bool → List ℕ → List (List ℕ) → Option (List ℕ × List ℕ))
      (e : IsSubproofReader digest read) where
    abbrev IsSame : List (List ℕ) → ℕ → ℕ → Bool → List ℕ → Type 0
    IsSame rq m n flag g = read m n flag g (reverse rq) ≡ cons_in digest (shape n) m flag g rq

    -- the equations alone decide all cases except one step down
    or_within : (rq : List (List ℕ)) (m n : ℕ) (flag : Bool) (g : List ℕ) → (0 < m → m < n → IsSame rq m n flag g) →
        IsSame rq m n flag g
    or_within rq m n flag g within = elim (four m n) [
      | inl z ↦ ap (λ k. read k n flag g (reverse rq)) z ∙ e.none n flag g (reverse rq) ∙
          sym (ap (λ k. cons_in digest (shape n) k flag g rq) z ∙ cons-none flag g rq n)
      | inr (inl past) ↦ e.beyond m n flag g (reverse rq) past ∙ sym (cons-beyond flag g rq m n past)
      | inr (inr (inl h)) ↦
          ap (λ k. read k n flag g (reverse rq)) h.0 ∙ e.whole n flag g (reverse rq) h.1 ∙ end-turned flag g rq
          ∙ sym (ap (λ k. cons_in digest (shape n) k flag g rq) h.0 ∙ whole digest n flag g rq h.1)
      | inr (inr (inr h)) ↦ within h.0 h.1
    ]

    only_cons : (rq : List (List ℕ)) (m n : ℕ) (flag : Bool) (g : List ℕ) → IsSame rq m n flag g
    only_cons [] m n flag g =
        or_within [] m n flag g (λ some lt. e.short m n flag g some lt ∙ sym (step-short m n flag g some lt))
    only_cons (p ∷ rq) m n flag g =
        or_within (p ∷ rq) m n flag g
        (λ some lt. ap (read m n flag g) (reverse-append (p ∷ []) rq) ∙ elim (cases_lt (split_of n) m) [
          | inr inside ↦ e.left m n flag g p (reverse rq) some lt inside ∙
              ap (option_map (both_right digest p)) (only_cons rq m (split_of n) flag g) ∙
              sym (step-left m n flag g p rq some lt inside)
          | inl past ↦ e.right m n flag g p (reverse rq) lt past ∙
              ap (option_map (both_left digest p)) (only_cons rq (m - split_of n) (n - split_of n) false g) ∙
              sym (step-right m n flag g p rq lt past)
        ])

pub cons_equations : ConsEquations
unfolding cons
cons_equations digest = (
  record {
    none = λ n flag g path. cons-none digest flag g (reverse path) n;
    beyond = λ m n flag g path past. cons-beyond digest flag g (reverse path) m n past;
    whole = λ n flag g path some. whole digest n flag g (reverse path) some ∙ end-turned flag g path;
    short = λ m n flag g some lt. step-short digest m n flag g some lt;
    left = λ m n flag g p path some lt inside. ap (cons_in digest (shape n) m flag g) (last-first path p) ∙
        step-left digest m n flag g p (reverse path) some lt inside;
    right = λ m n flag g p path lt past. ap (cons_in digest (shape n) m flag g) (last-first path p) ∙
        step-right digest m n flag g p (reverse path) lt past;
  },
  λ read e m n flag g path. ap (read m n flag g) (sym (reverse-reverse path)) ∙
      only_cons digest read e (reverse path) m n flag g,
)
