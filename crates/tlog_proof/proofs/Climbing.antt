-- One level up: a tree of n items becomes a tree of their pairs.
use Rattle.std.proofs.Common.{inl, inr, ◌⊎◌, ◌≡◌, ℕ, zero, suc, ◌+◌, ◌-◌, ◌*◌, ◌<◌, ◌≤◌, List, [], ◌∷◌, ◌++◌, Some}
use Rattle.std.proofs.Common.{None, sym, refl, ap, ◌∙◌, arith}
use Rattle.std.proofs.lemmas.Bool.{cases_lt, lt-ltb, le-ltb}
use Rattle.std.specs.Option.{option_map}
use Rattle.tlog_shape.specs.Split.{split_of}
use Rattle.tlog_shape.proofs.Splits.{split_of-below, split_of-positive}
use Rattle.tlog_hash.specs.Tree.{Tree, One, Join, size_of}
use Rattle.tlog_proof.specs.Climb.{climb}
use Rattle.tlog_hash.specs.Shape.{shape}
use Rattle.tlog_hash.proofs.Cuts.{split_of-blocks}
use Rattle.tlog_hash.proofs.Shapes.{shape-one, shape-join, size_of-shape}

-- n items make m pairs, and the last pair may be one item alone
pub record IsHalf (n m : ℕ) : Type 0 where
  pub upto : n ≤ 2 * m
  pub above : 2 * m < n + 2

split_of-half_of : (n m : ℕ) → 2 ≤ m → IsHalf n m → 2 * split_of m ≡ split_of n
split_of-half_of n m two h =
    let e : 2 * split_of m ≡ split_of m * 2 =
    omega arith in e ∙ split_of-blocks 1 m n two (omega (arith, h.above)) (omega (arith, h.upto))

module _ {V : Type 0} (on_right on_left : List ℕ → V → V) where
  pub climb-left : (l r : Tree ℕ) (i : ℕ) (h : V) (p : List ℕ) (q : List (List ℕ)) → i < size_of l →
      climb on_right on_left (Join l r) i h (p ∷ q) ≡ option_map (on_right p) (climb on_right on_left l i h q)
  climb-left l r i h p q lt = rw (lt-ltb i (size_of l) lt)

  pub climb-right : (l r : Tree ℕ) (i : ℕ) (h : V) (p : List ℕ) (q : List (List ℕ)) → size_of l ≤ i →
      climb on_right on_left (Join l r) i h (p ∷ q)
      ≡ option_map (on_left p) (climb on_right on_left r (i - size_of l) h q)
  climb-right l r i h p q le = rw (le-ltb i (size_of l) le)

  -- the value h and the hash p join to new: the hash on the right for d = 0, and on the left for d = 1
  abbrev pub IsBeside : ℕ → V → List ℕ → V → Type 0
  IsBeside d h p new = ((d ≡ 0) × (on_right p h ≡ new)) ⊎ ((d ≡ 1) × (on_left p h ≡ new))

  pub none_empty : (n i : ℕ) (h : V) → 2 ≤ n → climb on_right on_left (shape n) i h [] ≡ None
  none_empty n i h two = ap (λ t. climb on_right on_left t i h []) (shape-join n two)

  pub none_more : (i : ℕ) (h : V) (p : List ℕ) (rq : List (List ℕ)) →
      climb on_right on_left (One 0) i h (rq ++ p ∷ []) ≡ None
  none_more i h p [] = refl
  none_more i h p (z ∷ rq) = refl

  pair : (d : ℕ) (h : V) (p : List ℕ) (new : V) → IsBeside d h p new → (rq : List (List ℕ)) →
      climb on_right on_left (Join (One 0) (One 0)) d h (rq ++ p ∷ []) ≡ climb on_right on_left (One 0) 0 new rq
  pair d h p new (inl b) [] = ap (λ n. climb on_right on_left (Join (One 0) (One 0)) n h (p ∷ [])) b.0 ∙ ap Some b.1
  pair d h p new (inr b) [] = ap (λ n. climb on_right on_left (Join (One 0) (One 0)) n h (p ∷ [])) b.0 ∙ ap Some b.1
  pair d h p new (inl b) (z ∷ rq) =
      ap (λ n. climb on_right on_left (Join (One 0) (One 0)) n h (z ∷ (rq ++ p ∷ []))) b.0 ∙
      ap (option_map (on_right z)) (none_more 0 h p rq)
  pair d h p new (inr b) (z ∷ rq) =
      ap (λ n. climb on_right on_left (Join (One 0) (One 0)) n h (z ∷ (rq ++ p ∷ []))) b.0 ∙
      ap (option_map (on_left z)) (none_more 0 h p rq)

  -- both trees are entered on the left
  record GoesLeft (h : V) (p : List ℕ) (new : V) (a b : Tree ℕ) (i c : ℕ) : Type 0 where
    inside : i < size_of a
    inside_up : c < size_of b
    same : (rq : List (List ℕ)) → climb on_right on_left a i h (rq ++ p ∷ []) ≡ climb on_right on_left b c new rq
    none : climb on_right on_left a i h [] ≡ None

  record GoesRight (h : V) (p : List ℕ) (new : V) (l a m b : Tree ℕ) (i c : ℕ) : Type 0 where
    past : size_of l ≤ i
    past_up : size_of m ≤ c
    same : (rq : List (List ℕ)) →
        climb on_right on_left a (i - size_of l) h (rq ++ p ∷ []) ≡ climb on_right on_left b (c - size_of m) new rq
    none : climb on_right on_left a (i - size_of l) h [] ≡ None

  split_step : (h : V) (p : List ℕ) (new : V) (l a m b : Tree ℕ) (i c : ℕ) →
      GoesLeft h p new l m i c ⊎ GoesRight h p new l a m b i c → (rq : List (List ℕ)) →
      climb on_right on_left (Join l a) i h (rq ++ p ∷ []) ≡ climb on_right on_left (Join m b) c new rq
  split_step h p new l a m b i c (inl g) [] = climb-left l a i h p [] g.inside ∙ ap (option_map (on_right p)) g.none
  split_step h p new l a m b i c (inr g) [] = climb-right l a i h p [] g.past ∙ ap (option_map (on_left p)) g.none
  split_step h p new l a m b i c (inl g) (z ∷ rq) =
      climb-left l a i h z (rq ++ p ∷ []) g.inside ∙ ap (option_map (on_right z)) (g.same rq) ∙
      sym (climb-left m b c new z rq g.inside_up)
  split_step h p new l a m b i c (inr g) (z ∷ rq) =
      climb-right l a i h z (rq ++ p ∷ []) g.past ∙ ap (option_map (on_left z)) (g.same rq) ∙
      sym (climb-right m b c new z rq g.past_up)

  module _ (d : ℕ) (h : V) (p : List ℕ) (new : V) (beside : IsBeside d h p new) (bit : d < 2) where
    short : (n m c : ℕ) → n ≡ 2 → IsHalf n m → 2 * c + 1 < n → (rq : List (List ℕ)) →
        climb on_right on_left (shape n) (2 * c + d) h (rq ++ p ∷ []) ≡ climb on_right on_left (shape m) c new rq
    short n m c is half whole rq =
        let m1 : m ≡ 1 = omega (arith, half.upto, half.above) in
        let c0 : c ≡ 0 = omega arith in
        let i : 2 * c + d ≡ d = omega arith in
        let k : split_of 2 ≡ 1 =
        (let b = split_of-below 2 (omega arith) in let o =
        split_of-positive 2 (omega arith) in omega (arith, b, o)) in
        let s2 : shape 2 ≡ Join (One 0) (One 0) =
        shape-join 2 (omega arith) ∙ ap (λ j. Join (shape j) (shape (2 - j))) k ∙ ap (λ t. Join t t) shape-one in
        (λ j. climb on_right on_left ((ap shape is ∙ s2) j) (i j) h (rq ++ p ∷ [])) ∙ pair d h p new beside rq ∙
        sym (λ j. climb on_right on_left ((ap shape m1 ∙ shape-one) j) (c0 j) new rq)

    -- an item of a whole pair goes up with its sibling
    pub pair_up : (f n m c : ℕ) → n ≤ f → 2 ≤ n → IsHalf n m → 2 * c + 1 < n → (rq : List (List ℕ)) →
        climb on_right on_left (shape n) (2 * c + d) h (rq ++ p ∷ []) ≡ climb on_right on_left (shape m) c new rq
    pair_up zero n m c fuel two half whole rq = absurd (omega arith)
    pair_up (suc f) n m c fuel two half whole rq = elim (cases_lt 2 n) [
      | inr le ↦ short n m c (omega arith) half whole rq
      | inl more ↦
          let two_m : 2 ≤ m = omega (arith, half.upto) in
          let k2 = split_of m in
          let k = split_of n in
          let k_is : 2 * k2 ≡ k = split_of-half_of n m two_m half in
          let below : k < n = split_of-below n two in
          let below_m : k2 < m = split_of-below m two_m in
          let some : 0 < k2 = split_of-positive m two_m in
          let sk : size_of (shape k) ≡ k = size_of-shape k in
          let sk2 : size_of (shape k2) ≡ k2 = size_of-shape k2 in
          let i = 2 * c + d in
          ap (λ t. climb on_right on_left t i h (rq ++ p ∷ [])) (shape-join n two)
          ∙ split_step h p new (shape k) (shape (n - k)) (shape k2) (shape (m - k2)) i c
          (elim (cases_lt c k2) [
            | inl lt ↦ inl
                (record {
                  inside =
                      omega arith;
                  inside_up =
                      omega arith;
                  same =
                      pair_up f k k2 c (omega arith) (omega arith) (record { upto = omega arith; above = omega arith })
                      (omega arith);
                  none = none_empty k i h (omega arith);
                })
            | inr le ↦
                let e : 2 * (c - k2) + d ≡ i - size_of (shape k) = omega arith in
                let e2 : c - k2 ≡ c - size_of (shape k2) = omega arith in
                inr (record {
                  past = omega arith;
                  past_up = omega arith;
                  same = λ rq'. sym (ap (λ j. climb on_right on_left (shape (n - k)) j h (rq' ++ p ∷ [])) e) ∙
                      pair_up f (n - k) (m - k2) (c - k2) (omega arith) (omega arith)
                      (record { upto = omega (arith, half.upto); above = omega (arith, half.above) })
                      (omega arith) rq' ∙ ap (λ j. climb on_right on_left (shape (m - k2)) j new rq') e2;
                  none = none_empty (n - k) (i - size_of (shape k)) h (omega arith);
                })
          ]) rq
          ∙ sym (ap (λ t. climb on_right on_left t c new rq) (shape-join m two_m))
    ]

  last_step : (h : V) (l a m b : Tree ℕ) (i c : ℕ) → size_of l ≤ i → size_of m ≤ c →
      ((rq : List (List ℕ)) →
      climb on_right on_left a (i - size_of l) h rq ≡ climb on_right on_left b (c - size_of m) h rq) →
      (rq : List (List ℕ)) → climb on_right on_left (Join l a) i h rq ≡ climb on_right on_left (Join m b) c h rq
  last_step h l a m b i c past past_up same [] = refl
  last_step h l a m b i c past past_up same (z ∷ rq) =
      climb-right l a i h z rq past ∙ ap (option_map (on_left z)) (same rq) ∙ sym (climb-right m b c h z rq past_up)

  -- an item alone at the end goes up unchanged
  pub lone_up : (f c : ℕ) (h : V) → c ≤ f → (rq : List (List ℕ)) →
      climb on_right on_left (shape (2 * c + 1)) (2 * c) h rq ≡ climb on_right on_left (shape (c + 1)) c h rq
  lone_up f zero h fuel rq = refl
  lone_up zero (suc c) h fuel rq = absurd (omega arith)
  lone_up (suc f) (suc c) h fuel rq =
      let n = 2 * suc c + 1 in
      let m = suc c + 1 in
      let two : 2 ≤ n = omega arith in
      let two_m : 2 ≤ m = omega arith in
      let k2 = split_of m in
      let k = split_of n in
      let k_is : 2 * k2 ≡ k = split_of-half_of n m two_m (record { upto = omega arith; above = omega arith }) in
      let below : k < n = split_of-below n two in
      let below_m : k2 < m = split_of-below m two_m in
      let some : 0 < k2 = split_of-positive m two_m in
      let sk : size_of (shape k) ≡ k = size_of-shape k in
      let sk2 : size_of (shape k2) ≡ k2 = size_of-shape k2 in
      let c' = suc c - k2 in
      let e : 2 * c' ≡ 2 * suc c - size_of (shape k) = omega arith in
      let e2 : c' ≡ suc c - size_of (shape k2) = omega arith in
      let en : 2 * c' + 1 ≡ n - k = omega arith in
      let em : c' + 1 ≡ m - k2 = omega arith in
      ap (λ t. climb on_right on_left t (2 * suc c) h rq) (shape-join n two)
      ∙ last_step h (shape k) (shape (n - k)) (shape k2) (shape (m - k2)) (2 * suc c) (suc c) (omega arith)
      (omega arith)
      (λ rq'. sym (λ j. climb on_right on_left (shape (en j)) (e j) h rq') ∙ lone_up f c' h (omega arith) rq' ∙
      (λ j. climb on_right on_left (shape (em j)) (e2 j) h rq')) rq
      ∙ sym (ap (λ t. climb on_right on_left t (suc c) h rq) (shape-join m two_m))
