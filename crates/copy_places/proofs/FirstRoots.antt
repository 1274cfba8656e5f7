-- A consistency proof that is accepted for the root of a list has the root of the list's first entries.
use Rattle.std.proofs.Common.{subst, Bool, true, false, inl, inr, ◌≡◌, ℕ, ◌+◌, ◌-◌, ◌*◌, ◌<◌, ◌≤◌, List, [], ◌∷◌, ◌++◌, length, take, drop, Option, Some, None, sym, refl, ap, ◌∙◌, arith, length-take, length-drop, take-append-drop, length-append}
use Rattle.std.proofs.lemmas.List.{take-take, take_all}
use Rattle.std.proofs.Math.Seq.{take-add}
use Rattle.std.proofs.lemmas.Bool.{cases_lt}
use Rattle.std.specs.Option.{option_map}
use Rattle.std.specs.List.{AllByRecursion}
use Rattle.tlog_shape.specs.Split.{split_of}
use Rattle.tlog_shape.proofs.Splits.{split_of-below, split_of-power, split_of-half, split_of-unique}
use Rattle.tlog_hash.specs.Tree.{Join, size_of, mth, strings}
use Rattle.tlog_hash.proofs.Trees.{induction, mth-append, length-mth, left-strings, right-strings, join-string}
use Rattle.tlog_hash.proofs.PairStrings.{left_is, right_is}
use Rattle.tlog_hash.specs.Shape.{shape}
use Rattle.tlog_hash.proofs.Shapes.{shape-one, shape-join, size_of-shape}
use Rattle.tlog_proof.specs.Consistency.{at_end, both_right, both_left, cons_in, IsHashedBoth}
use Rattle.tlog_proof.proofs.Inclusions.{mapped}
use Rattle.tlog_proof.proofs.Consistencies.{cons-one, cons-left, cons-right, cons-short, cons-whole}

abbrev two : List ℕ → List ℕ → Option (List ℕ × List ℕ)
two a b = Some (a, b)

some_same : (x y : List ℕ × List ℕ) → Some x ≡ Some y → x ≡ y
some_same x y e = cc e

pair_same : (h a b : List ℕ) → two h h ≡ two a b → a ≡ b
pair_same h a b e = let q = some_same (h, h) (a, b) e in sym (ap (λ x. x.0) q) ∙ ap (λ x. x.1) q

-- at the end of a path both roots are equal
end_same : (flag : Bool) (g : List ℕ) (q : List (List ℕ)) (a b : List ℕ) → at_end flag g q ≡ Some (a, b) → a ≡ b
end_same true g [] a b e = pair_same g a b e
end_same true g (h ∷ q) a b e = absurd (cc e)
end_same false g [] a b e = absurd (cc e)
end_same false g (h ∷ []) a b e = pair_same h a b e
end_same false g (h ∷ z ∷ q) a b e = absurd (cc e)

-- two pairs of hashes are joined to one string. If the second hashes have one length, so have the first ones
front_length : (l r l' r' : List ℕ) → length r ≡ length r' → 1 ∷ l ++ r ≡ 1 ∷ l' ++ r' → length l ≡ length l'
front_length l r l' r' len e =
    let sums : length (l ++ r) ≡ length (l' ++ r') = ap (λ s. length (drop 1 s)) e in
    omega (arith, length-append l r, length-append l' r')

module _ (digest : List ℕ → List ℕ) (size : (s : List ℕ) → length (digest s) ≡ 32) (P : List ℕ → Type 0)
    (same : (x y : List ℕ) → P x → P y → digest x ≡ digest y → x ≡ y) where
  abbrev Good : List (List ℕ) → Type 0
  Good es = AllByRecursion P (strings digest es)

  abbrev All32 : List (List ℕ) → Type 0
  All32 q = AllByRecursion (λ p. length p ≡ 32) q

  record IsParts (k : ℕ) (es : List (List ℕ)) : Type 0 where
    left : Good (take k es)
    right : Good (drop k es)
    join : P (1 ∷ mth digest (take k es) ++ mth digest (drop k es))
    root : mth digest es ≡ digest (1 ∷ mth digest (take k es) ++ mth digest (drop k es))

  parts : (k : ℕ) (es : List (List ℕ)) → 2 ≤ length es → k ≡ split_of (length es) → Good es → IsParts k es
  parts k es two k_is good =
      let below = split_of-below (length es) two in
      let xs = take k es in
      let ys = drop k es in
      let sx : length xs ≡ k = length-take k es ∙ omega arith in
      let sy : length ys ≡ length es - k = length-drop k es in
      let total : length xs + length ys ≡ length es = omega arith in
      let two' : 2 ≤ length xs + length ys = omega arith in
      let at : length xs ≡ split_of (length xs + length ys) = sx ∙ k_is ∙ ap split_of (sym total) in
      let whole : es ≡ xs ++ ys = sym (take-append-drop k es) in
      let all : Good (xs ++ ys) = subst Good whole good in
      record {
        left = left-strings digest P xs ys two' at all;
        right = right-strings digest P xs ys two' at all;
        join = join-string digest P xs ys two' at all;
        root = ap (mth digest) whole ∙ mth-append digest xs ys two' at;
      }

  abbrev Shows : List (List ℕ) → Type 0
  Shows es =
      (m : ℕ) (flag : Bool) (g a : List ℕ) (q : List (List ℕ)) → 0 < m → m ≤ length es → All32 q →
      ((y : List ℕ) → IsHashedBoth digest (shape (length es)) m flag g q y → P y) → Good es →
      cons_in digest (shape (length es)) m flag g q ≡ Some (a, mth digest es) → a ≡ mth digest (take m es)

  -- one step down, to the left or to the right
  step : (es : List (List ℕ)) (two : 2 ≤ length es) (m : ℕ) (flag : Bool) (g a : List ℕ) →
      Shows (take (split_of (length es)) es) → Shows (drop (split_of (length es)) es) → 0 < m → Good es →
      m < length es → (q : List (List ℕ)) → All32 q →
      ((y : List ℕ) →
      IsHashedBoth digest
      (Join (shape (split_of (length es))) (shape (length es - split_of (length es)))) m flag g q y → P y) →
      cons_in digest (Join (shape (split_of (length es))) (shape (length es - split_of (length es)))) m flag g q
      ≡ Some (a, mth digest es) → a ≡ mth digest (take m es)
  step es two m flag g a l r some ge lt [] all hashed e =
      let n = length es in
      let below = split_of-below n two in
      let shl = size_of-shape (split_of n) in
      let shr = size_of-shape (n - split_of n) in
      (let w : None ≡ Some (a, mth digest es) =
      sym (cons-short digest (shape (split_of n)) (shape (n - split_of n)) m flag g
      (omega (arith, shl, shr, below))) ∙ e in absurd (cc w))
  step es two m flag g a l r some ge lt (c ∷ q) all hashed e =
      let n = length es in
      let k = split_of n in
      let xs = take k es in
      let ys = drop k es in
      let sa = shape k in
      let sb = shape (n - k) in
      let below : k < n = split_of-below n two in
      let half : n ≤ 2 * k = split_of-half n two in
      let sx : length xs ≡ k = length-take k es ∙ omega arith in
      let sy : length ys ≡ n - k = length-drop k es in
      let shl : size_of sa ≡ k = size_of-shape k in
      let shr : size_of sb ≡ n - k = size_of-shape (n - k) in
      let p = parts k es two refl ge in
      let ml = mth digest xs in
      let mr = mth digest ys in
      let small : m < size_of sa + size_of sb = omega arith in
      elim (cases_lt (size_of sa) m) [
        | inr inside ↦
            let v = mapped (both_right digest c) (cons_in digest sa m flag g q) (a, mth digest es)
            (sym (cons-left digest sa sb m flag g c q small inside) ∙ e) in
            let met : P (1 ∷ v.inner.1 ++ c) =
            hashed (1 ∷ v.inner.1 ++ c)
            (inl (inside, inl (ap (option_map (λ (x : List ℕ × List ℕ). 1 ∷ x.1 ++ c)) v.is))) in
            let strings_same : 1 ∷ v.inner.1 ++ c ≡ 1 ∷ ml ++ mr =
            same (1 ∷ v.inner.1 ++ c) (1 ∷ ml ++ mr) met p.join (ap (λ x. x.1) v.value ∙ p.root) in
            let lens : length v.inner.1 ≡ length ml =
            front_length v.inner.1 c ml mr (all.0 ∙ sym (length-mth digest size ys)) strings_same in
            let second : v.inner.1 ≡ ml = left_is v.inner.1 c ml mr lens strings_same in
            let is : cons_in digest sa m flag g q ≡ Some (a, ml) =
            v.is ∙ (λ i. Some (ap (λ x. x.0) v.value i, second i)) in
            l m flag g a q some (omega arith) all.1
            (λ y h. hashed y
            (inl (inside, inr (subst (λ x. IsHashedBoth digest (shape x) m flag g q y) sx h)))) p.left
            (ap (λ x. cons_in digest (shape x) m flag g q) sx ∙ is)
            ∙ ap (mth digest) (take-take m k es (omega arith))
        | inl past ↦
            let j = m - k in
            let js : m - size_of sa ≡ j = omega arith in
            let v = mapped (both_left digest c) (cons_in digest sb (m - size_of sa) false g q) (a, mth digest es)
            (sym (cons-right digest sa sb m flag g c q small past) ∙ e) in
            let met : P (1 ∷ c ++ v.inner.1) =
            hashed (1 ∷ c ++ v.inner.1)
            (inr (past, small, inr (inl (ap (option_map (λ (x : List ℕ × List ℕ). 1 ∷ c ++ x.1)) v.is)))) in
            let strings_same : 1 ∷ c ++ v.inner.1 ≡ 1 ∷ ml ++ mr =
            same (1 ∷ c ++ v.inner.1) (1 ∷ ml ++ mr) met p.join (ap (λ x. x.1) v.value ∙ p.root) in
            let lens : length c ≡ length ml = all.0 ∙ sym (length-mth digest size xs) in
            let front : c ≡ ml = left_is c v.inner.1 ml mr lens strings_same in
            let second : v.inner.1 ≡ mr = right_is c v.inner.1 ml mr lens strings_same in
            let is : cons_in digest sb j false g q ≡ Some (v.inner.0, mr) =
            ap (λ x. cons_in digest sb x false g q) (sym js) ∙ v.is ∙ (λ i. Some (v.inner.0, second i)) in
            let rest : (y : List ℕ) → IsHashedBoth digest (shape (length ys)) j false g q y → P y =
            (λ y h. hashed y
            (inr (
              past,
              small,
              inr (inr (subst (λ x. IsHashedBoth digest sb x false g q y) (sym js)
                  (subst (λ x. IsHashedBoth digest (shape x) j false g q y) sy h))),
            ))) in
            let back : v.inner.0 ≡ mth digest (take j ys) =
            r j false g v.inner.0 q (omega arith) (omega arith) all.1 rest p.right
            (ap (λ x. cons_in digest (shape x) j false g q) sy ∙ is) in
            let at : k ≡ split_of m =
            split_of-unique m k (omega arith) (split_of-power n two) (omega arith) (omega arith) in
            let sj : length (take j ys) ≡ j = length-take j ys ∙ omega arith in
            let sum : k + j ≡ m = omega arith in
            let total : length xs + length (take j ys) ≡ m = omega arith in
            let whole : mth digest (take m es) ≡ digest (1 ∷ ml ++ mth digest (take j ys)) =
            ap (mth digest) (ap (λ x. take x es) (sym sum) ∙ take-add k j es)
            ∙ mth-append digest xs (take j ys) (omega arith) (sx ∙ at ∙ ap split_of (sym total)) in
            sym (ap (λ x. x.0) v.value) ∙ (λ i. digest (1 ∷ front i ++ back i)) ∙ sym whole
      ]

  pub shows : (es : List (List ℕ)) → Shows es
  shows es = induction Shows none one more es
    where
      none : Shows []
      none m flag g a q some le all hashed ge e = absurd (omega arith)

      one : (x : List ℕ) → Shows (x ∷ [])
      one x m flag g a q some le all hashed ge e =
          end_same flag g q a (mth digest (x ∷ []))
          (sym (ap (λ t. cons_in digest t m flag g q) shape-one ∙ cons-one digest m flag g q (omega arith)) ∙ e)
          ∙ ap (mth digest) (sym (take_all m (x ∷ []) (omega arith)))

      more : (es : List (List ℕ)) → 2 ≤ length es → Shows (take (split_of (length es)) es) →
          Shows (drop (split_of (length es)) es) → Shows es
      more es two l r m flag g a q some le all hashed ge e =
          let n = length es in
          let k = split_of n in
          let below : k < n = split_of-below n two in
          let shl : size_of (shape k) ≡ k = size_of-shape k in
          let shr : size_of (shape (n - k)) ≡ n - k = size_of-shape (n - k) in
          elim (cases_lt m n) [
            | inr whole ↦
                end_same flag g q a (mth digest es)
                (sym (ap (λ t. cons_in digest t m flag g q) (shape-join n two) ∙
                cons-whole digest (shape k) (shape (n - k)) m flag g q (omega arith)) ∙ e)
                ∙ ap (mth digest) (sym (take_all m es (omega arith)))
            | inl lt ↦ step es two m flag g a l r some ge lt q all
                (λ y h. hashed y (subst (λ t. IsHashedBoth digest t m flag g q y) (sym (shape-join n two)) h))
                (sym (ap (λ t. cons_in digest t m flag g q) (shape-join n two)) ∙ e)
          ]
