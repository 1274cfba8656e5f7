-- An accepted consistency proof shows that the first list is a prefix of the second.
use Rattle.std.proofs.Common.{subst, Bool, true, false, inl, inr, ◌≡◌, ℕ, ◌+◌, ◌-◌, ◌*◌, ◌<◌, ◌≤◌, List, [], ◌∷◌, ◌++◌}
use Rattle.std.proofs.Common.{length, reverse, take, drop, Option, Some, None, sym, refl, ap, ◌∙◌, arith, length-take}
use Rattle.std.proofs.Common.{length-drop, take-append-drop}
use Rattle.std.proofs.lemmas.List.{reverse-append, take-take, take_all, nil_from_length}
use Rattle.std.proofs.lemmas.List.Elements.{All-contains_itself, recursion_from_All, All-weaker}
use Rattle.std.proofs.Math.Seq.{take-add}
use Rattle.std.proofs.Common.{min}
use Rattle.std.proofs.lemmas.Bool.{cases_lt}
use Rattle.std.specs.Option.{option_map}
use Rattle.std.specs.List.{Contains, AllByRecursion}
use Rattle.tlog_shape.specs.Split.{split_of}
use Rattle.tlog_shape.proofs.Splits.{split_of-below, split_of-power, split_of-half, split_of-unique}
use Rattle.tlog_hash.specs.Tree.{Tree, Empty, One, Join, size_of, mth, strings}
use Rattle.tlog_hash.proofs.Trees.{all-append, induction, mth-one, mth-append, length-mth, strings-one, left-strings}
use Rattle.tlog_hash.proofs.Trees.{right-strings, join-string}
use Rattle.tlog_hash.proofs.PairStrings.{left_is, right_is}
use Rattle.tlog_hash.specs.Shape.{shape}
use Rattle.tlog_proof.specs.Consistency.{at_end, both_right, both_left, cons_in, cons, IsHashedBoth}
use Rattle.tlog_proof.specs.Laws.{IsMetByConsistency, HasNoClash, AcceptedConsistencyShows}
use Rattle.tlog_hash.proofs.Shapes.{shape-one, shape-join, size_of-shape}
use Rattle.tlog_proof.proofs.Inclusions.{mapped}
use Rattle.tlog_proof.proofs.Consistencies.{cons-one, equal, not_equal, whole, cons-left, cons-right, cons-short}
use Rattle.tlog_proof.proofs.Consistencies.{cons-whole}

some_same : (x y : List ℕ × List ℕ) → Some x ≡ Some y → x ≡ y
some_same x y e = cc e

abbrev two_of : List ℕ → List ℕ → Option (List ℕ × List ℕ)
two_of a b = Some (a, b)

both_same : (h a b : List ℕ) → two_of h h ≡ two_of a b → a ≡ b
both_same h a b e = let q = some_same (h, h) (a, b) e in sym (ap (λ x. x.0) q) ∙ ap (λ x. x.1) q

-- both roots are equal at the end of a path
end_same : (flag : Bool) (g : List ℕ) (q : List (List ℕ)) (a b : List ℕ) → at_end flag g q ≡ Some (a, b) → a ≡ b
end_same true g [] a b e = both_same g a b e
end_same true g (h ∷ q) a b e = absurd (cc e)
end_same false g [] a b e = absurd (cc e)
end_same false g (h ∷ []) a b e = both_same h a b e
end_same false g (h ∷ z ∷ q) a b e = absurd (cc e)

module _ (digest : List ℕ → List ℕ) (size : (s : List ℕ) → length (digest s) ≡ 32) (P : List ℕ → Type 0)
    (same : (x y : List ℕ) → P x → P y → digest x ≡ digest y → x ≡ y) where
  abbrev Good : List (List ℕ) → Type 0
  Good es = AllByRecursion P (strings digest es)

  record IsParts (k : ℕ) (es : List (List ℕ)) : Type 0 where
    left : Good (take k es)
    right : Good (drop k es)
    join : P (1 ∷ mth digest (take k es) ++ mth digest (drop k es))
    root : mth digest es ≡ digest (1 ∷ mth digest (take k es) ++ mth digest (drop k es))

  parts : (k : ℕ) (es : List (List ℕ)) → 2 ≤ length es → k ≡ split_of (length es) → Good es → IsParts k es
  parts k es two k_is good =
      let below = split_of-below (length es) two in
      let xs = take k es in
      let ys = drop k es in
      let sx : length xs ≡ k = length-take k es ∙ omega arith in
      let sy : length ys ≡ length es - k = length-drop k es in
      let total : length xs + length ys ≡ length es = omega arith in
      let two' : 2 ≤ length xs + length ys = omega arith in
      let at : length xs ≡ split_of (length xs + length ys) = sx ∙ k_is ∙ ap split_of (sym total) in
      let whole : es ≡ xs ++ ys = sym (take-append-drop k es) in
      let all : Good (xs ++ ys) = subst Good whole good in
      record {
        left =
            left-strings digest P xs ys two' at all;
        right =
            right-strings digest P xs ys two' at all;
        join =
            join-string digest P xs ys two' at all;
        root = ap (mth digest) whole ∙ mth-append digest xs ys two' at;
      }

  -- a root has only one list
  one_list : (xs : List (List ℕ)) → (ys : List (List ℕ)) → length xs ≡ length ys → mth digest xs ≡ mth digest ys →
      Good xs → Good ys → xs ≡ ys
  one_list xs =
      induction
      (λ xs. (ys : List (List ℕ)) → length xs ≡ length ys → mth digest xs ≡ mth digest ys → Good xs → Good ys →
      xs ≡ ys) none one more xs
    where
      none : (ys : List (List ℕ)) → length {A = List ℕ} [] ≡ length ys → mth digest [] ≡ mth digest ys → Good [] →
          Good ys → [] ≡ ys
      none ys len e p q = sym (nil_from_length ys (sym len))

      one : (x : List ℕ) (ys : List (List ℕ)) → length (x ∷ []) ≡ length ys → mth digest (x ∷ []) ≡ mth digest ys →
          Good (x ∷ []) → Good ys → x ∷ [] ≡ ys
      one x [] len e p q = absurd (omega arith)
      one x (y ∷ []) len e p q =
          let strings_same : 0 ∷ x ≡ 0 ∷ y =
          same (0 ∷ x) (0 ∷ y) (subst (AllByRecursion P) (strings-one digest x) p).0
          (subst (AllByRecursion P) (strings-one digest y) q).0 (sym (mth-one digest x) ∙ e ∙ mth-one digest y) in
          let entries : x ≡ y = cc strings_same in ap (λ z. z ∷ []) entries
      one x (y ∷ z ∷ ys) len e p q = absurd (omega arith)

      more : (xs : List (List ℕ)) → 2 ≤ length xs →
          ((ys : List (List ℕ)) → length (take (split_of (length xs)) xs) ≡ length ys →
          mth digest (take (split_of (length xs)) xs) ≡ mth digest ys → Good (take (split_of (length xs)) xs) →
          Good ys → take (split_of (length xs)) xs ≡ ys) →
          ((ys : List (List ℕ)) → length (drop (split_of (length xs)) xs) ≡ length ys →
          mth digest (drop (split_of (length xs)) xs) ≡ mth digest ys → Good (drop (split_of (length xs)) xs) →
          Good ys → drop (split_of (length xs)) xs ≡ ys) → (ys : List (List ℕ)) → length xs ≡ length ys →
          mth digest xs ≡ mth digest ys → Good xs → Good ys → xs ≡ ys
      more xs two l r ys len e p q =
          let k = split_of (length xs) in
          let a = parts k xs two refl p in
          let b = parts k ys (omega arith) (ap split_of len) q in
          let mlx = mth digest (take k xs) in
          let mrx = mth digest (drop k xs) in
          let mly = mth digest (take k ys) in
          let mry = mth digest (drop k ys) in
          let strings_same : 1 ∷ mlx ++ mrx ≡ 1 ∷ mly ++ mry =
          same (1 ∷ mlx ++ mrx) (1 ∷ mly ++ mry) a.join b.join (sym a.root ∙ e ∙ b.root) in
          let lens : length mlx ≡ length mly =
          length-mth digest size (take k xs) ∙ sym (length-mth digest size (take k ys)) in
          sym (take-append-drop k xs)
          ∙ (λ i. l (take k ys) (length-take k xs ∙ ap (λ n. min k n) len ∙ sym (length-take k ys))
          (left_is mlx mrx mly mry lens strings_same) a.left b.left i
          ++ r (drop k ys) (length-drop k xs ∙ ap (λ n. n - k) len ∙ sym (length-drop k ys))
          (right_is mlx mrx mly mry lens strings_same) a.right b.right i)
          ∙ take-append-drop k ys

  abbrev All32 : List (List ℕ) → Type 0
  All32 q = AllByRecursion (λ p. length p ≡ 32) q

  end_length : (flag : Bool) (g : List ℕ) (q : List (List ℕ)) (v : List ℕ × List ℕ) → length g ≡ 32 → All32 q →
      at_end flag g q ≡ Some v → length v.1 ≡ 32
  end_length true g [] v lg all e =
      (let p : Some (g, g) ≡ Some v = e in let q : (g, g) ≡ v = cc p in sym (ap (λ x. length x.1) q) ∙ lg)
  end_length true g (h ∷ q) v lg all e = absurd (cc e)
  end_length false g [] v lg all e = absurd (cc e)
  end_length false g (h ∷ []) v lg all e =
      (let p : Some (h, h) ≡ Some v = e in let q : (h, h) ≡ v = cc p in sym (ap (λ x. length x.1) q) ∙ all.0)
  end_length false g (h ∷ z ∷ q) v lg all e = absurd (cc e)

  cons_length : (t : Tree ℕ) (m : ℕ) (flag : Bool) (g : List ℕ) (q : List (List ℕ)) (v : List ℕ × List ℕ) →
      m ≤ size_of t → length g ≡ 32 → All32 q → cons_in digest t m flag g q ≡ Some v → length v.1 ≡ 32
  cons_length Empty m flag g q v le lg all e = absurd (cc e)
  cons_length (One x) m flag g q v le lg all e = elim (cases_lt m 1) [
    | inl lt ↦ (let w : None ≡ Some v = sym (rw (not_equal m 1 lt)) ∙ e in absurd (cc w))
    | inr ge ↦ end_length flag g q v lg all (sym (rw (equal m 1 (omega arith))) ∙ e)
  ]
  cons_length (Join l r) m flag g q v le lg all e = elim (cases_lt m (size_of l + size_of r)) [
    | inr ge ↦ end_length flag g q v lg all (sym (cons-whole digest l r m flag g q (omega arith)) ∙ e)
    | inl lt ↦ at q all e lt
  ]
    where
      at : (q : List (List ℕ)) → All32 q → cons_in digest (Join l r) m flag g q ≡ Some v → m < size_of l + size_of r →
          length v.1 ≡ 32
      at [] all e lt = (let w : None ≡ Some v = sym (cons-short digest l r m flag g lt) ∙ e in absurd (cc w))
      at (c ∷ q) all e lt = elim (cases_lt (size_of l) m) [
        | inr inside ↦ let k =
            mapped (both_right digest c) (cons_in digest l m flag g q) v
            (sym (cons-left digest l r m flag g c q lt inside) ∙ e) in sym (ap (λ x. length x.1) k.value) ∙
            size (1 ∷ k.inner.1 ++ c)
        | inl past ↦ let k =
            mapped (both_left digest c) (cons_in digest r (m - size_of l) false g q) v
            (sym (cons-right digest l r m flag g c q lt past) ∙ e) in sym (ap (λ x. length x.1) k.value) ∙
            size (1 ∷ c ++ k.inner.1)
      ]

  abbrev Sound : List (List ℕ) → Type 0
  Sound es =
      (ds : List (List ℕ)) (m : ℕ) (flag : Bool) (g : List ℕ) (q : List (List ℕ)) → length ds ≡ m → 0 < m →
      m ≤ length es → length g ≡ 32 → All32 q →
      ((y : List ℕ) → IsHashedBoth digest (shape (length es)) m flag g q y → P y) → Good ds → Good es →
      cons_in digest (shape (length es)) m flag g q ≡ Some (mth digest ds, mth digest es) → ds ≡ take m es

  -- one step down, to the left or to the right
  step : (es : List (List ℕ)) (two : 2 ≤ length es) (m : ℕ) (flag : Bool) (g : List ℕ) (ds : List (List ℕ)) →
      Sound (take (split_of (length es)) es) → Sound (drop (split_of (length es)) es) → length ds ≡ m → 0 < m →
      length g ≡ 32 → Good ds → Good es → m < length es → (q : List (List ℕ)) → All32 q →
      ((y : List ℕ) →
      IsHashedBoth digest
      (Join (shape (split_of (length es))) (shape (length es - split_of (length es)))) m flag g q y → P y) →
      cons_in digest (Join (shape (split_of (length es))) (shape (length es - split_of (length es)))) m flag g q
      ≡ Some (mth digest ds, mth digest es) → ds ≡ take m es
  step es two m flag g ds l r len some lg gd ge lt [] all hashed e =
      let n = length es in
      let below = split_of-below n two in
      let shl = size_of-shape (split_of n) in
      let shr = size_of-shape (n - split_of n) in
      (let w : None ≡ Some (mth digest ds, mth digest es) =
      sym (cons-short digest (shape (split_of n)) (shape (n - split_of n)) m flag g
      (omega (arith, shl, shr, below))) ∙ e in absurd (cc w))
  step es two m flag g ds l r len some lg gd ge lt (c ∷ q) all hashed e =
      let n = length es in
      let k = split_of n in
      let xs = take k es in
      let ys = drop k es in
      let a = shape k in
      let b = shape (n - k) in
      let below : k < n = split_of-below n two in
      let half : n ≤ 2 * k = split_of-half n two in
      let sx : length xs ≡ k = length-take k es ∙ omega arith in
      let sy : length ys ≡ n - k = length-drop k es in
      let shl : size_of a ≡ k = size_of-shape k in
      let shr : size_of b ≡ n - k = size_of-shape (n - k) in
      let p = parts k es two refl ge in
      let ml = mth digest xs in
      let mr = mth digest ys in
      let small : m < size_of a + size_of b = omega arith in
      elim (cases_lt (size_of a) m) [
        | inr inside ↦
            let v = mapped (both_right digest c) (cons_in digest a m flag g q) (mth digest ds, mth digest es)
            (sym (cons-left digest a b m flag g c q small inside) ∙ e) in
            let met : P (1 ∷ v.inner.1 ++ c) =
            hashed (1 ∷ v.inner.1 ++ c)
            (inl (inside, inl (ap (option_map (λ (x : List ℕ × List ℕ). 1 ∷ x.1 ++ c)) v.is))) in
            let strings_same : 1 ∷ v.inner.1 ++ c ≡ 1 ∷ ml ++ mr =
            same (1 ∷ v.inner.1 ++ c) (1 ∷ ml ++ mr) met p.join (ap (λ x. x.1) v.value ∙ p.root) in
            let lens : length v.inner.1 ≡ length ml =
            cons_length a m flag g q v.inner inside lg all.1 v.is ∙ sym (length-mth digest size xs) in
            let second : v.inner.1 ≡ ml = left_is v.inner.1 c ml mr lens strings_same in
            let is : cons_in digest a m flag g q ≡ Some (mth digest ds, ml) =
            v.is ∙ (λ i. Some (ap (λ x. x.0) v.value i, second i)) in
            l ds m flag g q len some (omega arith) lg all.1
            (λ y h. hashed y
            (inl (inside, inr (subst (λ x. IsHashedBoth digest (shape x) m flag g q y) sx h)))) gd p.left
            (ap (λ x. cons_in digest (shape x) m flag g q) sx ∙ is)
            ∙ take-take m k es (omega arith)
        | inl past ↦
            let j = m - k in
            let js : m - size_of a ≡ j = omega arith in
            let v = mapped (both_left digest c) (cons_in digest b (m - size_of a) false g q)
            (mth digest ds, mth digest es) (sym (cons-right digest a b m flag g c q small past) ∙ e) in
            let met_0 : P (1 ∷ c ++ v.inner.0) =
            hashed (1 ∷ c ++ v.inner.0)
            (inr (past, small, inl (ap (option_map (λ (x : List ℕ × List ℕ). 1 ∷ c ++ x.0)) v.is))) in
            let met_1 : P (1 ∷ c ++ v.inner.1) =
            hashed (1 ∷ c ++ v.inner.1)
            (inr (past, small, inr (inl (ap (option_map (λ (x : List ℕ × List ℕ). 1 ∷ c ++ x.1)) v.is)))) in
            let at : k ≡ split_of m =
            split_of-unique m k (omega arith) (split_of-power n two) (omega arith) (omega arith) in
            let d = parts k ds (omega arith) (at ∙ ap split_of (sym len)) gd in
            let dl = mth digest (take k ds) in
            let dr = mth digest (drop k ds) in
            let same_1 : 1 ∷ c ++ v.inner.1 ≡ 1 ∷ ml ++ mr =
            same (1 ∷ c ++ v.inner.1) (1 ∷ ml ++ mr) met_1 p.join (ap (λ x. x.1) v.value ∙ p.root) in
            let same_0 : 1 ∷ c ++ v.inner.0 ≡ 1 ∷ dl ++ dr =
            same (1 ∷ c ++ v.inner.0) (1 ∷ dl ++ dr) met_0 d.join (ap (λ x. x.0) v.value ∙ d.root) in
            let lens_1 : length c ≡ length ml = all.0 ∙ sym (length-mth digest size xs) in
            let lens_0 : length c ≡ length dl = all.0 ∙ sym (length-mth digest size (take k ds)) in
            let fronts : dl ≡ ml =
            sym (left_is c v.inner.0 dl dr lens_0 same_0) ∙ left_is c v.inner.1 ml mr lens_1 same_1 in
            let len_d : length (take k ds) ≡ k = length-take k ds ∙ omega arith in
            let len_r : length (drop k ds) ≡ j = length-drop k ds ∙ omega arith in
            let left_same : take k ds ≡ xs = one_list (take k ds) xs (len_d ∙ sym sx) fronts d.left p.left in
            let first : v.inner.0 ≡ dr = right_is c v.inner.0 dl dr lens_0 same_0 in
            let second : v.inner.1 ≡ mr = right_is c v.inner.1 ml mr lens_1 same_1 in
            let is : cons_in digest b j false g q ≡ Some (dr, mr) =
            ap (λ x. cons_in digest b x false g q) (sym js) ∙ v.is ∙ (λ i. Some (first i, second i)) in
            let rest : (y : List ℕ) → IsHashedBoth digest (shape (length ys)) j false g q y → P y =
            (λ y h. hashed y
            (inr (
              past,
              small,
              inr (inr (subst (λ x. IsHashedBoth digest b x false g q y) (sym js)
                  (subst (λ x. IsHashedBoth digest (shape x) j false g q y) sy h))),
            ))) in
            let right_same : drop k ds ≡ take j ys =
            r (drop k ds) j false g q len_r (omega arith) (omega arith) lg all.1 rest d.right p.right
            (ap (λ x. cons_in digest (shape x) j false g q) sy ∙ is) in
            let sum : k + j ≡ m = omega arith in
            sym (take-append-drop k ds) ∙ (λ i. left_same i ++ right_same i) ∙
            sym (ap (λ x. take x es) (sym sum) ∙ take-add k j es)
      ]

  sound : (es : List (List ℕ)) → Sound es
  sound es = induction Sound none one more es
    where
      none : Sound []
      none ds m flag g q len some le lg all hashed gd ge e = absurd (omega arith)

      one : (x : List ℕ) → Sound (x ∷ [])
      one x ds m flag g q len some le lg all hashed gd ge e =
          let roots : mth digest ds ≡ mth digest (x ∷ []) =
          end_same flag g q (mth digest ds) (mth digest (x ∷ []))
          (sym (ap (λ t. cons_in digest t m flag g q) shape-one ∙ cons-one digest m flag g q (omega arith)) ∙ e) in
          one_list ds (x ∷ []) (omega arith) roots gd ge ∙ sym (take_all m (x ∷ []) (omega arith))

      more : (es : List (List ℕ)) → 2 ≤ length es → Sound (take (split_of (length es)) es) →
          Sound (drop (split_of (length es)) es) → Sound es
      more es two l r ds m flag g q len some le lg all hashed gd ge e =
          let n = length es in
          let k = split_of n in
          let xs = take k es in
          let ys = drop k es in
          let below : k < n = split_of-below n two in
          let sx : length xs ≡ k = length-take k es ∙ omega arith in
          let sy : length ys ≡ n - k = length-drop k es in
          let shl : size_of (shape k) ≡ k = size_of-shape k in
          let shr : size_of (shape (n - k)) ≡ n - k = size_of-shape (n - k) in
          let a = shape k in
          let b = shape (n - k) in
          let p = parts k es two refl ge in
          elim (cases_lt m n) [
            | inr whole ↦
                let roots =
                end_same flag g q (mth digest ds) (mth digest es)
                (sym (ap (λ t. cons_in digest t m flag g q) (shape-join n two) ∙
                cons-whole digest a b m flag g q (omega arith)) ∙ e) in
                one_list ds es (omega arith) roots gd ge ∙ sym (take_all m es (omega arith))
            | inl lt ↦ step es two m flag g ds l r len some lg gd ge lt q all
                (λ y h. hashed y (subst (λ t. IsHashedBoth digest t m flag g q y) (sym (shape-join n two)) h))
                (sym (ap (λ t. cons_in digest t m flag g q) (shape-join n two)) ∙ e)
          ]

shows : (digest : List ℕ → List ℕ) → ((s : List ℕ) → length (digest s) ≡ 32) → (ds es path : List (List ℕ)) →
    0 < length ds → length ds ≤ length es → AllByRecursion (λ p. length p ≡ 32) (reverse path) →
    HasNoClash digest (IsMetByConsistency digest ds es path) →
    cons digest (length ds) (length es) true (mth digest ds) path ≡ Some (mth digest ds, mth digest es) →
    ds ≡ take (length ds) es
unfolding cons
shows digest size ds es path some le all clean e =
    let P : List ℕ → Type 0 = IsMetByConsistency digest ds es path in
    sound digest size P clean es ds (length ds) true (mth digest ds) (reverse path) refl some le
    (length-mth digest size ds) all (λ y h. inl h)
    (weaken P (strings digest ds) (λ y c. inr (inl c)))
    (weaken P (strings digest es) (λ y c. inr (inr c)))
    e
  where
    weaken : (P : List ℕ → Type 0) (ys : List (List ℕ)) → ((y : List ℕ) → Contains ys y → P y) → AllByRecursion P ys
    weaken P ys f = recursion_from_All P ys (All-weaker (Contains ys) P f ys (All-contains_itself ys))

-- a property of each hash of a path holds in the reverse order too
turned : (P : List ℕ → Type 0) (path : List (List ℕ)) → AllByRecursion P path → AllByRecursion P (reverse path)
turned P [] all = tt
turned P (p ∷ path) all =
    subst (AllByRecursion P) (sym (reverse-append (p ∷ []) path))
    (all-append P (reverse path) (p ∷ []) (turned P path all.1) (all.0, tt))

-- for equal sizes, the first tree is the whole tree
equal_sizes : (digest : List ℕ → List ℕ) (n m : ℕ) (g root : List ℕ) (path : List (List ℕ)) → 0 < m → m ≡ n →
    path ≡ [] → g ≡ root → cons digest m n true g path ≡ Some (g, root)
unfolding cons
equal_sizes digest n m g root path some same empty roots =
    (λ i. cons_in digest (shape n) (same i) true g (reverse (empty i))) ∙ whole digest n true g [] (omega arith) ∙
    (λ i. Some (g, roots i))

pub accepted_consistency_shows : AcceptedConsistencyShows
accepted_consistency_shows digest size ds es path hashes clean is =
    let all : AllByRecursion (λ p. length p ≡ 32) (reverse path) =
    turned (λ p. length p ≡ 32) path
    (recursion_from_All (λ p. length p ≡ 32) path
    (All-weaker (Contains path) (λ p. length p ≡ 32) hashes path (All-contains_itself path))) in
    elim is.1 [
      | inl grown ↦ shows digest size ds es path is.0 (omega (arith, grown.0)) all clean grown.1
      | inr same ↦ shows digest size ds es path is.0 (omega (arith, same.0)) all clean
          (equal_sizes digest (length es) (length ds) (mth digest ds) (mth digest es) path is.0 same.0 same.1 same.2)
    ]
