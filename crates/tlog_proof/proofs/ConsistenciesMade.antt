-- A consistency proof that was made from a list is accepted.
use Rattle.std.proofs.Common.{Bool, true, false, inl, inr, ◌≡◌, ℕ, ◌+◌, ◌-◌, ◌*◌, ◌<◌, ◌≤◌, List, [], ◌∷◌, ◌++◌, length}
use Rattle.std.proofs.Common.{reverse, take, drop, Some, sym, refl, ap, ◌∙◌, arith, length-take, length-drop}
use Rattle.std.proofs.lemmas.List.{take-take, take_all}
use Rattle.std.proofs.Math.Seq.{take-add}
use Rattle.std.proofs.lemmas.Bool.{cases_lt}
use Rattle.std.specs.Prelude.{if◌then◌else◌}
use Rattle.std.specs.Option.{option_map}
use Rattle.tlog_shape.specs.Split.{split_of}
use Rattle.tlog_shape.proofs.Splits.{split_of-below, split_of-positive, split_of-power, split_of-half, split_of-unique}
use Rattle.tlog_hash.specs.Tree.{One, Join, tree_of, size_of, mth}
use Rattle.tlog_hash.proofs.Trees.{tree_of-one, tree_of-join, induction, mth-one, mth-join, mth-append}
use Rattle.tlog_hash.specs.Nodes.{entries_root}
use Rattle.tlog_hash.specs.Shape.{shape}
use Rattle.tlog_proof.specs.Consistency.{at_end, both_right, both_left, proof_in, subproof_of, proof_of, cons_in, cons}
use Rattle.tlog_proof.specs.Laws.{MadeConsistencyHolds}
use Rattle.tlog_hash.proofs.Folds.{mth-tree}
use Rattle.tlog_hash.proofs.NodeStrings.{size_of-tree}
use Rattle.tlog_hash.proofs.Shapes.{shape-one, shape-join, size_of-shape}
use Rattle.tlog_proof.proofs.Subproofs.{all_of, proof-whole, turned-left, turned-right}
use Rattle.tlog_proof.proofs.Consistencies.{cons-one, cons-left, cons-right, cons-whole}

whole_end : (flag : Bool) (g hash m : List ℕ) → hash ≡ m → (flag ≡ true → g ≡ m) →
    at_end flag g (reverse (if flag then [] else hash ∷ [])) ≡ Some (m, m)
whole_end true g hash m is h = (λ i. Some (h refl i, h refl i))
whole_end false g hash m is h = (λ i. Some (is i, is i))

module _ (digest : List ℕ → List ℕ) where
  abbrev Made : List (List ℕ) → Type 0
  Made es =
      (m : ℕ) (flag : Bool) (g : List ℕ) → 0 < m → m ≤ length es → (flag ≡ true → g ≡ mth digest (take m es)) →
      cons_in digest (shape (length es)) m flag g (reverse (proof_in digest m flag (tree_of es)))
      ≡ Some (mth digest (take m es), mth digest es)

  made_all : (es : List (List ℕ)) → Made es
  made_all es = induction Made none one more es
    where
      none : Made []
      none m flag g some le h = absurd (omega arith)

      one : (e : List ℕ) → Made (e ∷ [])
      one e m flag g some le h =
          let m1 : m ≡ 1 = omega arith in
          let all : take m (e ∷ []) ≡ e ∷ [] = take_all m (e ∷ []) (omega arith) in
          (λ i. cons_in digest (shape-one i) m flag g (reverse (proof_in digest m flag (tree_of-one e i))))
          ∙ cons-one digest m flag g (reverse (proof_in digest m flag (One e))) m1
          ∙ whole_end flag g (digest (0 ∷ e)) (mth digest (e ∷ [])) (sym (mth-one digest e))
          (λ t. h t ∙ ap (mth digest) all)
          ∙ (λ i. Some (mth digest (sym all i), mth digest (e ∷ [])))

      more : (es : List (List ℕ)) → 2 ≤ length es → Made (take (split_of (length es)) es) →
          Made (drop (split_of (length es)) es) → Made es
      more es two l r m flag g some le h =
          let n = length es in
          let k = split_of n in
          let xs = take k es in
          let ys = drop k es in
          let below : k < n = split_of-below n two in
          let positive : 0 < k = split_of-positive n two in
          let half : n ≤ 2 * k = split_of-half n two in
          let sx : length xs ≡ k = length-take k es ∙ omega arith in
          let sy : length ys ≡ n - k = length-drop k es in
          let tx : size_of (tree_of xs) ≡ k = size_of-tree xs ∙ sx in
          let ty : size_of (tree_of ys) ≡ n - k = size_of-tree ys ∙ sy in
          let shl : size_of (shape k) ≡ k = size_of-shape k in
          let shr : size_of (shape (n - k)) ≡ n - k = size_of-shape (n - k) in
          let rl = entries_root digest (tree_of xs) in
          let rr = entries_root digest (tree_of ys) in
          let ml : rl ≡ mth digest xs = sym (mth-tree digest xs) in
          let mr : rr ≡ mth digest ys = sym (mth-tree digest ys) in
          let root : mth digest es ≡ digest (1 ∷ mth digest xs ++ mth digest ys) = mth-join digest es two in
          (λ i. cons_in digest (shape-join n two i) m flag g (reverse (proof_in digest m flag (tree_of-join es two i))))
          ∙ elim (cases_lt m n) [
            | inr ge ↦
                let same : m ≡ n = omega arith in
                let all : take m es ≡ es = take_all m es (omega arith) in
                ap (λ path. cons_in digest (Join (shape k) (shape (n - k))) m flag g (reverse path))
                (proof-whole digest (tree_of xs) (tree_of ys) m flag (omega arith))
                ∙ cons-whole digest (shape k) (shape (n - k)) m flag g
                (reverse (if flag then [] else digest (1 ∷ rl ++ rr) ∷ [])) (omega arith)
                ∙ whole_end flag g (digest (1 ∷ rl ++ rr)) (mth digest es) ((λ i. digest (1 ∷ ml i ++ mr i)) ∙ sym root)
                (λ t. h t ∙ ap (mth digest) all)
                ∙ (λ i. Some (mth digest (sym all i), mth digest es))
            | inl lt ↦ elim (cases_lt k m) [
              | inr inside ↦
                  let same : take m xs ≡ take m es = take-take m k es inside in
                  ap (cons_in digest (Join (shape k) (shape (n - k))) m flag g)
                  (turned-left digest (tree_of xs) (tree_of ys) m flag (omega arith) (omega arith))
                  ∙ cons-left digest (shape k) (shape (n - k)) m flag g rr
                  (reverse (proof_in digest m flag (tree_of xs))) (omega arith) (omega arith)
                  ∙ ap (option_map (both_right digest rr))
                  (ap (λ x. cons_in digest (shape x) m flag g (reverse (proof_in digest m flag (tree_of xs))))
                  (sym sx) ∙ l m flag g some (omega arith) (λ t. h t ∙ ap (mth digest) (sym same)))
                  ∙ (λ i. Some (mth digest (same i), ((λ j. digest (1 ∷ mth digest xs ++ mr j)) ∙ sym root) i))
              | inl past ↦
                  let j = m - k in
                  let sum : k + j ≡ m = omega arith in
                  let front : take m es ≡ xs ++ take j ys = ap (λ x. take x es) (sym sum) ∙ take-add k j es in
                  let sj : length (take j ys) ≡ j = length-take j ys ∙ omega arith in
                  let at : k ≡ split_of m =
                  split_of-unique m k (omega arith) (split_of-power n two) past (omega arith) in
                  let total : length xs + length (take j ys) ≡ m = omega arith in
                  let first : mth digest (take m es) ≡ digest (1 ∷ mth digest xs ++ mth digest (take j ys)) =
                  ap (mth digest) front ∙
                  mth-append digest xs (take j ys) (omega arith) (sx ∙ at ∙ ap split_of (sym total)) in
                  let jl : m - size_of (tree_of xs) ≡ j = omega arith in
                  let js : m - size_of (shape k) ≡ j = omega arith in
                  ap (cons_in digest (Join (shape k) (shape (n - k))) m flag g)
                  (turned-right digest (tree_of xs) (tree_of ys) m flag (omega arith) (omega arith))
                  ∙ cons-right digest (shape k) (shape (n - k)) m flag g rl
                  (reverse (proof_in digest (m - size_of (tree_of xs)) false (tree_of ys))) (omega arith)
                  (omega arith)
                  ∙ ap (option_map (both_left digest rl))
                  ((λ i. cons_in digest (shape (sym sy i)) (js i) false g
                  (reverse (proof_in digest (jl i) false (tree_of ys)))) ∙
                  r j false g (omega arith) (omega arith) (λ t. absurd (cc t)))
                  ∙ (λ i. Some (
                    ((λ x. digest (1 ∷ ml x ++ mth digest (take j ys))) ∙ sym first) i,
                    ((λ x. digest (1 ∷ ml x ++ mth digest ys)) ∙ sym root) i,
                  ))
            ]
          ]

pub consistency_made : (digest : List ℕ → List ℕ) (es : List (List ℕ)) (m : ℕ) → 0 < m → m ≤ length es →
    cons digest m (length es) true (mth digest (take m es)) (proof_of digest m es)
    ≡ Some (mth digest (take m es), mth digest es)
unfolding cons subproof_of
consistency_made digest es m some le = made_all digest es m true (mth digest (take m es)) some le (λ _. refl)

pub made_consistency_holds : MadeConsistencyHolds
unfolding subproof_of
made_consistency_holds digest es m some le =
    let both = consistency_made digest es m some le in (
      both,
      (
        some,
        elim (cases_lt m (length es)) [
          | inl lt ↦ inl (lt, both)
          | inr ge ↦
              let same : m ≡ length es = omega arith in
              inr (
                same,
                ap (λ n. proof_in digest n true (tree_of es)) same ∙ all_of digest es true (omega arith),
                ap (mth digest) (take_all m es (omega arith)),
              )
        ],
      ),
    )
