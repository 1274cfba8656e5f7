-- The equations of RFC 6962, section 2.1.2, for the path of a consistency proof.
use Rattle.std.proofs.Common.{Bool, true, false, inl, inr, ◌≡◌, ℕ, ◌+◌, ◌-◌, ◌<◌, ◌≤◌, List, [], ◌∷◌, ◌++◌, length}
use Rattle.std.proofs.Common.{reverse, take, drop, sym, refl, ap, ◌∙◌, arith, length-take, length-drop}
use Rattle.std.proofs.lemmas.List.{reverse-append}
use Rattle.std.proofs.lemmas.Bool.{cases_lt}
use Rattle.std.specs.Prelude.{if◌then◌else◌}
use Rattle.tlog_shape.specs.Split.{split_of}
use Rattle.tlog_shape.proofs.Splits.{split_of-below}
use Rattle.tlog_hash.specs.Tree.{Tree, Join, tree_of, size_of, mth}
use Rattle.tlog_hash.specs.Nodes.{entries_root}
use Rattle.tlog_hash.proofs.Trees.{tree_of-one, tree_of-join, induction, mth-one, mth-join}
use Rattle.tlog_hash.proofs.Folds.{mth-tree}
use Rattle.tlog_hash.proofs.NodeStrings.{size_of-tree}
use Rattle.tlog_proof.specs.Consistency.{proof_in, subproof_of}
use Rattle.tlog_proof.specs.Laws.{IsSubproofMaker, ProofEquations}
use Rattle.tlog_proof.proofs.Consistencies.{not_equal, at_most, not_at_most, equal}

module _ (digest : List ℕ → List ℕ) where
  pub proof-whole : (l r : Tree (List ℕ)) (m : ℕ) (flag : Bool) → m ≡ size_of l + size_of r →
      proof_in digest m flag (Join l r)
      ≡ (if flag then [] else digest (1 ∷ entries_root digest l ++ entries_root digest r) ∷ [])
  proof-whole l r m flag is = rw (equal m (size_of l + size_of r) is)

  proof-left : (l r : Tree (List ℕ)) (m : ℕ) (flag : Bool) → m < size_of l + size_of r → m ≤ size_of l →
      proof_in digest m flag (Join l r) ≡ proof_in digest m flag l ++ entries_root digest r ∷ []
  proof-left l r m flag below le = rw (not_equal m (size_of l + size_of r) below, at_most m (size_of l) le)

  proof-right : (l r : Tree (List ℕ)) (m : ℕ) (flag : Bool) → m < size_of l + size_of r → size_of l < m →
      proof_in digest m flag (Join l r) ≡ proof_in digest (m - size_of l) false r ++ entries_root digest l ∷ []
  proof-right l r m flag below lt = rw (not_equal m (size_of l + size_of r) below, not_at_most m (size_of l) lt)

  -- the steps of proof_in, with the hash nearest to the root first
  pub turned-left : (l r : Tree (List ℕ)) (m : ℕ) (flag : Bool) → m < size_of l + size_of r → m ≤ size_of l →
      reverse (proof_in digest m flag (Join l r)) ≡ entries_root digest r ∷ reverse (proof_in digest m flag l)
  turned-left l r m flag below le =
      ap reverse (proof-left l r m flag below le) ∙
      reverse-append (proof_in digest m flag l) (entries_root digest r ∷ [])

  pub turned-right : (l r : Tree (List ℕ)) (m : ℕ) (flag : Bool) → m < size_of l + size_of r → size_of l < m →
      reverse (proof_in digest m flag (Join l r))
      ≡ entries_root digest l ∷ reverse (proof_in digest (m - size_of l) false r)
  turned-right l r m flag below lt =
      ap reverse (proof-right l r m flag below lt) ∙
      reverse-append (proof_in digest (m - size_of l) false r) (entries_root digest l ∷ [])

  -- SUBPROOF(n, D[n], flag)
  pub all_of : (es : List (List ℕ)) (flag : Bool) → 1 ≤ length es →
      proof_in digest (length es) flag (tree_of es) ≡ (if flag then [] else mth digest es ∷ [])
  all_of [] flag some = absurd (omega arith)
  all_of (e ∷ []) flag some =
      ap (proof_in digest 1 flag) (tree_of-one e) ∙ ap (λ h. if flag then [] else h ∷ []) (sym (mth-one digest e))
  all_of (e ∷ f ∷ rest) flag some =
      let es = e ∷ f ∷ rest in
      let two : 2 ≤ length es = omega arith in
      let k = split_of (length es) in
      let below : k < length es = split_of-below (length es) two in
      let sx = size_of-tree (take k es) in
      let sy = size_of-tree (drop k es) in
      let lx = length-take k es in
      let ly = length-drop k es in
      let l = tree_of (take k es) in
      let r = tree_of (drop k es) in
      ap (proof_in digest (length es) flag) (tree_of-join es two)
      ∙ proof-whole l r (length es) flag (omega arith)
      ∙ ap (λ h. if flag then [] else h ∷ [])
      ((λ i. digest (1 ∷ sym (mth-tree digest (take k es)) i ++ sym (mth-tree digest (drop k es)) i)) ∙
      sym (mth-join digest es two))

  pub left_of : (m : ℕ) (es : List (List ℕ)) (flag : Bool) → 0 < m → m < length es → m ≤ split_of (length es) →
      proof_in digest m flag (tree_of es)
      ≡ proof_in digest m flag (tree_of (take (split_of (length es)) es)) ++ mth digest (drop (split_of (length es)) es)
      ∷ []
  left_of m es flag some below inside =
      let k = split_of (length es) in
      let two : 2 ≤ length es = omega arith in
      let less : k < length es = split_of-below (length es) two in
      let sx = size_of-tree (take k es) in
      let sy = size_of-tree (drop k es) in
      let lx = length-take k es in
      let ly = length-drop k es in
      let l = tree_of (take k es) in
      let r = tree_of (drop k es) in
      ap (proof_in digest m flag) (tree_of-join es two)
      ∙ proof-left l r m flag (omega arith) (omega arith)
      ∙ ap (λ h. proof_in digest m flag l ++ h ∷ []) (sym (mth-tree digest (drop k es)))

  pub right_of : (m : ℕ) (es : List (List ℕ)) (flag : Bool) → m < length es → split_of (length es) < m →
      proof_in digest m flag (tree_of es)
      ≡ proof_in digest (m - split_of (length es)) false (tree_of (drop (split_of (length es)) es))
      ++ mth digest (take (split_of (length es)) es) ∷ []
  right_of m es flag below past =
      let k = split_of (length es) in
      let two : 2 ≤ length es = omega arith in
      let less : k < length es = split_of-below (length es) two in
      let sx = size_of-tree (take k es) in
      let sy = size_of-tree (drop k es) in
      let lx = length-take k es in
      let ly = length-drop k es in
      let l = tree_of (take k es) in
      let r = tree_of (drop k es) in
      let at : size_of l ≡ k = omega arith in
      ap (proof_in digest m flag) (tree_of-join es two)
      ∙ proof-right l r m flag (omega arith) (omega arith)
      ∙ (λ i. proof_in digest (m - at i) false r ++ sym (mth-tree digest (take k es)) i ∷ [])

  only : (subproof : ℕ → List (List ℕ) → Bool → List (List ℕ)) → IsSubproofMaker digest subproof →
      (es : List (List ℕ)) (m : ℕ) (flag : Bool) → 0 < m → m ≤ length es →
      subproof m es flag ≡ proof_in digest m flag (tree_of es)
  only subproof h es =
      induction
      (λ es. (m : ℕ) (flag : Bool) → 0 < m → m ≤ length es →
      subproof m es flag ≡ proof_in digest m flag (tree_of es)) none one more es
    where
      end : (es : List (List ℕ)) (m : ℕ) (flag : Bool) → 1 ≤ length es → m ≡ length es →
          subproof m es flag ≡ proof_in digest m flag (tree_of es)
      end es m true some is =
          ap (λ n. subproof n es true) is ∙ h.held es some ∙
          sym (ap (λ n. proof_in digest n true (tree_of es)) is ∙ all_of es true some)
      end es m false some is =
          ap (λ n. subproof n es false) is ∙ h.whole es some ∙
          sym (ap (λ n. proof_in digest n false (tree_of es)) is ∙ all_of es false some)

      none : (m : ℕ) (flag : Bool) → 0 < m → m ≤ length {A = List ℕ} [] →
          subproof m [] flag ≡ proof_in digest m flag (tree_of [])
      none m flag some le = absurd (omega arith)

      one : (e : List ℕ) (m : ℕ) (flag : Bool) → 0 < m → m ≤ length (e ∷ []) →
          subproof m (e ∷ []) flag ≡ proof_in digest m flag (tree_of (e ∷ []))
      one e m flag some le = end (e ∷ []) m flag (omega arith) (omega arith)

      more : (es : List (List ℕ)) → 2 ≤ length es →
          ((m : ℕ) (flag : Bool) → 0 < m → m ≤ length (take (split_of (length es)) es) →
          subproof m (take (split_of (length es)) es) flag
          ≡ proof_in digest m flag (tree_of (take (split_of (length es)) es))) →
          ((m : ℕ) (flag : Bool) → 0 < m → m ≤ length (drop (split_of (length es)) es) →
          subproof m (drop (split_of (length es)) es) flag
          ≡ proof_in digest m flag (tree_of (drop (split_of (length es)) es))) → (m : ℕ) (flag : Bool) → 0 < m →
          m ≤ length es → subproof m es flag ≡ proof_in digest m flag (tree_of es)
      more es two l r m flag some le =
          let k = split_of (length es) in
          let less : k < length es = split_of-below (length es) two in
          let lx = length-take k es in
          let ly = length-drop k es in
          elim (cases_lt m (length es)) [
            | inr all ↦ end es m flag (omega arith) (omega arith)
            | inl below ↦ elim (cases_lt k m) [
              | inl past ↦ h.right m es flag below past ∙
                  ap (λ p. p ++ mth digest (take k es) ∷ []) (r (m - k) false (omega arith) (omega arith)) ∙
                  sym (right_of m es flag below past)
              | inr inside ↦ h.left m es flag some below inside ∙
                  ap (λ p. p ++ mth digest (drop k es) ∷ []) (l m flag some (omega arith)) ∙
                  sym (left_of m es flag some below inside)
            ]
          ]

pub proof_equations : ProofEquations
unfolding subproof_of
proof_equations digest = (
  λ m entries. refl,
  record {
    held = λ es some. all_of digest es true some;
    whole = λ es some. all_of digest es false some;
    left = λ m es flag some below inside. left_of digest m es flag some below inside;
    right = λ m es flag below past. right_of digest m es flag below past;
  },
  λ subproof h m es flag some le. only digest subproof h es m flag some le,
)
