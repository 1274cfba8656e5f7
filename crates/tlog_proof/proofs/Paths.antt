-- The equations of RFC 6962, section 2.1.1, for the path of an inclusion proof.
use Rattle.std.proofs.Common.{inl, inr, ◌≡◌, ℕ, ◌-◌, ◌<◌, ◌≤◌, List, [], ◌∷◌, ◌++◌, length, take, drop, sym, ap, ◌∙◌}
use Rattle.std.proofs.Common.{arith, length-take, length-drop}
use Rattle.std.proofs.lemmas.Bool.{cases_lt, lt-ltb, le-ltb}
use Rattle.tlog_shape.specs.Split.{split_of}
use Rattle.tlog_shape.proofs.Splits.{split_of-below}
use Rattle.tlog_hash.specs.Tree.{Tree, Join, tree_of, size_of, mth}
use Rattle.tlog_hash.specs.Nodes.{entries_root}
use Rattle.tlog_hash.proofs.Trees.{tree_of-one, tree_of-join, induction}
use Rattle.tlog_hash.proofs.Folds.{mth-tree}
use Rattle.tlog_hash.proofs.NodeStrings.{size_of-tree}
use Rattle.tlog_proof.specs.Inclusion.{path_in, path_of}
use Rattle.tlog_proof.specs.Laws.{IsPathMaker, PathEquations}

module _ (digest : List ℕ → List ℕ) where
  path-left : (l r : Tree (List ℕ)) (m : ℕ) → m < size_of l →
      path_in digest m (Join l r) ≡ path_in digest m l ++ entries_root digest r ∷ []
  path-left l r m lt = rw (lt-ltb m (size_of l) lt)

  path-right : (l r : Tree (List ℕ)) (m : ℕ) → size_of l ≤ m →
      path_in digest m (Join l r) ≡ path_in digest (m - size_of l) r ++ entries_root digest l ∷ []
  path-right l r m le = rw (le-ltb m (size_of l) le)

  pub left_of : (m : ℕ) (es : List (List ℕ)) → 2 ≤ length es → m < split_of (length es) →
      path_in digest m (tree_of es)
      ≡ path_in digest m (tree_of (take (split_of (length es)) es)) ++ mth digest (drop (split_of (length es)) es) ∷ []
  left_of m es two inside =
      let k = split_of (length es) in
      let less : k < length es = split_of-below (length es) two in
      let sx = size_of-tree (take k es) in
      let lx = length-take k es in
      let l = tree_of (take k es) in
      ap (path_in digest m) (tree_of-join es two)
      ∙ path-left l (tree_of (drop k es)) m (omega arith)
      ∙ ap (λ h. path_in digest m l ++ h ∷ []) (sym (mth-tree digest (drop k es)))

  pub right_of : (m : ℕ) (es : List (List ℕ)) → 2 ≤ length es → split_of (length es) ≤ m →
      path_in digest m (tree_of es)
      ≡ path_in digest (m - split_of (length es)) (tree_of (drop (split_of (length es)) es))
      ++ mth digest (take (split_of (length es)) es) ∷ []
  right_of m es two past =
      let k = split_of (length es) in
      let less : k < length es = split_of-below (length es) two in
      let sx = size_of-tree (take k es) in
      let lx = length-take k es in
      let l = tree_of (take k es) in
      let r = tree_of (drop k es) in
      let at : size_of l ≡ k = omega arith in
      ap (path_in digest m) (tree_of-join es two)
      ∙ path-right l r m (omega arith)
      ∙ (λ i. path_in digest (m - at i) r ++ sym (mth-tree digest (take k es)) i ∷ [])

  only : (path : ℕ → List (List ℕ) → List (List ℕ)) → IsPathMaker digest path → (es : List (List ℕ)) (m : ℕ) →
      m < length es → path m es ≡ path_in digest m (tree_of es)
  only path h es =
      induction (λ es. (m : ℕ) → m < length es → path m es ≡ path_in digest m (tree_of es)) none one more es
    where
      none : (m : ℕ) → m < length {A = List ℕ} [] → path m [] ≡ path_in digest m (tree_of [])
      none m lt = absurd (omega arith)

      one : (e : List ℕ) (m : ℕ) → m < length (e ∷ []) → path m (e ∷ []) ≡ path_in digest m (tree_of (e ∷ []))
      one e m lt =
          let z : m ≡ 0 =
          omega arith in ap (λ n. path n (e ∷ [])) z ∙ h.one e ∙ sym (ap (path_in digest m) (tree_of-one e))

      more : (es : List (List ℕ)) → 2 ≤ length es →
          ((m : ℕ) → m < length (take (split_of (length es)) es) →
          path m (take (split_of (length es)) es) ≡ path_in digest m (tree_of (take (split_of (length es)) es))) →
          ((m : ℕ) → m < length (drop (split_of (length es)) es) →
          path m (drop (split_of (length es)) es) ≡ path_in digest m (tree_of (drop (split_of (length es)) es))) →
          (m : ℕ) → m < length es → path m es ≡ path_in digest m (tree_of es)
      more es two l r m lt =
          let k = split_of (length es) in
          let less : k < length es = split_of-below (length es) two in
          let lx = length-take k es in
          let ly = length-drop k es in
          elim (cases_lt m k) [
            | inl inside ↦ h.left m es two inside ∙ ap (λ p. p ++ mth digest (drop k es) ∷ []) (l m (omega arith)) ∙
                sym (left_of m es two inside)
            | inr past ↦ h.right m es past lt two ∙
                ap (λ p. p ++ mth digest (take k es) ∷ []) (r (m - k) (omega arith)) ∙ sym (right_of m es two past)
          ]

pub path_equations : PathEquations
unfolding path_of
path_equations digest = (
  record {
    one = λ e. ap (path_in digest 0) (tree_of-one e);
    left = λ m es two inside. left_of digest m es two inside;
    right = λ m es past lt two. right_of digest m es two past;
  },
  λ path h m es lt. only digest path h es m lt,
)
