-- Folds and tree hashes of a list that is cut into blocks.
use Rattle.std.proofs.Common.{subst, ◌≡◌, ℕ, zero, suc, ◌+◌, ◌*◌, ◌^◌, ◌<◌, ◌≤◌, List, [], ◌∷◌, ◌++◌, length, take}
use Rattle.std.proofs.Common.{drop, map, sym, refl, ap, ◌∙◌, arith, length-take, length-drop}
use Rattle.std.proofs.lemmas.List.{take-map, drop-map, length-map, append-nil, drop-drop}
use Rattle.std.proofs.lemmas.List.Concat.{flat_map-append, flat_map-cons}
use Rattle.std.proofs.Math.Seq.{take-add}
use Rattle.std.specs.List.{AllByRecursion}
use Rattle.tlog_shape.specs.Split.{split_of}
use Rattle.tlog_shape.proofs.Levels.{level_power}
use Rattle.tlog_hash.specs.Tree.{Tree, Empty, One, Join, tree_of, root, fold_of, mth, leaf_hash}
use Rattle.tlog_hash.proofs.Trees.{tree_of-none, tree_of-one, tree_of-join, induction}
use Rattle.tlog_hash.specs.Blocks.{map_tree, graft, IsCut, joined_up}
use Rattle.tlog_hash.specs.Nodes.{entries_root}
use Rattle.tlog_hash.specs.Rows.{part, ranges}
use Rattle.tlog_hash.proofs.Cuts.{tree_of-blocks}

module _ {A B : Type 0} (f : A → B) where
  pub tree_of-map : (xs : List A) → tree_of (map f xs) ≡ map_tree f (tree_of xs)
  tree_of-map xs = induction (λ xs. tree_of (map f xs) ≡ map_tree f (tree_of xs)) none one more xs
    where
      none : tree_of (map f []) ≡ map_tree f (tree_of [])
      none = tree_of-none ∙ sym (ap (map_tree f) tree_of-none)

      one : (x : A) → tree_of (map f (x ∷ [])) ≡ map_tree f (tree_of (x ∷ []))
      one x = tree_of-one (f x) ∙ sym (ap (map_tree f) (tree_of-one x))

      more : (xs : List A) → 2 ≤ length xs →
          tree_of (map f (take (split_of (length xs)) xs)) ≡ map_tree f (tree_of (take (split_of (length xs)) xs)) →
          tree_of (map f (drop (split_of (length xs)) xs)) ≡ map_tree f (tree_of (drop (split_of (length xs)) xs)) →
          tree_of (map f xs) ≡ map_tree f (tree_of xs)
      more xs two l r =
          let len : length (map f xs) ≡ length xs = length-map xs f in
          let two' : 2 ≤ length (map f xs) = omega arith in
          let a : take (split_of (length (map f xs))) (map f xs) ≡ map f (take (split_of (length xs)) xs) =
          ap (λ n. take (split_of n) (map f xs)) len ∙ take-map f _ xs in
          let d : drop (split_of (length (map f xs))) (map f xs) ≡ map f (drop (split_of (length xs)) xs) =
          ap (λ n. drop (split_of n) (map f xs)) len ∙ drop-map f _ xs in
          tree_of-join (map f xs) two' ∙ (λ i. Join ((ap tree_of a ∙ l) i) ((ap tree_of d ∙ r) i)) ∙
          sym (ap (map_tree f) (tree_of-join xs two))

module _ (digest : List ℕ → List ℕ) where
  pub mth-tree : (es : List (List ℕ)) → mth digest es ≡ entries_root digest (tree_of es)
  unfolding mth fold_of
  mth-tree es = ap (root digest) (tree_of-map (leaf_hash digest) es)

  fold-graft : (t : Tree (List (List ℕ))) → root digest (graft tree_of t) ≡ root digest (map_tree (fold_of digest) t)
  unfolding fold_of
  fold-graft Empty = refl
  fold-graft (One x) = refl
  fold-graft (Join l r) = λ i. digest (1 ∷ fold-graft l i ++ fold-graft r i)

  mth-graft : (t : Tree (List (List ℕ))) → entries_root digest (graft tree_of t) ≡ root digest (map_tree (mth digest) t)
  mth-graft Empty = refl
  mth-graft (One x) = sym (mth-tree x)
  mth-graft (Join l r) = λ i. digest (1 ∷ mth-graft l i ++ mth-graft r i)

  -- the fold of a row is the fold of the folds of its blocks
  pub fold_of-blocks : (j : ℕ) (bs : List (List (List ℕ))) → IsCut (2 ^ j) bs →
      fold_of digest (joined_up bs) ≡ fold_of digest (map (fold_of digest) bs)
  unfolding fold_of
  fold_of-blocks j bs c =
      ap (root digest) (tree_of-blocks j bs c) ∙ fold-graft (tree_of bs) ∙
      sym (ap (root digest) (tree_of-map (fold_of digest) bs))

  -- the tree hash of a list is the fold of its blocks' tree hashes
  pub mth-blocks : (j : ℕ) (bs : List (List (List ℕ))) → IsCut (2 ^ j) bs →
      mth digest (joined_up bs) ≡ fold_of digest (map (mth digest) bs)
  unfolding fold_of
  mth-blocks j bs c =
      mth-tree (joined_up bs) ∙ ap (entries_root digest) (tree_of-blocks j bs c) ∙ mth-graft (tree_of bs) ∙
      sym (ap (root digest) (tree_of-map (mth digest) bs))

-- ---- ranges of a list as blocks

module _ {A : Type 0} (b : ℕ) where
  pub length-ranges : (first count : ℕ) (es : List A) → length (ranges b first count es) ≡ count
  length-ranges first zero es = refl
  length-ranges first (suc count) es = omega (arith, length-ranges (first + 1) count es)

  -- one more range at the end
  pub ranges_more : (first count : ℕ) (es : List A) →
      ranges b first (count + 1) es ≡ ranges b first count es ++ part ((first + count) * b) b es ∷ []
  ranges_more first zero es = let e : first * b ≡ (first + 0) * b = omega arith in ap (λ n. part n b es ∷ []) e
  ranges_more first (suc count) es =
      let n : suc count + 1 ≡ suc (count + 1) = omega arith in
      let e : (first + 1 + count) * b ≡ (first + suc count) * b = ap (λ m. m * b) (omega arith) in
      ap (λ m. ranges b first m es) n ∙
      ap (λ xs. part (first * b) b es ∷ xs)
      (ranges_more (first + 1) count es ∙ ap (λ m. ranges b (first + 1) count es ++ part m b es ∷ []) e)

  pub joined_ranges : (first count : ℕ) (es : List A) →
      joined_up (ranges b first count es) ≡ part (first * b) (count * b) es
  joined_ranges first zero es = let z : 0 ≡ 0 * b = omega arith in ap (λ n. take n (drop (first * b) es)) z
  joined_ranges first (suc count) es =
      let rest = joined_ranges (first + 1) count es in
      let at : (first + 1) * b ≡ first * b + b = omega arith in
      let len : suc count * b ≡ b + count * b = omega arith in
      flat_map-cons (λ y. y) (part (first * b) b es) (ranges b (first + 1) count es)
      ∙ ap (λ xs. part (first * b) b es ++ xs)
      (rest ∙ ap (λ n. take (count * b) (drop n es)) at ∙ ap (take (count * b)) (sym (drop-drop b (first * b) es)))
      ∙ sym (ap (λ n. take n (drop (first * b) es)) len ∙ take-add b (count * b) (drop (first * b) es))

  pub all_ranges : (first count : ℕ) (es : List A) → (first + count) * b ≤ length es →
      AllByRecursion (λ x. length x ≡ b) (ranges b first count es)
  all_ranges first zero es h = tt
  all_ranges first (suc count) es h =
      let more : (first + suc count) * b ≡ (first * b + b) + count * b = omega arith in
      let same : (first + suc count) * b ≡ ((first + 1) + count) * b = omega arith in (
        omega (arith, length-take b (drop (first * b) es), length-drop (first * b) es, more),
        all_ranges (first + 1) count es (omega (arith, same)),
      )

  pub cut_push : (bs : List (List A)) (x : List A) → AllByRecursion (λ y. length y ≡ b) bs → 0 < length x →
      length x ≤ b → IsCut b (bs ++ x ∷ [])
  cut_push [] x all some upto = (some, upto)
  cut_push (y ∷ []) x all some upto = (all.0, (some, upto))
  cut_push (y ∷ z ∷ bs) x all some upto = (all.0, cut_push (z ∷ bs) x all.1 some upto)

  pub cut_full : (bs : List (List A)) → AllByRecursion (λ y. length y ≡ b) bs → 0 < length bs → 0 < b → IsCut b bs
  cut_full [] all some positive = absurd (omega arith)
  cut_full (y ∷ []) all some positive = (omega (arith, all.0), omega (arith, all.0))
  cut_full (y ∷ z ∷ bs) all some positive = (all.0, cut_full (z ∷ bs) all.1 (omega arith) positive)

  pub joined_push : (bs : List (List A)) (x : List A) → joined_up (bs ++ x ∷ []) ≡ joined_up bs ++ x
  joined_push bs x =
      flat_map-append (λ y. y) bs (x ∷ []) ∙ ap (λ ys. joined_up bs ++ ys) (flat_map-cons (λ y. y) x [] ∙ append-nil x)

module _ (digest : List ℕ → List ℕ) where
  -- the tree hash of a list is the fold of the tree hashes of its blocks of 256^level entries
  pub mth-level : (level : ℕ) (bs : List (List (List ℕ))) → IsCut (256 ^ level) bs →
      mth digest (joined_up bs) ≡ fold_of digest (map (mth digest) bs)
  mth-level level bs c = mth-blocks digest (8 * level) bs (subst (λ b. IsCut b bs) (level_power level) c)
