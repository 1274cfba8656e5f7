-- Two rows with one fold are equal, if the strings of both do not clash.
use Rattle.std.proofs.Common.{◌≡◌, ℕ, ◌≤◌, All, List, [], ◌∷◌, ◌++◌, length, take, drop, inl, inr, sym, ap, subst, ◌∙◌, arith}
use Rattle.std.proofs.Common.{length-take, length-drop, take-append-drop}
use Rattle.std.proofs.lemmas.List.{nil_from_length}
use Rattle.std.proofs.lemmas.List.Elements.{All-take, All-drop, recursion_from_All}
use Rattle.tlog_shape.specs.Split.{split_of}
use Rattle.tlog_hash.specs.Tree.{Join, tree_of, fold_of}
use Rattle.tlog_hash.specs.Nodes.{IsJoin}
use Rattle.tlog_hash.proofs.Trees.{fold_of-join, fold_of-one, induction, tree_of-join}
use Rattle.tlog_hash.proofs.PairStrings.{left_is, right_is}
use Rattle.node_store.specs.Strings.{Strings, Has, NoClash}
use Rattle.mirror_model.specs.Strings.{IsDigest}
use Rattle.mirror_model.proofs.EdgeWalks.{same_join}
use Rattle.mirror_model.proofs.ItemStrings.{fold_length}

module _ (digest : List ℕ → List ℕ) (hash : IsDigest digest) (held : Strings) (clean : NoClash digest held) where
  abbrev Sized : List (List ℕ) → Type 0
  Sized row = All (λ h. length h ≡ 32) row

  abbrev pub JoinsHeld : List (List ℕ) → Type 0
  JoinsHeld row = (y : List ℕ) → IsJoin digest (tree_of row) y → Has held y

  abbrev pub IsOnlyRow : List (List ℕ) → Type 0
  IsOnlyRow xs =
      (ys : List (List ℕ)) → length ys ≡ length xs → Sized xs → Sized ys → JoinsHeld xs → JoinsHeld ys →
      fold_of digest xs ≡ fold_of digest ys → xs ≡ ys

  fold_long : (row : List (List ℕ)) → Sized row → length (fold_of digest row) ≡ 32
  fold_long row sized = fold_length digest hash row (recursion_from_All (λ (h : List ℕ). length h ≡ 32) row sized)

  only_one : (x : List ℕ) → IsOnlyRow (x ∷ [])
  only_one x [] len a b p q e = absurd (omega arith)
  only_one x (y ∷ z ∷ ys) len a b p q e = absurd (omega arith)
  only_one x (y ∷ []) len a b p q e = ap (λ h. h ∷ []) (sym (fold_of-one digest x) ∙ (e ∙ fold_of-one digest y))

  only_join : (xs : List (List ℕ)) → 2 ≤ length xs → IsOnlyRow (take (split_of (length xs)) xs) →
      IsOnlyRow (drop (split_of (length xs)) xs) → IsOnlyRow xs
  only_join xs two left right ys len a b p q e =
      let k = split_of (length xs) in
      let two' : 2 ≤ length ys = omega (arith, len, two) in
      let same_k : split_of (length ys) ≡ k = ap split_of len in
      let tx : tree_of xs ≡ Join (tree_of (take k xs)) (tree_of (drop k xs)) = tree_of-join xs two in
      let ty : tree_of ys ≡ Join (tree_of (take k ys)) (tree_of (drop k ys)) =
      subst (λ j. tree_of ys ≡ Join (tree_of (take j ys)) (tree_of (drop j ys))) same_k (tree_of-join ys two') in
      let fy : fold_of digest ys ≡ digest (1 ∷ fold_of digest (take k ys) ++ fold_of digest (drop k ys)) =
      subst (λ j. fold_of digest ys ≡ digest (1 ∷ fold_of digest (take j ys) ++ fold_of digest (drop j ys))) same_k
      (fold_of-join digest ys two') in
      let px : (y : List ℕ) → IsJoin digest (Join (tree_of (take k xs)) (tree_of (drop k xs))) y → Has held y =
      (λ y j. p y (subst (λ t. IsJoin digest t y) (sym tx) j)) in
      let qy : (y : List ℕ) → IsJoin digest (Join (tree_of (take k ys)) (tree_of (drop k ys))) y → Has held y =
      (λ y j. q y (subst (λ t. IsJoin digest t y) (sym ty) j)) in
      let same : 1 ∷ fold_of digest (take k xs) ++ fold_of digest (drop k xs)
      ≡ 1 ∷ fold_of digest (take k ys) ++ fold_of digest (drop k ys) =
      clean.same _ _ (px _ (same_join digest hash held clean (take k xs) (drop k xs)))
      (qy _ (same_join digest hash held clean (take k ys) (drop k ys))) (sym (fold_of-join digest xs two) ∙ (e ∙ fy)) in
      let P : List ℕ → Type 0 = λ h. length h ≡ 32 in
      let a1 = All-take P k xs a in
      let a2 = All-drop P k xs a in
      let b1 = All-take P k ys b in
      let b2 = All-drop P k ys b in
      let long : length (fold_of digest (take k xs)) ≡ length (fold_of digest (take k ys)) =
      fold_long (take k xs) a1 ∙ sym (fold_long (take k ys) b1) in
      let l : take k xs ≡ take k ys =
      left (take k ys) (omega (arith, length-take k xs, length-take k ys, len)) a1 b1 (λ y j. px y (inr (inl j)))
      (λ y j. qy y (inr (inl j)))
      (left_is (fold_of digest (take k xs)) (fold_of digest (drop k xs)) (fold_of digest (take k ys))
      (fold_of digest (drop k ys)) long same) in
      let r : drop k xs ≡ drop k ys =
      right (drop k ys) (omega (arith, length-drop k xs, length-drop k ys, len)) a2 b2 (λ y j. px y (inr (inr j)))
      (λ y j. qy y (inr (inr j)))
      (right_is (fold_of digest (take k xs)) (fold_of digest (drop k xs)) (fold_of digest (take k ys))
      (fold_of digest (drop k ys)) long same) in
      sym (take-append-drop k xs) ∙ ((λ i. l i ++ r i) ∙ take-append-drop k ys)

  pub only_row : (xs : List (List ℕ)) → IsOnlyRow xs
  only_row xs = induction IsOnlyRow (λ ys len a b p q e. sym (nil_from_length ys len)) only_one only_join xs
