-- The nodes of a list's tree, by their strings and by blocks.
use Rattle.std.proofs.Common.{subst, inl, inr, refl, ◌↔◌, ◌⊎◌, ◌≡◌, ℕ, ◌+◌, ◌-◌, ◌<◌, ◌≤◌, List, [], ◌∷◌, ◌++◌, length}
use Rattle.std.proofs.Common.{take, drop, map, sym, ap, ◌∙◌, arith, length-take, length-drop, length-append}
use Rattle.std.proofs.Common.{take-append-drop}
use Rattle.std.proofs.lemmas.List.{map-append}
use Rattle.std.proofs.lemmas.List.Elements.{Contains-append_left, Contains-append_right, Contains-append_cases}
use Rattle.std.proofs.lemmas.List.Elements.{Contains-push, All-contains, All-from_recursion, recursion_from_All}
use Rattle.std.proofs.lemmas.List.Elements.{All-contains_itself, All-weaker, All-cons, All-nil}
use Rattle.std.specs.List.{AllByRecursion, Contains}
use Rattle.tlog_shape.specs.Split.{split_of}
use Rattle.tlog_shape.proofs.Splits.{split_of-below}
use Rattle.tlog_hash.specs.Tree.{Tree, Empty, One, Join, tree_of, root, pairs, joined, joins, pairs_of, mth, strings}
use Rattle.tlog_hash.specs.Tree.{size_of}
use Rattle.tlog_hash.proofs.Trees.{tree_of-none, tree_of-one, tree_of-join, induction, strings-none, strings-one}
use Rattle.tlog_hash.proofs.Trees.{all-strings, left-strings, right-strings, join-string}
use Rattle.tlog_hash.specs.Nodes.{Node, IsThis, IsNode, IsJoin, entries_root}
use Rattle.tlog_hash.proofs.Folds.{mth-tree}

module _ {A : Type 0} where
  pub size_of-tree : (xs : List A) → size_of (tree_of xs) ≡ length xs
  size_of-tree xs =
      induction (λ xs. size_of (tree_of xs) ≡ length xs) (ap size_of tree_of-none) (λ x. ap size_of (tree_of-one x))
      (λ xs two l r. ap size_of (tree_of-join xs two) ∙ (λ i. l i + r i) ∙
      sym (ap length (sym (take-append-drop (split_of (length xs)) xs)) ∙
      length-append (take (split_of (length xs)) xs) (drop (split_of (length xs)) xs))) xs

module _ (digest : List ℕ → List ℕ) where
  -- ---- the joins of a row, by its tree

  abbrev in_pairs : Tree (List ℕ) → List ℕ → Type 0
  in_pairs t y = Contains (map joined (pairs digest t)) y

  from_pairs : (t : Tree (List ℕ)) (y : List ℕ) → in_pairs t y → IsJoin digest t y
  from_pairs Empty y c = All-contains (λ z. ⊥) [] y (All-nil (λ z. ⊥)) c
  from_pairs (One h) y c = All-contains (λ z. ⊥) [] y (All-nil (λ z. ⊥)) c
  from_pairs (Join l r) y c =
      let last = joined (root digest l, root digest r) in
      let front = pairs digest l ++ pairs digest r in
      let c' = subst (λ zs. Contains zs y)
      (map-append joined front ((root digest l, root digest r) ∷ []) ∙
      ap (λ zs. zs ++ last ∷ []) (map-append joined (pairs digest l) (pairs digest r))) c in
      elim (Contains-append_cases (map joined (pairs digest l) ++ map joined (pairs digest r)) (last ∷ []) y c') [
        | inl a ↦ elim
            (Contains-append_cases (map joined (pairs digest l)) (map joined (pairs digest r)) y a) [
              | inl b ↦ inr
                  (inl (from_pairs l y b))
              | inr b ↦ inr (inr (from_pairs r y b))
            ]
        | inr a ↦ inl
            (All-contains (λ z. z ≡ last) (last ∷ []) y
            (All-cons (λ z. z ≡ last) last [] refl (All-nil (λ z. z ≡ last))) a)
      ]

  join_cases : (xs ys : List (List ℕ)) (last y : List ℕ) (L R : Type 0) → (L → Contains xs y) → (R → Contains ys y) →
      (y ≡ last) ⊎ (L ⊎ R) → Contains ((xs ++ ys) ++ last ∷ []) y
  join_cases xs ys last y L R l r (inl e) =
      subst (Contains ((xs ++ ys) ++ last ∷ [])) (sym e) (Contains-push (xs ++ ys) last)
  join_cases xs ys last y L R l r (inr (inl a)) =
      Contains-append_left (xs ++ ys) (last ∷ []) y (Contains-append_left xs ys y (l a))
  join_cases xs ys last y L R l r (inr (inr a)) =
      Contains-append_left (xs ++ ys) (last ∷ []) y (Contains-append_right xs ys y (r a))

  to_pairs : (t : Tree (List ℕ)) (y : List ℕ) → IsJoin digest t y → in_pairs t y
  to_pairs Empty y j = absurd j
  to_pairs (One h) y j = absurd j
  to_pairs (Join l r) y j =
      let last = joined (root digest l, root digest r) in
      let front = pairs digest l ++ pairs digest r in
      let whole : map joined (front ++ (root digest l, root digest r) ∷ [])
      ≡ (map joined (pairs digest l) ++ map joined (pairs digest r)) ++ last ∷ [] =
      map-append joined front ((root digest l, root digest r) ∷ []) ∙
      ap (λ zs. zs ++ last ∷ []) (map-append joined (pairs digest l) (pairs digest r)) in
      subst (λ zs. Contains zs y) (sym whole)
      (join_cases (map joined (pairs digest l)) (map joined (pairs digest r)) last y (IsJoin digest l y)
      (IsJoin digest r y) (to_pairs l y) (to_pairs r y) j)

  pub from_joins : (row : List (List ℕ)) (y : List ℕ) → Contains (joins digest row) y → IsJoin digest (tree_of row) y
  unfolding joins pairs_of
  from_joins row y c = from_pairs (tree_of row) y c

  pub to_joins : (row : List (List ℕ)) (y : List ℕ) → IsJoin digest (tree_of row) y → Contains (joins digest row) y
  unfolding joins pairs_of
  to_joins row y j = to_pairs (tree_of row) y j

  -- ---- the strings of a list, by its nodes

  pub node_parts : (es : List (List ℕ)) → 2 ≤ length es → (s : ℕ) (x : Node) → IsNode digest (tree_of es) s x →
      IsNode digest (Join (tree_of (take (split_of (length es)) es)) (tree_of (drop (split_of (length es)) es))) s x
  node_parts es two s x h = subst (λ t. IsNode digest t s x) (tree_of-join es two) h

  module _ (P : List ℕ → Type 0) where
    -- a property of all strings of the tree holds for the string of each node
    pub all_nodes : (es : List (List ℕ)) → AllByRecursion P (strings digest es) → (s : ℕ) (x : Node) →
        IsNode digest (tree_of es) s x → P x.string
    all_nodes es =
        induction
        (λ es. AllByRecursion P (strings digest es) → (s : ℕ) (x : Node) → IsNode digest (tree_of es) s x →
        P x.string) none one more es
      where
        none : AllByRecursion P (strings digest []) → (s : ℕ) (x : Node) → IsNode digest (tree_of []) s x → P x.string
        none a s x h = absurd (subst (λ t. IsNode digest t s x) tree_of-none h)

        one : (e : List ℕ) → AllByRecursion P (strings digest (e ∷ [])) → (s : ℕ) (x : Node) →
            IsNode digest (tree_of (e ∷ [])) s x → P x.string
        one e a s x h =
            let is : IsThis s 1 (0 ∷ e) x = subst (λ t. IsNode digest t s x) (tree_of-one e) h in
            subst P (sym is.string_is) (subst (AllByRecursion P) (strings-one digest e) a).0

        more : (es : List (List ℕ)) → 2 ≤ length es →
            (AllByRecursion P (strings digest (take (split_of (length es)) es)) → (s : ℕ) (x : Node) →
            IsNode digest (tree_of (take (split_of (length es)) es)) s x → P x.string) →
            (AllByRecursion P (strings digest (drop (split_of (length es)) es)) → (s : ℕ) (x : Node) →
            IsNode digest (tree_of (drop (split_of (length es)) es)) s x → P x.string) →
            AllByRecursion P (strings digest es) → (s : ℕ) (x : Node) → IsNode digest (tree_of es) s x → P x.string
        more es two l r a s x h =
            let k = split_of (length es) in
            let xs = take k es in
            let ys = drop k es in
            let below : k < length es = split_of-below (length es) two in
            let sx : length xs ≡ k = length-take k es ∙ omega arith in
            let sy : length ys ≡ length es - k = length-drop k es in
            let total : length xs + length ys ≡ length es = omega arith in
            let two' : 2 ≤ length xs + length ys = omega arith in
            let at : length xs ≡ split_of (length xs + length ys) = sx ∙ ap split_of (sym total) in
            let all : AllByRecursion P (strings digest (xs ++ ys)) =
            subst (λ zs. AllByRecursion P (strings digest zs)) (sym (take-append-drop k es)) a in
            elim (node_parts es two s x h) [
              | inl is ↦ subst P ((λ i. 1 ∷ mth-tree digest xs i ++ mth-tree digest ys i) ∙ sym is.string_is)
                  (join-string digest P xs ys two' at all)
              | inr below ↦ elim below [
                | inl a ↦ l (left-strings digest P xs ys two' at all) s x a
                | inr b ↦ r
                    (right-strings digest P xs ys two' at all) (s + size_of (tree_of xs)) x b
              ]
            ]

    -- a property of each node's string holds for all strings of the tree
    pub nodes_all : (es : List (List ℕ)) (s : ℕ) → ((x : Node) → IsNode digest (tree_of es) s x → P x.string) →
        AllByRecursion P (strings digest es)
    nodes_all es =
        induction
        (λ es. (s : ℕ) → ((x : Node) → IsNode digest (tree_of es) s x → P x.string) →
        AllByRecursion P (strings digest es)) none one more es
      where
        none : (s : ℕ) → ((x : Node) → IsNode digest (tree_of []) s x → P x.string) →
            AllByRecursion P (strings digest [])
        none s h = subst (AllByRecursion P) (sym (strings-none digest)) tt

        one : (e : List ℕ) (s : ℕ) → ((x : Node) → IsNode digest (tree_of (e ∷ [])) s x → P x.string) →
            AllByRecursion P (strings digest (e ∷ []))
        one e s h =
            let x : Node = record { start = s; len = 1; string = 0 ∷ e } in
            let is : IsThis s 1 (0 ∷ e) x = record { start_is = refl; len_is = refl; string_is = refl } in
            subst (AllByRecursion P) (sym (strings-one digest e))
            (h x (subst (λ t. IsNode digest t s x) (sym (tree_of-one e)) is), tt)

        more : (es : List (List ℕ)) → 2 ≤ length es →
            ((s : ℕ) → ((x : Node) → IsNode digest (tree_of (take (split_of (length es)) es)) s x → P x.string) →
            AllByRecursion P (strings digest (take (split_of (length es)) es))) →
            ((s : ℕ) → ((x : Node) → IsNode digest (tree_of (drop (split_of (length es)) es)) s x → P x.string) →
            AllByRecursion P (strings digest (drop (split_of (length es)) es))) → (s : ℕ) →
            ((x : Node) → IsNode digest (tree_of es) s x → P x.string) → AllByRecursion P (strings digest es)
        more es two l r s h =
            let k = split_of (length es) in
            let xs = take k es in
            let ys = drop k es in
            let below : k < length es = split_of-below (length es) two in
            let sx : length xs ≡ k = length-take k es ∙ omega arith in
            let sy : length ys ≡ length es - k = length-drop k es in
            let total : length xs + length ys ≡ length es = omega arith in
            let two' : 2 ≤ length xs + length ys = omega arith in
            let at : length xs ≡ split_of (length xs + length ys) = sx ∙ ap split_of (sym total) in
            let into =
            λ (x : Node) (n : IsNode digest (Join (tree_of xs) (tree_of ys)) s x). h x
            (subst (λ t. IsNode digest t s x) (sym (tree_of-join es two)) n) in
            let this : Node =
            record {
              start =
                  s;
              len = size_of (tree_of xs) + size_of (tree_of ys);
              string =
                  1 ∷ entries_root digest (tree_of xs) ++ entries_root digest (tree_of ys);
            } in
            let joins_them : P (1 ∷ entries_root digest (tree_of xs) ++ entries_root digest (tree_of ys)) =
            into this (inl (record { start_is = refl; len_is = refl; string_is = refl })) in
            subst (λ zs. AllByRecursion P (strings digest zs)) (take-append-drop k es)
            (all-strings digest P xs ys two' at (l s (λ x n. into x (inr (inl n))))
            (r (s + size_of (tree_of xs)) (λ x n. into x (inr (inr n))))
            (subst P (λ i. 1 ∷ sym (mth-tree digest xs) i ++ sym (mth-tree digest ys) i) joins_them))

  -- the tree has a node with that string
  pub record HasNode (es : List (List ℕ)) (s : ℕ) (y : List ℕ) : Type 0 where
    pub node : Node
    pub is : IsNode digest (tree_of es) s node
    pub string_is : node.string ≡ y

  pub node_of_string : (es : List (List ℕ)) (s : ℕ) (y : List ℕ) → Contains (strings digest es) y → HasNode es s y
  node_of_string es s y c =
      All-contains (HasNode es s) (strings digest es) y
      (All-from_recursion (HasNode es s) (strings digest es)
      (nodes_all (HasNode es s) es s (λ x n. record { node = x; is = n; string_is = refl }))) c

  pub string_of_node : (es : List (List ℕ)) (s : ℕ) (x : Node) → IsNode digest (tree_of es) s x →
      Contains (strings digest es) x.string
  string_of_node es s x n =
      all_nodes (Contains (strings digest es)) es
      (recursion_from_All (Contains (strings digest es)) (strings digest es)
      (All-contains_itself (strings digest es))) s x n

  -- the strings of two or more entries, by those of the two parts
  pub strings_join : (es : List (List ℕ)) → 2 ≤ length es → (y : List ℕ) →
      Contains (strings digest es) y
      ↔ (Contains (strings digest (take (split_of (length es)) es)) y
      ⊎ (Contains (strings digest (drop (split_of (length es)) es)) y
      ⊎ (y ≡ 1 ∷ mth digest (take (split_of (length es)) es) ++ mth digest (drop (split_of (length es)) es))))
  strings_join es two y =
      let k = split_of (length es) in
      let xs = take k es in
      let ys = drop k es in
      let below : k < length es = split_of-below (length es) two in
      let sx : length xs ≡ k = length-take k es ∙ omega arith in
      let sy : length ys ≡ length es - k = length-drop k es in
      let total : length xs + length ys ≡ length es = omega arith in
      let two' : 2 ≤ length xs + length ys = omega arith in
      let at : length xs ≡ split_of (length xs + length ys) = sx ∙ ap split_of (sym total) in
      let whole : xs ++ ys ≡ es = take-append-drop k es in
      let itself : AllByRecursion (Contains (strings digest es)) (strings digest (xs ++ ys)) =
      subst (λ zs. AllByRecursion (Contains (strings digest es)) (strings digest zs)) (sym whole)
      (recursion_from_All (Contains (strings digest es)) (strings digest es)
      (All-contains_itself (strings digest es))) in
      let P : List ℕ → Type 0 = Contains (strings digest es) in
      let inside =
      λ (zs : List (List ℕ)) (a : AllByRecursion P zs) (c : Contains zs y). All-contains P zs y
      (All-from_recursion P zs a) c in
      let Q : List ℕ → Type 0 =
      λ z. Contains (strings digest xs) z
      ⊎ (Contains (strings digest ys) z ⊎ (z ≡ 1 ∷ mth digest xs ++ mth digest ys)) in
      let into : AllByRecursion Q (strings digest (xs ++ ys)) = all-strings digest Q xs ys two' at
      (recursion_from_All Q (strings digest xs)
      (All-weaker (Contains (strings digest xs)) Q (λ z c. inl c) (strings digest xs)
      (All-contains_itself (strings digest xs))))
      (recursion_from_All Q (strings digest ys)
      (All-weaker (Contains (strings digest ys)) Q (λ z c. inr (inl c)) (strings digest ys)
      (All-contains_itself (strings digest ys))))
      (inr (inr refl)) in (
        λ c. All-contains Q (strings digest es) y
            (All-from_recursion Q (strings digest es)
            (subst (λ zs. AllByRecursion Q (strings digest zs)) whole into)) c,
        λ d. elim d [
          | inl a ↦ inside (strings digest xs) (left-strings digest P xs ys two' at itself) a
          | inr rest ↦ elim rest [
            | inl b ↦ inside (strings digest ys)
                (right-strings digest P xs ys two' at itself) b
            | inr e ↦ subst P (sym e)
                (join-string digest P xs ys two' at itself)
          ]
        ],
      )
