-- Nodes of a list that is cut into blocks.
use Rattle.std.proofs.Common.{subst, get_or, inl, inr, ◌⊎◌, ◌≡◌, ℕ, ◌+◌, ◌-◌, ◌*◌, ◌^◌, ◌<◌, ◌≤◌, List, [], ◌∷◌, ◌++◌}
use Rattle.std.proofs.Common.{length, take, drop, map, sym, refl, ap, ◌∙◌, arith, length-append, take-append-drop}
use Rattle.std.proofs.lemmas.List.{append-nil, get_or-append-add, get_or_append_left}
use Rattle.std.proofs.lemmas.List.Concat.{flat_map-cons}
use Rattle.std.proofs.lemmas.Nat.{mul-le}
use Rattle.std.proofs.lemmas.Bool.{cases_lt}
use Rattle.tlog_shape.specs.Split.{split_of}
use Rattle.tlog_hash.specs.Tree.{Join, tree_of, root, fold_of, mth, size_of}
use Rattle.tlog_hash.proofs.Trees.{tree_of-none, tree_of-one, induction}
use Rattle.tlog_hash.specs.Blocks.{IsCut, joined_up}
use Rattle.tlog_hash.specs.Nodes.{Node, IsThis, IsNode, IsJoin, entries_root}
use Rattle.tlog_hash.proofs.Cuts.{cut_induction, tree_of-parts, IsSplit}
use Rattle.tlog_hash.proofs.Folds.{mth-tree, mth-blocks}
use Rattle.tlog_hash.proofs.NodeStrings.{size_of-tree, node_parts}

-- the node is within the n entries from s on
pub record IsInside (s n : ℕ) (x : Node) : Type 0 where
  pub start_in : s ≤ x.start
  pub upto : x.start + x.len ≤ s + n
  pub some : 1 ≤ x.len

module _ (digest : List ℕ → List ℕ) where
  pub node_inside : (es : List (List ℕ)) (s : ℕ) (x : Node) → IsNode digest (tree_of es) s x → IsInside s (length es) x
  node_inside es =
      induction (λ es. (s : ℕ) (x : Node) → IsNode digest (tree_of es) s x → IsInside s (length es) x) none one more es
    where
      none : (s : ℕ) (x : Node) → IsNode digest (tree_of []) s x → IsInside s 0 x
      none s x h = absurd (subst (λ t. IsNode digest t s x) tree_of-none h)

      one : (e : List ℕ) (s : ℕ) (x : Node) → IsNode digest (tree_of (e ∷ [])) s x → IsInside s (length (e ∷ [])) x
      one e s x h =
          let is : IsThis s 1 (0 ∷ e) x = subst (λ t. IsNode digest t s x) (tree_of-one e) h in
          record {
            start_in =
                omega (arith, is.start_is);
            upto =
                omega (arith, is.start_is, is.len_is);
            some = omega (arith, is.len_is);
          }

      more : (es : List (List ℕ)) → 2 ≤ length es →
          ((s : ℕ) (x : Node) → IsNode digest (tree_of (take (split_of (length es)) es)) s x →
          IsInside s (length (take (split_of (length es)) es)) x) →
          ((s : ℕ) (x : Node) → IsNode digest (tree_of (drop (split_of (length es)) es)) s x →
          IsInside s (length (drop (split_of (length es)) es)) x) → (s : ℕ) (x : Node) →
          IsNode digest (tree_of es) s x → IsInside s (length es) x
      more es two l r s x h =
          let k = split_of (length es) in
          let xs = take k es in
          let ys = drop k es in
          let total : length xs + length ys ≡ length es =
          sym (ap length (sym (take-append-drop k es)) ∙ length-append xs ys) in
          let sx = size_of-tree xs in
          let sy = size_of-tree ys in
          elim (node_parts digest es two s x h) [
            | inl is ↦ record {
              start_in =
                  omega (arith, is.start_is);
              upto =
                  omega (arith, is.start_is, is.len_is, sx, sy, total);
              some = omega (arith, is.len_is, sx, sy, total);
            }
            | inr below ↦ elim below [
              | inl a ↦ let i =
                  l s x a in record
                  { start_in = omega (arith, i.start_in); upto = omega (arith, i.upto, total); some = i.some }
              | inr c ↦ let i =
                  r (s + size_of (tree_of xs)) x c in record
                  { start_in = omega (arith, i.start_in); upto = omega (arith, i.upto, total, sx); some = i.some }
            ]
          ]

  -- the node joins blocks
  pub record IsUpper (b : ℕ) (bs : List (List (List ℕ))) (x : Node) : Type 0 where
    pub long : b < x.len
    pub join : IsJoin digest (tree_of (map (mth digest) bs)) x.string

  -- the node is a node of one block
  pub record IsInBlock (b : ℕ) (bs : List (List (List ℕ))) (s : ℕ) (x : Node) : Type 0 where
    pub index : ℕ
    pub below : index < length bs
    pub is : IsNode digest (tree_of (get_or bs index [])) (s + index * b) x

  module _ (j : ℕ) where
    same_block : (x : List (List ℕ)) → joined_up (x ∷ []) ≡ x
    same_block x = flat_map-cons (λ y. y) x [] ∙ append-nil x

    in_left : (xs ys : List (List (List ℕ))) (s : ℕ) (x : Node) → IsInBlock (2 ^ j) xs s x →
        IsInBlock (2 ^ j) (xs ++ ys) s x
    in_left xs ys s x h =
        record {
          index =
              h.index;
          below =
              omega (arith, h.below, length-append xs ys);
          is =
              subst (λ blk. IsNode digest (tree_of blk) (s + h.index * 2 ^ j) x)
              (sym (get_or_append_left xs ys [] h.index h.below)) h.is;
        }

    in_right : (xs ys : List (List (List ℕ))) (s t : ℕ) (x : Node) → t ≡ s + length xs * 2 ^ j →
        IsInBlock (2 ^ j) ys t x → IsInBlock (2 ^ j) (xs ++ ys) s x
    in_right xs ys s t x at h =
        let place : t + h.index * 2 ^ j ≡ s + (length xs + h.index) * 2 ^ j = omega (arith, at) in
        record {
          index =
              length xs + h.index;
          below =
              omega (arith, h.below, length-append xs ys);
          is =
              subst (λ blk. IsNode digest (tree_of blk) (s + (length xs + h.index) * 2 ^ j) x)
              (sym (get_or-append-add xs ys h.index []))
              (subst (λ n. IsNode digest (tree_of (get_or ys h.index [])) n x) place h.is);
        }

    block_one : (blk : List (List ℕ)) (s : ℕ) (x : Node) → IsNode digest (tree_of (joined_up (blk ∷ []))) s x →
        IsInBlock (2 ^ j) (blk ∷ []) s x
    block_one blk s x h =
        let z : s ≡ s + 0 * 2 ^ j =
        omega arith in record {
          index =
              0;
          below =
              omega arith;
          is =
              subst (λ n. IsNode digest (tree_of blk) n x) z
              (subst (λ es. IsNode digest (tree_of es) s x) (same_block blk) h);
        }

    -- the start of the right part
    right_start : (xs ys : List (List (List ℕ))) (s : ℕ) → IsSplit (2 ^ j) xs ys →
        s + size_of (tree_of (joined_up xs)) ≡ s + length xs * 2 ^ j
    right_start xs ys s h = ap (λ n. s + n) (size_of-tree (joined_up xs) ∙ h.total)

    upper : (xs : List (List (List ℕ))) → IsCut (2 ^ j) xs →
        entries_root digest (tree_of (joined_up xs)) ≡ root digest (tree_of (map (mth digest) xs))
    unfolding fold_of
    upper xs c = sym (mth-tree digest (joined_up xs)) ∙ mth-blocks digest j xs c

    -- each node joins blocks, or is a node of one block
    pub node_of_blocks : (bs : List (List (List ℕ))) → IsCut (2 ^ j) bs → (s : ℕ) (x : Node) →
        IsNode digest (tree_of (joined_up bs)) s x → IsUpper (2 ^ j) bs x ⊎ IsInBlock (2 ^ j) bs s x
    node_of_blocks bs c =
        cut_induction j
        (λ bs. (s : ℕ) (x : Node) → IsNode digest (tree_of (joined_up bs)) s x →
        IsUpper (2 ^ j) bs x ⊎ IsInBlock (2 ^ j) bs s x)
        (λ blk some upto s x h. inr (block_one blk s x h)) more bs c
      where
        more : (xs ys : List (List (List ℕ))) → IsSplit (2 ^ j) xs ys →
            ((s : ℕ) (x : Node) → IsNode digest (tree_of (joined_up xs)) s x →
            IsUpper (2 ^ j) xs x ⊎ IsInBlock (2 ^ j) xs s x) →
            ((s : ℕ) (x : Node) → IsNode digest (tree_of (joined_up ys)) s x →
            IsUpper (2 ^ j) ys x ⊎ IsInBlock (2 ^ j) ys s x) → (s : ℕ) (x : Node) →
            IsNode digest (tree_of (joined_up (xs ++ ys))) s x →
            IsUpper (2 ^ j) (xs ++ ys) x ⊎ IsInBlock (2 ^ j) (xs ++ ys) s x
        more xs ys h l r s x n =
            let n' : IsNode digest (Join (tree_of (joined_up xs)) (tree_of (joined_up ys))) s x =
            subst (λ t. IsNode digest t s x) h.tree_is n in
            let t = tree_of-parts j (mth digest) xs ys h in
            let one : 1 * 2 ^ j ≤ length xs * 2 ^ j = mul-le _ _ _ _ h.some_left (omega arith) in
            let sx = size_of-tree (joined_up xs) in
            let sy = size_of-tree (joined_up ys) in
            elim n' [
              | inl is ↦ inl
                  (record {
                    long =
                        omega (arith, is.len_is, sx, sy, h.total, h.some, one);
                    join =
                        subst (λ u. IsJoin digest u x.string) (sym t)
                        (inl (is.string_is ∙ (λ i. 1 ∷ upper xs h.left i ++ upper ys h.right i)));
                  })
              | inr below ↦ elim below [
                | inl a ↦ elim
                    (l s x a) [
                      | inl u ↦ inl
                          (record {
                            long =
                                u.long;
                            join = subst (λ v. IsJoin digest v x.string) (sym t) (inr (inl u.join));
                          })
                      | inr i ↦ inr
                          (in_left xs ys s x i)
                    ]
                | inr a ↦ elim
                    (r (s + size_of (tree_of (joined_up xs))) x a) [
                      | inl u ↦ inl
                          (record {
                            long =
                                u.long;
                            join = subst (λ v. IsJoin digest v x.string) (sym t) (inr (inr u.join));
                          })
                      | inr i ↦ inr
                          (in_right xs ys s (s + size_of (tree_of (joined_up xs))) x (right_start xs ys s h) i)
                    ]
              ]
            ]

    -- a node of a block is a node of the list
    pub block_node : (bs : List (List (List ℕ))) → IsCut (2 ^ j) bs → (s : ℕ) (x : Node) → IsInBlock (2 ^ j) bs s x →
        IsNode digest (tree_of (joined_up bs)) s x
    block_node bs c =
        cut_induction j
        (λ bs. (s : ℕ) (x : Node) → IsInBlock (2 ^ j) bs s x →
        IsNode digest (tree_of (joined_up bs)) s x) one more bs c
      where
        one : (blk : List (List ℕ)) → 0 < length blk → length blk ≤ 2 ^ j → (s : ℕ) (x : Node) →
            IsInBlock (2 ^ j) (blk ∷ []) s x → IsNode digest (tree_of (joined_up (blk ∷ []))) s x
        one blk some upto s x h =
            let z : h.index ≡ 0 = omega (arith, h.below) in
            let e : s + 0 * 2 ^ j ≡ s = omega arith in
            subst (λ es. IsNode digest (tree_of es) s x) (sym (same_block blk))
            (subst (λ n. IsNode digest (tree_of blk) n x) e
            (subst (λ i. IsNode digest (tree_of (get_or (blk ∷ []) i [])) (s + i * 2 ^ j) x) z h.is))

        more : (xs ys : List (List (List ℕ))) → IsSplit (2 ^ j) xs ys →
            ((s : ℕ) (x : Node) → IsInBlock (2 ^ j) xs s x → IsNode digest (tree_of (joined_up xs)) s x) →
            ((s : ℕ) (x : Node) → IsInBlock (2 ^ j) ys s x → IsNode digest (tree_of (joined_up ys)) s x) →
            (s : ℕ) (x : Node) → IsInBlock (2 ^ j) (xs ++ ys) s x → IsNode digest (tree_of (joined_up (xs ++ ys))) s x
        more xs ys h l r s x n =
            subst (λ t. IsNode digest t s x) (sym h.tree_is)
            (elim (cases_lt n.index (length xs)) [
              | inl a ↦ inr
                  (inl (l s x
                  (record {
                    index =
                        n.index;
                    below =
                        a;
                    is = subst (λ blk. IsNode digest (tree_of blk) (s + n.index * 2 ^ j) x)
                        (get_or_append_left xs ys [] n.index a) n.is;
                  })))
              | inr a ↦
                  let i = n.index - length xs in
                  let at : n.index ≡ length xs + i = omega arith in
                  let place : s + (length xs + i) * 2 ^ j ≡ (s + size_of (tree_of (joined_up xs))) + i * 2 ^ j =
                  omega (arith, right_start xs ys s h) in
                  inr (inr (r (s + size_of (tree_of (joined_up xs))) x
                  (record {
                    index =
                        i;
                    below =
                        omega (arith, n.below, length-append xs ys);
                    is =
                        subst (λ m. IsNode digest (tree_of (get_or ys i [])) m x) place
                        (subst (λ blk. IsNode digest (tree_of blk) (s + (length xs + i) * 2 ^ j) x)
                        (get_or-append-add xs ys i [])
                        (subst (λ m. IsNode digest (tree_of (get_or (xs ++ ys) m [])) (s + m * 2 ^ j) x) at n.is));
                  })))
            ])

    -- a longer node with that string
    pub record HasLonger (b : ℕ) (es : List (List ℕ)) (s : ℕ) (y : List ℕ) : Type 0 where
      pub node : Node
      pub is : IsNode digest (tree_of es) s node
      pub long : b < node.len
      pub string_is : node.string ≡ y

    -- a join of blocks is the string of a node
    pub upper_node : (bs : List (List (List ℕ))) → IsCut (2 ^ j) bs → (s : ℕ) (y : List ℕ) →
        IsJoin digest (tree_of (map (mth digest) bs)) y → HasLonger (2 ^ j) (joined_up bs) s y
    upper_node bs c =
        cut_induction j
        (λ bs. (s : ℕ) (y : List ℕ) → IsJoin digest (tree_of (map (mth digest) bs)) y →
        HasLonger (2 ^ j) (joined_up bs) s y)
        (λ blk some upto s y h. absurd (subst (λ t. IsJoin digest t y) (tree_of-one (mth digest blk)) h)) more bs c
      where
        more : (xs ys : List (List (List ℕ))) → IsSplit (2 ^ j) xs ys →
            ((s : ℕ) (y : List ℕ) → IsJoin digest (tree_of (map (mth digest) xs)) y →
            HasLonger (2 ^ j) (joined_up xs) s y) →
            ((s : ℕ) (y : List ℕ) → IsJoin digest (tree_of (map (mth digest) ys)) y →
            HasLonger (2 ^ j) (joined_up ys) s y) → (s : ℕ) (y : List ℕ) →
            IsJoin digest (tree_of (map (mth digest) (xs ++ ys))) y → HasLonger (2 ^ j) (joined_up (xs ++ ys)) s y
        more xs ys h l r s y n =
            let n' : IsJoin digest (Join (tree_of (map (mth digest) xs)) (tree_of (map (mth digest) ys))) y =
            subst (λ t. IsJoin digest t y) (tree_of-parts j (mth digest) xs ys h) n in
            let one : 1 * 2 ^ j ≤ length xs * 2 ^ j = mul-le _ _ _ _ h.some_left (omega arith) in
            let sx = size_of-tree (joined_up xs) in
            let sy = size_of-tree (joined_up ys) in
            let a = tree_of (joined_up xs) in
            let b = tree_of (joined_up ys) in
            elim n' [
              | inl is ↦
                  let x : Node =
                  record {
                    start =
                        s;
                    len = size_of a + size_of b;
                    string = 1 ∷ entries_root digest a ++ entries_root digest b;
                  } in
                  record {
                    node =
                        x;
                    is = subst (λ t. IsNode digest t s x) (sym h.tree_is)
                        (inl (record { start_is = refl; len_is = refl; string_is = refl }));
                    long =
                        omega (arith, sx, sy, h.total, h.some, one);
                    string_is =
                        (λ i. 1 ∷ upper xs h.left i ++ upper ys h.right i) ∙ sym is;
                  }
              | inr below ↦ elim below [
                | inl u ↦ let k =
                    l s y u in record {
                      node = k.node;
                      is =
                          subst (λ t. IsNode digest t s k.node) (sym h.tree_is) (inr (inl k.is));
                      long =
                          k.long;
                      string_is = k.string_is;
                    }
                | inr u ↦ let k =
                    r (s + size_of a) y u in record {
                      node = k.node;
                      is =
                          subst (λ t. IsNode digest t s k.node) (sym h.tree_is) (inr (inr k.is));
                      long =
                          k.long;
                      string_is = k.string_is;
                    }
              ]
            ]
