-- The slices of a tree, by its two parts.
use Rattle.std.proofs.Common.{◌≡◌, ℕ, ◌+◌, ◌-◌, ◌<◌, ◌≤◌, List, [], ◌∷◌, ◌++◌, length, take, drop, sym, ap, ◌∙◌}
use Rattle.std.proofs.Common.{subst, arith, ◌⊎◌, inl, inr, add_assoc, length-take, length-drop}
use Rattle.tlog_shape.specs.Split.{split_of}
use Rattle.tlog_shape.proofs.Splits.{split_of-below}
use Rattle.tlog_hash.specs.Tree.{Tree, Empty, One, Join, tree_of, size_of, mth}
use Rattle.tlog_hash.specs.Nodes.{Node, IsNode}
use Rattle.tlog_hash.specs.Rows.{part}
use Rattle.tlog_hash.proofs.Trees.{tree_of-none, tree_of-one, tree_of-join}
use Rattle.tlog_hash.proofs.NodeStrings.{size_of-tree, node_parts}
use Rattle.node_store.specs.Strings.{Strings, Has, IsHeldAt, NoClash}
use Rattle.mirror_model.specs.Complete.{IsTreeOf, IsBuilt}
use Rattle.mirror_model.specs.Forks.{Point}
use Rattle.mirror_model.proofs.NodeBlocks.{node_inside}
use Rattle.mirror_model.proofs.OneLists.{only}
use Rattle.mirror_model.proofs.Remembering.{top_of}
use Rattle.mirror_model.proofs.StringSets.{held_more}
use Rattle.mirror_trees.specs.Slices.{IsSliceOf}
use Rattle.mirror_trees.proofs.Descents.{left-tree, right-tree}
use Rattle.mirror_trees.proofs.RangeSteps.{part-take, part-drop, part-whole}

abbrev pub point_at : ℕ → List ℕ → Point
point_at size root = record { size = size; root = root }

module _ (digest : List ℕ → List ℕ) where
  -- ---- nodes, moved forward and back

  abbrev up : ℕ → Node → Node
  up d x = record { start = d + x.start; len = x.len; string = x.string }

  abbrev down : ℕ → Node → Node
  down d x = record { start = x.start - d; len = x.len; string = x.string }

  shift_up : (t : Tree (List ℕ)) (s d : ℕ) (x : Node) → IsNode digest t s x → IsNode digest t (d + s) (up d x)
  shift_up Empty s d x h = h
  shift_up (One e) s d x h =
      record { start_is = ap (λ m. d + m) h.start_is; len_is = h.len_is; string_is = h.string_is }
  shift_up (Join l r) s d x (inl h) =
      inl (record { start_is = ap (λ m. d + m) h.start_is; len_is = h.len_is; string_is = h.string_is })
  shift_up (Join l r) s d x (inr (inl h)) = inr (inl (shift_up l s d x h))
  shift_up (Join l r) s d x (inr (inr h)) =
      inr (inr (subst (λ m. IsNode digest r m (up d x)) (sym (add_assoc d s (size_of l)))
      (shift_up r (s + size_of l) d x h)))

  shift_down : (t : Tree (List ℕ)) (s d : ℕ) (x : Node) → IsNode digest t (d + s) x → IsNode digest t s (down d x)
  shift_down Empty s d x h = h
  shift_down (One e) s d x h =
      record { start_is = omega (arith, h.start_is); len_is = h.len_is; string_is = h.string_is }
  shift_down (Join l r) s d x (inl h) =
      inl (record { start_is = omega (arith, h.start_is); len_is = h.len_is; string_is = h.string_is })
  shift_down (Join l r) s d x (inr (inl h)) = inr (inl (shift_down l s d x h))
  shift_down (Join l r) s d x (inr (inr h)) =
      inr (inr (shift_down r (s + size_of l) d x (subst (λ m. IsNode digest r m x) (add_assoc d s (size_of l)) h)))

  -- ---- the slices of a list

  record IsAmong (es : List (List ℕ)) (p : Point) : Type 0 where
    node : Node
    is : IsNode digest (tree_of es) 0 node
    len_is : p.size ≡ node.len
    hash_is : p.root ≡ mth digest (part node.start node.len es)

  none_among : (p : Point) → IsAmong [] p → ⊥
  none_among p m = subst (λ t. IsNode digest t 0 m.node) tree_of-none m.is

  one_among : (e : List ℕ) (p : Point) → IsAmong (e ∷ []) p → p ≡ point_at 1 (mth digest (e ∷ []))
  one_among e p m =
      let this = subst (λ t. IsNode digest t 0 m.node) (tree_of-one e) m.is in
      let size : p.size ≡ 1 = m.len_is ∙ this.len_is in
      let root : p.root ≡ mth digest (e ∷ []) =
      m.hash_is ∙ ap (mth digest) (part-whole (e ∷ []) m.node.start m.node.len this.start_is this.len_is) in
      λ i. record { size = size i; root = root i }

  whole_among : (es : List (List ℕ)) → 1 ≤ length es → IsAmong es (point_at (length es) (mth digest es))
  whole_among es some =
      let size = size_of-tree es in
      let top = top_of digest (tree_of es) (omega (arith, size)) in
      let len : top.node.len ≡ length es = top.len_is ∙ size in
      record {
        node =
            top.node;
        is =
            top.is;
        len_is =
            sym len;
        hash_is = ap (mth digest) (sym (part-whole es top.node.start top.node.len top.start_is len));
      }

  module _ (es : List (List ℕ)) (k : ℕ) (two : 2 ≤ length es) (k_is : k ≡ split_of (length es)) where
    below : k < length es
    below = let b = split_of-below (length es) two in omega arith

    len_l : length (take k es) ≡ k
    len_l = length-take k es ∙ (let b = below in omega arith)

    sized : size_of (tree_of (take k es)) ≡ k
    sized = size_of-tree (take k es) ∙ len_l

    size_r : size_of (tree_of (drop k es)) ≡ length es - k
    size_r = size_of-tree (drop k es) ∙ length-drop k es

    opened : (x : Node) → IsNode digest (tree_of es) 0 x →
        IsNode digest (Join (tree_of (take k es)) (tree_of (drop k es))) 0 x
    opened x h =
        subst (λ m. IsNode digest (Join (tree_of (take m es)) (tree_of (drop m es))) 0 x) (sym k_is)
        (node_parts digest es two 0 x h)

    closed : (x : Node) → IsNode digest (Join (tree_of (take k es)) (tree_of (drop k es))) 0 x →
        IsNode digest (tree_of es) 0 x
    closed x h =
        subst (λ t. IsNode digest t 0 x) (sym (tree_of-join es two))
        (subst (λ m. IsNode digest (Join (tree_of (take m es)) (tree_of (drop m es))) 0 x) k_is h)

    left_among : (p : Point) → IsAmong (take k es) p → IsAmong es p
    left_among p m =
        let inside = node_inside digest (take k es) 0 m.node m.is in
        record {
          node = m.node;
          is = closed m.node (inr (inl m.is));
          len_is = m.len_is;
          hash_is =
              m.hash_is ∙ ap (mth digest) (part-take es k m.node.start m.node.len (omega (arith, inside.upto, len_l)));
        }

    right_among : (p : Point) → IsAmong (drop k es) p → IsAmong es p
    right_among p m =
        let at : k + 0 ≡ 0 + size_of (tree_of (take k es)) = omega (arith, sized) in
        let back : k + m.node.start - k ≡ m.node.start = omega arith in
        record {
          node = up k m.node;
          is = closed (up k m.node)
              (inr (inr
              (subst (λ n. IsNode digest (tree_of (drop k es)) n (up k m.node)) at
              (shift_up (tree_of (drop k es)) 0 k m.node m.is))));
          len_is = m.len_is;
          hash_is =
              m.hash_is ∙
              ap (mth digest)
              (ap (λ n. part n m.node.len (drop k es)) (sym back) ∙
              part-drop es k (k + m.node.start) m.node.len (omega arith));
        }

    parts_among : (p : Point) → IsAmong es p →
        (p ≡ point_at (length es) (mth digest es)) ⊎ (IsAmong (take k es) p ⊎ IsAmong (drop k es) p)
    parts_among p m = go (opened m.node m.is)
      where
        go : IsNode digest (Join (tree_of (take k es)) (tree_of (drop k es))) 0 m.node →
            (p ≡ point_at (length es) (mth digest es)) ⊎ (IsAmong (take k es) p ⊎ IsAmong (drop k es) p)
        go (inl this) =
            let len : m.node.len ≡ length es = this.len_is ∙ omega (arith, sized, size_r, below) in
            let size : p.size ≡ length es = m.len_is ∙ len in
            let root : p.root ≡ mth digest es =
            m.hash_is ∙ ap (mth digest) (part-whole es m.node.start m.node.len this.start_is len) in
            inl (λ i. record { size = size i; root = root i })
        go (inr (inl a)) =
            let inside = node_inside digest (take k es) 0 m.node a in
            inr (inl (record {
              node = m.node;
              is =
                  a;
              len_is =
                  m.len_is;
              hash_is =
                  m.hash_is ∙
                  ap (mth digest) (sym (part-take es k m.node.start m.node.len (omega (arith, inside.upto, len_l))));
            }))
        go (inr (inr a)) =
            let inside = node_inside digest (drop k es) (0 + size_of (tree_of (take k es))) m.node a in
            let at : 0 + size_of (tree_of (take k es)) ≡ k + 0 = omega (arith, sized) in
            inr (inr (record {
              node = down k m.node;
              is = shift_down (tree_of (drop k es)) 0 k m.node
                  (subst (λ n. IsNode digest (tree_of (drop k es)) n m.node) at a);
              len_is = m.len_is;
              hash_is =
                  m.hash_is ∙
                  ap (mth digest)
                  (sym (part-drop es k m.node.start m.node.len (omega (arith, inside.start_in, sized))));
            }))

  -- ---- the slices of a held tree

  from_among : (held : Strings) (n : ℕ) (root : List ℕ) (es : List (List ℕ)) (p : Point) →
      IsTreeOf digest held n root es → IsAmong es p → IsSliceOf digest held n root p
  from_among held n root es p t m =
      record { entries = es; tree = t; node = m.node; is = m.is; len_is = m.len_is; hash_is = m.hash_is }

  own_among : (held : Strings) (n : ℕ) (root : List ℕ) (p : Point) → (m : IsSliceOf digest held n root p) →
      IsAmong m.entries p
  own_among held n root p m = record { node = m.node; is = m.is; len_is = m.len_is; hash_is = m.hash_is }

  pub no_slice : (held : Strings) (root : List ℕ) (p : Point) → IsSliceOf digest held 0 root p → ⊥
  no_slice held root p m = at m.entries (own_among held 0 root p m) m.tree.size_is
    where
      at : (es : List (List ℕ)) → IsAmong es p → length es ≡ 0 → ⊥
      at [] a len = none_among p a
      at (e ∷ es) a len = absurd (omega arith)

  pub one_slice : (held : Strings) (root : List ℕ) (p : Point) → IsSliceOf digest held 1 root p → p ≡ point_at 1 root
  one_slice held root p m = at m.entries (own_among held 1 root p m) m.tree
    where
      at : (es : List (List ℕ)) → IsAmong es p → IsTreeOf digest held 1 root es → p ≡ point_at 1 root
      at [] a t = absurd (let len = t.size_is in omega arith)
      at (e ∷ []) a t = one_among e p a ∙ ap (point_at 1) t.root_is
      at (e ∷ f ∷ es) a t = absurd (let len = t.size_is in omega arith)

  pub whole_slice : (held : Strings) (n : ℕ) (root : List ℕ) → 1 ≤ n → IsBuilt digest held n root →
      IsSliceOf digest held n root (point_at n root)
  whole_slice held n root some b =
      let w = whole_among b.entries (omega (arith, b.is.size_is)) in
      from_among held n root b.entries (point_at n root) b.is
      (subst (IsAmong b.entries) (λ i. point_at (b.is.size_is i) (b.is.root_is i)) w)

  module _ (held : Strings) (size : (s : List ℕ) → length (digest s) ≡ 32) (clean : NoClash digest held) where
    among : (n : ℕ) (root : List ℕ) (es : List (List ℕ)) (p : Point) → IsTreeOf digest held n root es →
        IsSliceOf digest held n root p → IsAmong es p
    among n root es p t m =
        subst (λ xs. IsAmong xs p) (only digest held size clean n root m.entries es m.tree t)
        (own_among held n root p m)

    module _ (n k : ℕ) (root l r : List ℕ) (two : 2 ≤ n) (k_is : k ≡ split_of n) (len : length l ≡ 32)
        (h : IsHeldAt digest held root (1 ∷ l ++ r)) (b : IsBuilt digest held n root) (p : Point) where
      es : List (List ℕ)
      es = b.entries

      lefts : IsTreeOf digest held k l (take k b.entries)
      lefts = left-tree digest held size clean n k root l r two k_is len h b.entries b.is

      rights : IsTreeOf digest held (n - k) r (drop k b.entries)
      rights = right-tree digest held size clean n k root l r two k_is len h b.entries b.is

      many : 2 ≤ length b.entries
      many = omega (arith, b.is.size_is)

      cut : k ≡ split_of (length b.entries)
      cut = k_is ∙ ap split_of (sym b.is.size_is)

      pub left_slice : IsSliceOf digest held k l p → IsSliceOf digest held n root p
      left_slice m =
          from_among held n root b.entries p b.is
          (left_among b.entries k many cut p (among k l (take k b.entries) p lefts m))

      pub right_slice : IsSliceOf digest held (n - k) r p → IsSliceOf digest held n root p
      right_slice m =
          from_among held n root b.entries p b.is
          (right_among b.entries k many cut p (among (n - k) r (drop k b.entries) p rights m))

      pub parts_slice : IsSliceOf digest held n root p →
          (p ≡ point_at n root) ⊎ (IsSliceOf digest held k l p ⊎ IsSliceOf digest held (n - k) r p)
      parts_slice m =
          elim (parts_among b.entries k many cut p (among n root b.entries p b.is m)) [
            | inl is ↦ inl (is ∙ (λ i. point_at (b.is.size_is i) (b.is.root_is i)))
            | inr (inl a) ↦ inr (inl (from_among held k l (take k b.entries) p lefts a))
            | inr (inr a) ↦ inr (inr (from_among held (n - k) r (drop k b.entries) p rights a))
          ]

  -- more strings are held, and they do not collide
  pub slice_stays : (held more : Strings) → ((s : List ℕ) → Has held s → Has more s) →
      (size : (s : List ℕ) → length (digest s) ≡ 32) → NoClash digest more → (n : ℕ) (root : List ℕ) (p : Point) →
      IsBuilt digest held n root → IsSliceOf digest more n root p → IsSliceOf digest held n root p
  slice_stays held more upon size clean n root p b m =
      let t : IsTreeOf digest more n root b.entries =
      record {
        size_is =
            b.is.size_is;
        root_is = b.is.root_is;
        are_held = held_more held more _ upon b.is.are_held;
      } in
      from_among held n root b.entries p b.is (among more size clean n root b.entries p t m)
