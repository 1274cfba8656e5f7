-- The walk and the front.
use Rattle.std.proofs.Common.{subst, inl, inr, ◌⊎◌, ◌≡◌, ℕ, ◌+◌, List, [], ◌∷◌, ◌++◌, length, sym, refl, ◌∙◌}
use Rattle.std.specs.List.{Contains}
use Rattle.tlog_hash.specs.Tree.{Tree, Empty, One, Join, tree_of, size_of, mth, strings}
use Rattle.tlog_hash.proofs.PairStrings.{left_is, right_is}
use Rattle.tlog_hash.specs.Blocks.{map_tree}
use Rattle.tlog_hash.specs.Nodes.{Node, IsNode, entries_root}
use Rattle.node_store.specs.Strings.{Strings, Has}
use Rattle.mirror_model.proofs.StringSets.{decide_has}
use Rattle.mirror_model.specs.Front.{InFront}
use Rattle.tlog_hash.specs.Shape.{shape}
use Rattle.mirror_model.specs.Walk.{WalkFails, NoClashWith}
use Rattle.std.specs.Prelude.{◌↔◌}
use Rattle.mirror_model.specs.TreeLaws.{HasFrontAt}
use Rattle.tlog_hash.proofs.NodeStrings.{string_of_node}
use Rattle.tlog_hash.proofs.Folds.{mth-tree}
use Rattle.tlog_hash.proofs.Shapes.{blank, size_of-map, shape_of}

abbrev bare : Tree (List ℕ) → Tree ℕ
bare t = map_tree (blank {A = List ℕ}) t

module _ (digest : List ℕ → List ℕ) (size : (s : List ℕ) → length (digest s) ≡ 32) (held : Strings) where
  length_root : (t : Tree (List ℕ)) → length (entries_root digest t) ≡ 32
  length_root Empty = size []
  length_root (One d) = size (0 ∷ d)
  length_root (Join l r) = size (1 ∷ entries_root digest l ++ entries_root digest r)

  -- a node of the front at that place
  record HasFront (t : Tree (List ℕ)) (s at many : ℕ) : Type 0 where
    node : Node
    is : InFront digest held t s node
    at_is : node.start ≡ at
    many_is : node.len ≡ many

  module _ (P : List ℕ → Type 0) (same : (x y : List ℕ) → P x → P y → digest x ≡ digest y → x ≡ y)
      (of_held : (y : List ℕ) → Has held y → P y) where
    walk_front : (t : Tree (List ℕ)) (s at many : ℕ) → ((x : Node) → IsNode digest t s x → P x.string) →
        WalkFails digest held (bare t) s (entries_root digest t) at many → HasFront t s at many
    walk_front Empty s at many all f = absurd f
    walk_front (One d) s at many all f =
        let x : Node = record { start = s; len = 1; string = 0 ∷ d } in
        elim (decide_has held (0 ∷ d)) [
          | inl h ↦ absurd (f.1 d (record { is_held = h; digest_is = refl }))
          | inr h ↦ record {
            node = x;
            is =
                record { this = record { start_is = refl; len_is = refl; string_is = refl }; unheld = h };
            at_is =
                sym f.0.at_is;
            many_is = sym f.0.many_is;
          }
        ]
    walk_front (Join l r) s at many all (inl f) =
        let string = 1 ∷ entries_root digest l ++ entries_root digest r in
        let x : Node = record { start = s; len = size_of l + size_of r; string = string } in
        elim (decide_has held string) [
          | inl h ↦ absurd
              (f.1 (entries_root digest l) (entries_root digest r)
              (record {
                left_len =
                    length_root l;
                right_len = length_root r;
                is = record { is_held = h; digest_is = refl };
              }))
          | inr h ↦ record {
            node = x;
            is =
                inl (record { this = record { start_is = refl; len_is = refl; string_is = refl }; unheld = h });
            at_is =
                sym f.0.at_is;
            many_is =
                sym (f.0.many_is ∙ (λ i. size_of-map (blank {A = List ℕ}) l i + size_of-map (blank {A = List ℕ}) r i));
          }
        ]
    walk_front (Join l r) s at many all (inr f) =
        let rl = entries_root digest l in
        let rr = entries_root digest r in
        let string = 1 ∷ rl ++ rr in
        let here : P string =
        all (record { start = s; len = size_of l + size_of r; string = string })
        (inl (record { start_is = refl; len_is = refl; string_is = refl })) in
        let strings_same : 1 ∷ f.0 ++ f.1 ≡ string =
        same (1 ∷ f.0 ++ f.1) string (of_held (1 ∷ f.0 ++ f.1) f.2.is.is_held) here f.2.is.digest_is in
        let lens : length f.0 ≡ length rl = f.2.left_len ∙ sym (length_root l) in
        let l_is : f.0 ≡ rl = left_is f.0 f.1 rl rr lens strings_same in
        let r_is : f.1 ≡ rr = right_is f.0 f.1 rl rr lens strings_same in
        let h : Has held string = subst (Has held) strings_same f.2.is.is_held in
        elim f.3 [
          | inl a ↦ let k =
              walk_front l s at many (λ x n. all x (inr (inl n)))
              (subst (λ v. WalkFails digest held (bare l) s v at many) l_is a) in record
              { node = k.node; is = inr (h, inl k.is); at_is = k.at_is; many_is = k.many_is }
          | inr a ↦ let k =
              walk_front r (s + size_of l) at many (λ x n. all x (inr (inr n)))
              (subst (λ v. WalkFails digest held (bare r) (s + size_of l) v at many) r_is
              (subst (λ n. WalkFails digest held (bare r) (s + n) f.1 at many)
              (size_of-map (blank {A = List ℕ}) l) a)) in record
              { node = k.node; is = inr (h, inr k.is); at_is = k.at_is; many_is = k.many_is }
        ]

    front_walk : (t : Tree (List ℕ)) (s : ℕ) (x : Node) → ((x : Node) → IsNode digest t s x → P x.string) →
        InFront digest held t s x → WalkFails digest held (bare t) s (entries_root digest t) x.start x.len
    front_walk Empty s x all f = f
    front_walk (One d) s x all f = (
      record { at_is = f.this.start_is; many_is = f.this.len_is },
      λ e h. let strings_same : 0 ∷ e ≡ 0 ∷ d =
          same (0 ∷ e) (0 ∷ d) (of_held (0 ∷ e) h.is_held)
          (subst P f.this.string_is (all x f.this)) h.digest_is in f.unheld
          (subst (Has held) (strings_same ∙ sym f.this.string_is) h.is_held),
    )
    front_walk (Join l r) s x all (inl f) =
        let string = 1 ∷ entries_root digest l ++ entries_root digest r in
        inl (
          record {
            at_is =
                f.this.start_is;
            many_is =
                f.this.len_is ∙ sym (λ i. size_of-map (blank {A = List ℕ}) l i + size_of-map (blank {A = List ℕ}) r i);
          },
          λ a b p. let strings_same : 1 ∷ a ++ b ≡ string =
              same (1 ∷ a ++ b) string (of_held (1 ∷ a ++ b) p.is.is_held)
              (subst P f.this.string_is (all x (inl f.this))) p.is.digest_is in f.unheld
              (subst (Has held) (strings_same ∙ sym f.this.string_is) p.is.is_held),
        )
    front_walk (Join l r) s x all (inr f) =
        inr (
          entries_root digest l,
          entries_root digest r,
          record {
            left_len =
                length_root l;
            right_len = length_root r;
            is = record { is_held = f.0; digest_is = refl };
          },
          elim f.1 [
            | inl a ↦ inl (front_walk l s x (λ y n. all y (inr (inl n))) a)
            | inr a ↦ inr
                (subst (λ n. WalkFails digest held (bare r) (s + n) (entries_root digest r) x.start x.len)
                (sym (size_of-map (blank {A = List ℕ}) l))
                (front_walk r (s + size_of l) x (λ y n. all y (inr (inr n))) a))
          ],
        )

  pub walk_is_front : (es : List (List ℕ)) → NoClashWith digest held es → (at many : ℕ) →
      WalkFails digest held (shape (length es)) 0 (mth digest es) at many ↔ HasFrontAt digest held es at many
  walk_is_front es clean at many =
      let P : List ℕ → Type 0 = λ y. Has held y ⊎ Contains (strings digest es) y in
      let all : (x : Node) → IsNode digest (tree_of es) 0 x → P x.string =
      (λ x n. inr (string_of_node digest es 0 x n)) in (
        λ w. let k =
            walk_front P clean (λ y h. inl h) (tree_of es) 0 at many all
            (subst (λ t. WalkFails digest held t 0 (entries_root digest (tree_of es)) at many) (sym (shape_of es))
            (subst (λ v. WalkFails digest held (shape (length es)) 0 v at many) (mth-tree digest es) w)) in
            (k.node, k.is, k.at_is, k.many_is),
        λ k. subst (λ v. WalkFails digest held (shape (length es)) 0 v at many) (sym (mth-tree digest es))
            (subst (λ t. WalkFails digest held t 0 (entries_root digest (tree_of es)) at many) (shape_of es)
            (subst (λ n. WalkFails digest held (bare (tree_of es)) 0 (entries_root digest (tree_of es)) n many) k.2
            (subst (λ n. WalkFails digest held (bare (tree_of es)) 0 (entries_root digest (tree_of es)) k.0.start n) k.3
            (front_walk P clean (λ y h. inl h) (tree_of es) 0 k.0 all k.1)))),
      )
