-- The answers of the walk that decides whether a tree is held.
use Rattle.std.proofs.Common.{◌≡◌, ℕ, ◌-◌, ◌≤◌, List, [], ◌∷◌, ◌++◌, length, sym, subst, Bool, true, false, Option}
use Rattle.std.proofs.Common.{Some, None, eqb}
use Rattle.std.specs.Prelude.{IsTrue, IfSome, IfNone, is_some, ◌↔◌}
use Rattle.std.specs.Cmp.Lexicographic.{pointwise}
use Rattle.std.proofs.lemmas.Slice.Eq.{slice_eq-Decides}
use Rattle.std.proofs.lemmas.Bool.Decides.{Decides-eqb}
use denote.Bor.{Bor}
use Rattle.tlog_shape.specs.Split.{split_of}
use Rattle.node_store.specs.Strings.{Strings, IsHeldAt, NoClash}
use Rattle.mirror_model.specs.Complete.{IsBuilt}
use Rattle.mirror_trees.proofs.Descents.{none-tree, tree-none, one-tree, tree-one, join-tree, no-pair, left-tree}
use Rattle.mirror_trees.proofs.Descents.{right-tree}

module _ (digest : List ℕ → List ℕ) (held : Strings) where
  pub records_none : (size : ℕ) (root : List ℕ) (b : Bool) → size ≡ 0 → b ≡ pointwise eqb (digest []) root →
      IsTrue b ↔ IsBuilt digest held size root
  records_none size root b zero_is is =
      let decides = slice_eq-Decides Decides-eqb (digest []) root b is in
      subst (λ n. IsTrue b ↔ IsBuilt digest held n root) (sym zero_is) (
        λ h. record { entries = []; is = none-tree digest held root (decides.0 h) },
        λ t. decides.1 (tree-none digest held root t.entries t.is),
      )

  pub records_one : (size : ℕ) (root : List ℕ) (o : Option (Bor (List ℕ))) (b : Bool) → size ≡ 1 → b ≡ is_some o →
      IfSome o (λ e. IsHeldAt digest held root (0 ∷ e.now)) →
      IfNone o ((e : List ℕ) → IsHeldAt digest held root (0 ∷ e) → ⊥) → IsTrue b ↔ IsBuilt digest held size root
  records_one size root o b one_is is some none =
      subst (λ n. IsTrue b ↔ IsBuilt digest held n root) (sym one_is) (at o is some none)
    where
      at : (o : Option (Bor (List ℕ))) → b ≡ is_some o → IfSome o (λ e. IsHeldAt digest held root (0 ∷ e.now)) →
          IfNone o ((e : List ℕ) → IsHeldAt digest held root (0 ∷ e) → ⊥) → IsTrue b ↔ IsBuilt digest held 1 root
      at None is some none = (
        λ h. absurd (cc (h, is)),
        λ t. let leaf =
            tree-one digest held root t.entries t.is in absurd (none leaf.entry leaf.at),
      )
      at (Some e) is some none =
          (λ _. record { entries = e.now ∷ []; is = one-tree digest held root e.now some }, λ _. is)

  pub tells_no_pair : (n : ℕ) (root : List ℕ) → 2 ≤ n → ((l r : List ℕ) → IsHeldAt digest held root (1 ∷ l ++ r) → ⊥) →
      IsTrue false ↔ IsBuilt digest held n root
  tells_no_pair n root two none = (
    λ h. absurd (let wrong : false ≡ true = h in cc wrong),
    λ b. absurd (no-pair digest held n root two none b.entries b.is),
  )

  module _ (size : (s : List ℕ) → length (digest s) ≡ 32) (clean : NoClash digest held) (n k : ℕ) (root l r : List ℕ)
      (b : Bool) (two : 2 ≤ n) (k_is : k ≡ split_of n) (len : length l ≡ 32)
      (h : IsHeldAt digest held root (1 ∷ l ++ r)) where
    -- both parts are walked, the right one if the left one is held
    pub records_both : IsBuilt digest held k l → IsTrue b ↔ IsBuilt digest held (n - k) r →
        IsTrue b ↔ IsBuilt digest held n root
    records_both x y = (
      λ t. let z =
          y.0 t in record {
            entries =
                x.entries ++ z.entries;
            is = join-tree digest held n k root l r x.entries z.entries two k_is h x.is z.is;
          },
      λ t. y.1 (record
          { entries = _; is = right-tree digest held size clean n k root l r two k_is len h t.entries t.is }),
    )

    pub tells_left : b ≡ false → IsTrue b ↔ IsBuilt digest held k l → IsTrue b ↔ IsBuilt digest held n root
    tells_left not_left x = (
      λ t. absurd (let yes_is : b ≡ true = t in cc (yes_is, not_left)),
      λ t. x.1 (record
          { entries = _; is = left-tree digest held size clean n k root l r two k_is len h t.entries t.is }),
    )
