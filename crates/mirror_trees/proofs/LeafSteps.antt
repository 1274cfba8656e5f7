-- The leaves of a tree, as a walk adds them.
use Rattle.std.proofs.Common.{◌≡◌, ℕ, ◌-◌, ◌≤◌, List, [], ◌∷◌, ◌++◌, length, map, sym, ap, ◌∙◌, subst, append_assoc}
use Rattle.std.proofs.Common.{append-nil, Bool, true, false}
use Rattle.std.specs.Prelude.{IsTrue, ◌↔◌}
use denote.Bor.{Bor}
use Rattle.std.proofs.lemmas.List.{map-append}
use Rattle.tlog_shape.specs.Split.{split_of}
use Rattle.tlog_hash.specs.Tree.{leaf_hash}
use Rattle.node_store.specs.Strings.{Strings, IsHeldAt, NoClash}
use Rattle.mirror_model.specs.Complete.{IsTreeOf, IsBuilt}
use Rattle.mirror_trees.specs.HeldLeaves.{AddsLeaves}
use Rattle.mirror_trees.specs.declared.leaves.Leaves.{Leaves}
use Rattle.mirror_trees.proofs.Descents.{none-tree, one-tree, join-tree, left-tree, right-tree}

-- an answer that decides a claim: if it is false, so is the claim
pub not_from : (b : Bool) (P : Type 0) → IsTrue b ↔ P → b ≡ false → P → ⊥
not_from b P h not p = let yes : b ≡ true = h.1 p in absurd (cc (yes, not))

module _ (digest : List ℕ → List ℕ) (held : Strings) where
  pub adds_none : (size : ℕ) (root : List ℕ) (old : Leaves) → size ≡ 0 → digest [] ≡ root →
      AddsLeaves digest held size root old old
  adds_none size root old zero_is is = record {
    entries = [];
    tree = subst (λ n. IsTreeOf digest held n root []) (sym zero_is) (none-tree digest held root is);
    entries_are = sym (append-nil _);
    hashes_are = sym (append-nil _);
  }

  pub adds_one : (size : ℕ) (root : List ℕ) (old new : Leaves) (entry : Bor (List ℕ)) → size ≡ 1 →
      IsHeldAt digest held root (0 ∷ entry.now) → new.hashes.items ≡ old.hashes.items ++ root ∷ [] →
      new.entries.items ≡ old.entries.items ++ entry ∷ [] → AddsLeaves digest held size root old new
  adds_one size root old new entry one_is at hashes entries = record {
    entries = entry.now ∷ [];
    tree = subst (λ n. IsTreeOf digest held n root (entry.now ∷ []))
        (sym one_is) (one-tree digest held root entry.now at);
    entries_are = ap (map (λ e. e.now)) entries ∙ map-append (λ e. e.now) old.entries.items (entry ∷ []);
    hashes_are = hashes ∙ (λ i. old.hashes.items ++ sym at.digest_is i ∷ []);
  }

  module _ (n k : ℕ) (root l r : List ℕ) (two : 2 ≤ n) (k_is : k ≡ split_of n)
      (h : IsHeldAt digest held root (1 ∷ l ++ r)) where
    pub adds_both : (old mid new : Leaves) → AddsLeaves digest held k l old mid →
        AddsLeaves digest held (n - k) r mid new → AddsLeaves digest held n root old new
    adds_both old mid new x y = record {
      entries = x.entries ++ y.entries;
      tree = join-tree digest held n k root l r x.entries y.entries two k_is h x.tree y.tree;
      entries_are = y.entries_are ∙ ap (λ xs. xs ++ y.entries) x.entries_are ∙ append_assoc _ x.entries y.entries;
      hashes_are = y.hashes_are
          ∙ ap (λ xs. xs ++ map (leaf_hash digest) y.entries) x.hashes_are
          ∙ append_assoc old.hashes.items _ _
          ∙ ap (λ xs. old.hashes.items ++ xs) (sym (map-append (leaf_hash digest) x.entries y.entries));
    }

    module _ (size : (s : List ℕ) → length (digest s) ≡ 32) (clean : NoClash digest held) (len : length l ≡ 32) where
      pub lost_left : (IsBuilt digest held k l → ⊥) → IsBuilt digest held n root → ⊥
      lost_left none b = none (record {
        entries = _;
        is = left-tree digest held size clean n k root l r two k_is len h b.entries b.is;
      })

      pub lost_right : (IsBuilt digest held (n - k) r → ⊥) → IsBuilt digest held n root → ⊥
      lost_right none b = none (record {
        entries = _;
        is = right-tree digest held size clean n k root l r two k_is len h b.entries b.is;
      })
