-- The leaf hashes of a held tree, with its entries. Only the contracts of private functions cite `AddsLeaves`.
use Rattle.std.specs.Prelude.{◌≡◌, ℕ, List, ◌++◌, map}
use Rattle.tlog_hash.specs.Tree.{leaf_hash}
use Rattle.node_store.specs.Strings.{Strings}
use Rattle.mirror_model.specs.Complete.{IsTreeOf}
use Rattle.mirror_trees.specs.declared.leaves.Leaves.{Leaves}

-- the entries of the leaves
abbrev pub entries_of : Leaves → List (List ℕ)
entries_of leaves = map (λ e. e.now) leaves.entries.items

module _ (digest : List ℕ → List ℕ) (held : Strings) (size : ℕ) (root : List ℕ) where
  -- the leaves are all those of the tree of that size and root, which is held
  pub record HasLeaves (leaves : Leaves) : Type 0 where
    pub tree : IsTreeOf digest held size root (entries_of leaves)
    pub hashes_are : leaves.hashes.items ≡ map (leaf_hash digest) (entries_of leaves)

  -- the leaves of the tree of that size and root, which is held, were added
  pub record AddsLeaves (old new : Leaves) : Type 0 where
    pub entries : List (List ℕ)
    pub tree : IsTreeOf digest held size root entries
    pub entries_are : entries_of new ≡ entries_of old ++ entries
    pub hashes_are : new.hashes.items ≡ old.hashes.items ++ map (leaf_hash digest) entries
