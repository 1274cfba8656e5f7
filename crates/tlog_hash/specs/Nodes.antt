-- The nodes of the tree of a list of entries (RFC 6962, section 2.1). Only proofs use `IsJoin`.
use Rattle.std.specs.Prelude.{◌≡◌, ◌⊎◌, ℕ, ◌+◌, List, ◌∷◌, ◌++◌}
use Rattle.tlog_hash.specs.Tree.{Tree, Empty, One, Join, root, size_of, leaf_hash}
use Rattle.tlog_hash.specs.Blocks.{map_tree}

-- a node: it covers len entries from the entry start on, and its hash is the digest of the string
pub record Node : Type 0 where
  pub start : ℕ
  pub len : ℕ
  pub string : List ℕ

-- x is the node with these three fields
pub record IsThis (start len : ℕ) (string : List ℕ) (x : Node) : Type 0 where
  pub start_is : x.start ≡ start
  pub len_is : x.len ≡ len
  pub string_is : x.string ≡ string

module _ (digest : List ℕ → List ℕ) where
  -- the hash of a tree of entries
  abbrev pub entries_root : Tree (List ℕ) → List ℕ
  entries_root t = root digest (map_tree (leaf_hash digest) t)

  -- x is a node of the tree, whose first entry has the index start
  abbrev pub IsNode : Tree (List ℕ) → ℕ → Node → Type 0
  IsNode Empty start x = ⊥
  IsNode (One e) start x = IsThis start 1 (0 ∷ e) x
  IsNode (Join l r) start x =
      IsThis start (size_of l + size_of r) (1 ∷ entries_root l ++ entries_root r) x
      ⊎ (IsNode l start x ⊎ IsNode r (start + size_of l) x)

  -- the string joins the hashes of the two children of a node, in a tree of hashes
  abbrev pub IsJoin : Tree (List ℕ) → List ℕ → Type 0
  IsJoin Empty y = ⊥
  IsJoin (One hash) y = ⊥
  IsJoin (Join l r) y = (y ≡ 1 ∷ root digest l ++ root digest r) ⊎ (IsJoin l y ⊎ IsJoin r y)
