-- The front: the paths to fetch next for a tree that is held in part (C2SP tlog-tiles, "Merkle
-- Tree" and "Log Entries").
use Rattle.std.specs.Prelude.{◌≡◌, ◌⊎◌, ℕ, ◌+◌, ◌-◌, ◌*◌, ◌/◌, ◌≤◌, ◌<◌, List, ◌∷◌, ◌++◌, length}
use Rattle.std.specs.Prelude.{min}
use Rattle.std.specs.Ordering.{nat_cmp, ordering_then}
use Rattle.std.specs.declared.cmp.Ordering.{Ordering}
use Rattle.std.specs.declared.cmp.Ordering.TheVariants.{Less, Equal, Greater}
use Rattle.tlog_tiles.specs.declared.paths.Path.{Path}
use Rattle.tlog_tiles.specs.declared.paths.Path.TheVariants.{Checkpoint, Tile, Entries}
use Rattle.tlog_shape.specs.Edge.{IsTileOfNode}
use Rattle.node_store.specs.Strings.{Strings, Has}
use Rattle.tlog_hash.specs.Tree.{Tree, Empty, One, Join, tree_of, size_of}
use Rattle.tlog_hash.specs.Nodes.{Node, IsThis, entries_root}

-- the order in which paths are requested: tiles by falling level and rising index, then bundles by
-- rising index
abbrev pub path_cmp : Path → Path → Ordering
path_cmp (Tile level index width) (Tile l i w) =
    ordering_then (nat_cmp l level) (ordering_then (nat_cmp index i) (nat_cmp width w))
path_cmp (Tile level index width) (Entries i w) = Less
path_cmp (Tile level index width) Checkpoint = Less
path_cmp (Entries index width) (Tile l i w) = Greater
path_cmp (Entries index width) (Entries i w) = ordering_then (nat_cmp index i) (nat_cmp width w)
path_cmp (Entries index width) Checkpoint = Less
path_cmp Checkpoint (Tile l i w) = Greater
path_cmp Checkpoint (Entries i w) = Greater
path_cmp Checkpoint Checkpoint = Equal

-- the full tile for a node of more than 256 entries: its hashes give the node's hash
pub record IsNodeTile (start len level index width : ℕ) : Type 0 where
  pub many : 256 < len
  pub tile : IsTileOfNode start len level index
  pub width_is : width ≡ 256

-- the bundle for a node of at most 256 entries, in a tree of that size
pub record IsNodeBundle (size start len index width : ℕ) : Type 0 where
  pub few : len ≤ 256
  pub index_is : index ≡ start / 256
  pub width_is : width ≡ min 256 (size - 256 * index)

-- the path to fetch for the strings of the node of len entries from start on, in a tree of that
-- size
abbrev pub IsPathOf : ℕ → ℕ → ℕ → Path → Type 0
IsPathOf size start len Checkpoint = ⊥
IsPathOf size start len (Tile level index width) = IsNodeTile start len level index width
IsPathOf size start len (Entries index width) = IsNodeBundle size start len index width

-- x is the node with these three fields, and its string is not held
pub record IsUnheldThis (held : Strings) (start len : ℕ) (string : List ℕ) (x : Node) : Type 0 where
  pub this : IsThis start len string x
  pub unheld : ¬ Has held x.string

module _ (digest : List ℕ → List ℕ) (held : Strings) where
  -- x is a node of the tree, its string is not held, and the strings of all nodes above it are held
  abbrev pub InFront : Tree (List ℕ) → ℕ → Node → Type 0
  InFront Empty start x = ⊥
  InFront (One e) start x = IsUnheldThis held start 1 (0 ∷ e) x
  InFront (Join l r) start x =
      IsUnheldThis held start (size_of l + size_of r)
      (1 ∷ entries_root digest l ++ entries_root digest r) x
      ⊎ (Has held (1 ∷ entries_root digest l ++ entries_root digest r)
      × (InFront l start x ⊎ InFront r (start + size_of l) x))

  -- the path is in the front of a list of entries: it is the path for a node in the front of their
  -- tree
  pub record IsFront (entries : List (List ℕ)) (path : Path) : Type 0 where
    pub node : Node
    pub is : InFront (tree_of entries) 0 node
    pub path_is : IsPathOf (length entries) node.start node.len path
