-- The slices of a held tree, and sets of sizes and hashes that have them all. Only the contracts of private functions
-- cite `Gains`.
use Rattle.std.specs.Prelude.{◌≡◌, ◌⊎◌, ◌↔◌, ℕ, List}
use Rattle.tlog_hash.specs.Tree.{tree_of, mth}
use Rattle.tlog_hash.specs.Nodes.{Node, IsNode}
use Rattle.tlog_hash.specs.Rows.{part}
use Rattle.node_store.specs.Strings.{Strings, Has, NoClash}
use Rattle.mirror_model.specs.View.{View}
use Rattle.mirror_model.specs.Heads.{HasHead}
use Rattle.mirror_model.specs.Complete.{IsTreeOf}
use Rattle.mirror_model.specs.Forks.{Point}
use Rattle.mirror_model.specs.Marks.{Points, IsMark}
use Rattle.mirror_model.specs.Strings.{IsDigest}
use Rattle.mirror_trees.specs.HeldTrees.{HasMark, AreBuilt}

module _ (digest : List ℕ → List ℕ) (held : Strings) where
  -- the point is a slice of a held tree. The recursion of MTH (RFC 6962, section 2.1) on its list meets parts,
  -- including the complete list. The point is the number of entries and the tree hash of such a part
  pub record IsSliceOf (size : ℕ) (root : List ℕ) (point : Point) : Type 0 where
    pub entries : List (List ℕ)
    pub tree : IsTreeOf digest held size root entries
    pub node : Node
    pub is : IsNode digest (tree_of entries) 0 node
    pub len_is : point.size ≡ node.len
    pub hash_is : point.root ≡ mth digest (part node.start node.len entries)

  -- the set has all slices of the tree of that size and root
  abbrev pub HasSlices : Points → ℕ → List ℕ → Type 0
  HasSlices points size root = (point : Point) → IsSliceOf size root point → HasMark points point

  -- the set is settled: each size and root of the set is that of a held tree, and all slices of that tree are in the
  -- set too
  pub record AreSettled (points : Points) : Type 0 where
    pub known : AreBuilt digest held points
    pub closed : (size : ℕ) (root : List ℕ) → HasMark points (record { size = size; root = root }) → HasSlices points size root

  -- settling the tree of that size and root adds at most slices of that tree to the remembered points, and afterwards
  -- the remembered points are settled
  pub record Gains (size : ℕ) (root : List ℕ) (old new : Points) : Type 0 where
    pub at_least : (point : Point) → HasMark old point → HasMark new point
    pub at_most : (point : Point) → HasMark new point →
        HasMark old point ⊎ IsSliceOf size root point
    pub settled : AreSettled new

-- a settled set stays settled if more strings are held, unless strings collide
abbrev pub SettledStays : Type 0
SettledStays =
    (digest : List ℕ → List ℕ) → IsDigest digest → (held more : Strings) →
    ((string : List ℕ) → Has held string → Has more string) →
    NoClash digest more → (points : Points) →
    AreSettled digest held points → AreSettled digest more points

-- the point is a slice of the tree of one of the view's tree heads
pub record IsHeadSlice (digest : List ℕ → List ℕ) (v : View) (point : Point) : Type 0 where
  pub size : ℕ
  pub root : List ℕ
  pub head : HasHead v size root
  pub slice : IsSliceOf digest v.strings size root point

-- the points that may be remembered for a view are exactly the slices of the trees of its tree heads
abbrev pub MarksAreSlices : Type 0
MarksAreSlices =
    (digest : List ℕ → List ℕ) (v : View) (point : Point) →
    IsMark digest v point ↔ IsHeadSlice digest v point
