-- Laws of RFC 6962 for the definitions of Tree.antt.
use Rattle.std.specs.Prelude.{◌≡◌, ◌↔◌, ◌⊎◌, ℕ, ◌≤◌, ◌^◌, List, [], ◌∷◌, ◌++◌, length, take, drop}
use Rattle.std.specs.List.{Contains}
use Rattle.tlog_shape.specs.Split.{split_of}
use Rattle.tlog_hash.specs.Tree.{tree_of, fold_of, mth, strings}
use Rattle.tlog_hash.specs.Blocks.{graft, IsCut, joined_up}
use Rattle.tlog_hash.specs.Nodes.{Node, IsNode}

-- the hash of a list of entries meets the equations of RFC 6962, section 2.1
pub record IsTreeHash (digest : List ℕ → List ℕ) (hash : List (List ℕ) → List ℕ) : Type 0 where
  pub none : hash [] ≡ digest []
  pub one : (entry : List ℕ) → hash (entry ∷ []) ≡ digest (0 ∷ entry)
  pub join : (entries : List (List ℕ)) → 2 ≤ length entries → let k =
      split_of (length entries) in hash entries
      ≡ digest (1 ∷ hash (take k entries) ++ hash (drop k entries))

-- the hash of a row of one or more hashes meets the equations of RFC 6962, section 2.1, without the
-- hashing of leaves
pub record IsFold (digest : List ℕ → List ℕ) (hash : List (List ℕ) → List ℕ) : Type 0 where
  pub one : (h : List ℕ) → hash (h ∷ []) ≡ h
  pub join : (row : List (List ℕ)) → 2 ≤ length row → let k =
      split_of (length row) in hash row ≡ digest (1 ∷ hash (take k row) ++ hash (drop k row))

-- mth meets the equations of RFC 6962, and it is the only such function
abbrev pub MthIsTreeHash : Type 0
MthIsTreeHash =
    (digest : List ℕ → List ℕ) →
    IsTreeHash digest (mth digest)
    × ((hash : List (List ℕ) → List ℕ) → IsTreeHash digest hash → (entries : List (List ℕ)) →
    hash entries ≡ mth digest entries)

-- fold_of meets the equations for rows, and any other such function agrees with it on rows that are
-- not empty
abbrev pub FoldMeetsEquations : Type 0
FoldMeetsEquations =
    (digest : List ℕ → List ℕ) →
    IsFold digest (fold_of digest)
    × ((hash : List (List ℕ) → List ℕ) → IsFold digest hash → (row : List (List ℕ)) →
    1 ≤ length row → hash row ≡ fold_of digest row)

-- the strings of a tree, by its split: an empty list has no string, and one entry has the string
-- 0x00 || entry; a longer list has the strings of both parts, and the string that joins the hashes
-- of the two parts
pub record IsTreeStrings (digest : List ℕ → List ℕ) : Type 0 where
  pub none : strings digest [] ≡ []
  pub one : (entry : List ℕ) → strings digest (entry ∷ []) ≡ (0 ∷ entry) ∷ []
  pub join :
      (entries : List (List ℕ)) → 2 ≤ length entries → (y : List ℕ) →
      let left = take (split_of (length entries)) entries in
      let right = drop (split_of (length entries)) entries in
      Contains (strings digest entries) y
      ↔ (Contains (strings digest left) y
      ⊎ (Contains (strings digest right) y ⊎ (y ≡ 1 ∷ mth digest left ++ mth digest right)))

-- the strings of a tree follow its split, for every digest
abbrev pub StringsFollowSplit : Type 0
StringsFollowSplit = (digest : List ℕ → List ℕ) → IsTreeStrings digest

-- the tree of a list is the tree of its blocks, each replaced by its own tree, if the blocks have
-- 2^exponent items
abbrev pub TreeGoesByBlocks : Type 0
TreeGoesByBlocks =
    (exponent : ℕ) (blocks : List (List (List ℕ))) → IsCut (2 ^ exponent) blocks →
    tree_of (joined_up blocks) ≡ graft tree_of (tree_of blocks)

-- the strings of a tree are the strings of its nodes
abbrev pub NodesAreStrings : Type 0
NodesAreStrings =
    (digest : List ℕ → List ℕ) (entries : List (List ℕ)) (y : List ℕ) →
    Contains (strings digest entries) y
    ↔ ((x : Node) × IsNode digest (tree_of entries) 0 x × (x.string ≡ y))
