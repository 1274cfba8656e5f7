-- The Merkle tree of a list (RFC 6962, section 2.1; RFC 9162, section 2.1.1).
--
-- A string is the input of the digest. `tree_of` makes the tree of a list once. The other
-- definitions go through that tree: its hash, the pairs of hashes that it joins, and the strings
-- that it hashes.
use Rattle.std.specs.Prelude.{ℕ, zero, suc, ◌+◌, List, [], ◌∷◌, ◌++◌, length, take, drop, map}
use Rattle.tlog_shape.specs.Split.{split_of}

-- a tree of items
pub data Tree (A : Type 0) : Type 0 where
  Empty : Tree A
  One : A → Tree A
  Join : Tree A → Tree A → Tree A

-- the tree of a list that has at most the given number of items
unfoldable pub tree_within : {A : Type 0} → ℕ → List A → Tree A
tree_within n [] = Empty
tree_within n (x ∷ []) = One x
tree_within zero (x ∷ y ∷ rest) = Empty
tree_within (suc n) (x ∷ y ∷ rest) =
    Join (tree_within n (take (split_of (length (x ∷ y ∷ rest))) (x ∷ y ∷ rest)))
    (tree_within n (drop (split_of (length (x ∷ y ∷ rest))) (x ∷ y ∷ rest)))

-- the tree of a list: the list is split at the largest power of two smaller than its length, and so
-- is each part, down to single items
unfoldable pub tree_of : {A : Type 0} → List A → Tree A
tree_of xs = tree_within (length xs) xs

-- the number of items of a tree
abbrev pub size_of : {A : Type 0} → Tree A → ℕ
size_of Empty = 0
size_of (One x) = 1
size_of (Join l r) = size_of l + size_of r

-- the string of a pair of hashes: 0x01 || left || right
abbrev pub joined : List ℕ × List ℕ → List ℕ
joined p = 1 ∷ p.0 ++ p.1

module _ (digest : List ℕ → List ℕ) where
  -- the hash of a tree of hashes
  abbrev pub root : Tree (List ℕ) → List ℕ
  root Empty = digest []
  root (One hash) = hash
  root (Join l r) = digest (1 ∷ root l ++ root r)

  -- the pairs of hashes that the tree joins: children before parents, and left before right
  abbrev pub pairs : Tree (List ℕ) → List (List ℕ × List ℕ)
  pairs Empty = []
  pairs (One hash) = []
  pairs (Join l r) = pairs l ++ pairs r ++ (root l, root r) ∷ []

  -- the fold of a row of hashes: the tree hash with the row in place of the leaf hashes
  unfoldable pub fold_of : List (List ℕ) → List ℕ
  fold_of row = root (tree_of row)

  -- the pairs of hashes that the fold of a row joins
  unfoldable pub pairs_of : List (List ℕ) → List (List ℕ × List ℕ)
  pairs_of row = pairs (tree_of row)

  -- the leaf hash of an entry: the digest of 0x00 || entry
  abbrev pub leaf_hash : List ℕ → List ℕ
  leaf_hash entry = digest (0 ∷ entry)

  -- the Merkle Tree Hash of the entries: MTH of RFC 6962
  unfoldable pub mth : List (List ℕ) → List ℕ
  mth entries = fold_of (map leaf_hash entries)

  -- the strings that the fold of a row hashes
  unfoldable pub joins : List (List ℕ) → List (List ℕ)
  joins row = map joined (pairs_of row)

  -- the strings that the tree hash of the entries hashes; the empty string of an empty list is left
  -- out
  unfoldable pub strings : List (List ℕ) → List (List ℕ)
  strings entries = map (λ e. 0 ∷ e) entries ++ joins (map leaf_hash entries)
