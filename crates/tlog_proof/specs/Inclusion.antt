-- Inclusion proofs: making a path (RFC 6962, section 2.1.1), and checking it (RFC 9162, section
-- 2.1.3).
use Rattle.std.specs.Prelude.{◌≡◌, ◌⊎◌, ℕ, ◌-◌, ◌<◌, ◌≤◌, List, [], ◌∷◌, ◌++◌, reverse, Option}
use Rattle.std.specs.Prelude.{Some, nat_lt, if◌then◌else◌}
use Rattle.std.specs.Option.{option_map}
use Rattle.tlog_hash.specs.Tree.{Tree, Empty, One, Join, tree_of, size_of}
use Rattle.tlog_hash.specs.Nodes.{entries_root}
use Rattle.tlog_hash.specs.Shape.{shape}
use Rattle.tlog_proof.specs.Climb.{climb}

module _ (digest : List ℕ → List ℕ) where
  -- the siblings of the nodes from that entry up to the root
  abbrev pub path_in : ℕ → Tree (List ℕ) → List (List ℕ)
  path_in index Empty = []
  path_in index (One entry) = []
  path_in index (Join l r) =
      if nat_lt index (size_of l) then path_in index l
      ++ entries_root digest r ∷ [] else path_in (index - size_of l) r ++ entries_root digest l ∷ []

  -- PATH(m, D[n]) of RFC 6962, with the index as m
  unfoldable pub path_of : ℕ → List (List ℕ) → List (List ℕ)
  path_of index entries = path_in index (tree_of entries)

  -- a hash on the right joins the hash so far
  abbrev pub hash_right : List ℕ → List ℕ → List ℕ
  hash_right hash value = digest (1 ∷ value ++ hash)

  -- a hash on the left joins the hash so far
  abbrev pub hash_left : List ℕ → List ℕ → List ℕ
  hash_left hash value = digest (1 ∷ hash ++ value)

  -- the root that a path leads to in a tree of that shape; the path has the hash nearest to the
  -- root first
  abbrev pub incl_in : Tree ℕ → ℕ → List ℕ → List (List ℕ) → Option (List ℕ)
  incl_in tree index leaf path = climb hash_right hash_left tree index leaf path

  -- the root of `size` entries that a path leads to, from the leaf hash of the entry with that
  -- index. The result is None if the path does not fit a tree of that size
  unfoldable pub incl : ℕ → ℕ → List ℕ → List (List ℕ) → Option (List ℕ)
  incl index size leaf path = incl_in (shape size) index leaf (reverse path)

  -- the inclusion proof is right: the path leads from the leaf hash of the entry with that index to
  -- the root of a tree of that size
  abbrev pub IsInclusion : List ℕ → ℕ → ℕ → List (List ℕ) → List ℕ → Type 0
  IsInclusion leaf index size path root = (index < size) × (incl index size leaf path ≡ Some root)

  -- the string is hashed while an inclusion path is checked; the path has the hash nearest to the
  -- root first
  abbrev pub IsHashed : Tree ℕ → ℕ → List ℕ → List (List ℕ) → List ℕ → Type 0
  IsHashed Empty index leaf path string = ⊥
  IsHashed (One x) index leaf path string = ⊥
  IsHashed (Join l r) index leaf [] string = ⊥
  IsHashed (Join l r) index leaf (hash ∷ path) string =
      ((index < size_of l)
      × ((option_map (λ v. 1 ∷ v ++ hash) (incl_in l index leaf path) ≡ Some string)
      ⊎ IsHashed l index leaf path string))
      ⊎ ((size_of l ≤ index)
      × ((option_map (λ v. 1 ∷ hash ++ v) (incl_in r (index - size_of l) leaf path)
      ≡ Some string)
      ⊎ IsHashed r (index - size_of l) leaf path string))
