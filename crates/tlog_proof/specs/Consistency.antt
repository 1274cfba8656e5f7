-- Consistency proofs: making a path (RFC 6962, section 2.1.2), and checking it (RFC 9162, section
-- 2.1.4).
use Rattle.std.specs.Prelude.{◌≡◌, ◌⊎◌, ℕ, ◌+◌, ◌-◌, ◌<◌, ◌≤◌, Bool, true, false, List, [], ◌∷◌}
use Rattle.std.specs.Prelude.{◌++◌, reverse, Option, Some, None, nat_eq, nat_le, if◌then◌else◌}
use Rattle.std.specs.Option.{option_map}
use Rattle.tlog_hash.specs.Tree.{Tree, Empty, One, Join, tree_of, size_of}
use Rattle.tlog_hash.specs.Nodes.{entries_root}
use Rattle.tlog_hash.specs.Shape.{shape}

-- the two roots at the end of a path, if this part of the tree is the whole first tree: the known
-- first root, which the path leaves out, or otherwise the only hash of the path
abbrev pub at_end : Bool → List ℕ → List (List ℕ) → Option (List ℕ × List ℕ)
at_end true first [] = Some (first, first)
at_end true first (hash ∷ path) = None
at_end false first [] = None
at_end false first (hash ∷ []) = Some (hash, hash)
at_end false first (hash ∷ more ∷ path) = None

module _ (digest : List ℕ → List ℕ) where
  -- SUBPROOF(m, D[n], flag) of RFC 6962, for the tree of a list; the flag says that the checker
  -- knows the root of the first m entries
  abbrev pub proof_in : ℕ → Bool → Tree (List ℕ) → List (List ℕ)
  proof_in first flag Empty = []
  proof_in first flag (One entry) = if flag then [] else digest (0 ∷ entry) ∷ []
  proof_in first flag (Join l r) =
      if nat_eq first (size_of l + size_of r)
      then (if flag then [] else digest (1 ∷ entries_root digest l ++ entries_root digest r) ∷ [])
      else
      (if nat_le first (size_of l) then
      proof_in first flag l ++ entries_root digest r ∷ []
      else
      proof_in (first - size_of l) false r ++ entries_root digest l ∷ [])

  -- SUBPROOF(m, D[n], flag) of RFC 6962
  unfoldable pub subproof_of : ℕ → List (List ℕ) → Bool → List (List ℕ)
  subproof_of first entries flag = proof_in first flag (tree_of entries)

  -- PROOF(m, D[n]) of RFC 6962; the empty path for m = n
  abbrev pub proof_of : ℕ → List (List ℕ) → List (List ℕ)
  proof_of first entries = subproof_of first entries true

  -- a hash on the right belongs only to the second tree: it joins the second root so far
  abbrev pub both_right : List ℕ → List ℕ × List ℕ → List ℕ × List ℕ
  both_right hash roots = (roots.0, digest (1 ∷ roots.1 ++ hash))

  -- a hash on the left belongs to both trees: it joins both roots so far
  abbrev pub both_left : List ℕ → List ℕ × List ℕ → List ℕ × List ℕ
  both_left hash roots = (digest (1 ∷ hash ++ roots.0), digest (1 ∷ hash ++ roots.1))

  -- the two roots that a path leads to in a tree of that shape; the path has the hash nearest to
  -- the root first
  abbrev pub cons_in : Tree ℕ → ℕ → Bool → List ℕ → List (List ℕ) → Option (List ℕ × List ℕ)
  cons_in Empty first flag root path = None
  cons_in (One x) first flag root path = if nat_eq first 1 then at_end flag root path else None
  cons_in (Join l r) first flag root [] =
      if nat_eq first (size_of l + size_of r) then at_end flag root [] else None
  cons_in (Join l r) first flag root (hash ∷ path) =
      if nat_eq first (size_of l + size_of r)
      then at_end flag root (hash ∷ path)
      else
      (if nat_le first (size_of l) then
      option_map (both_right hash) (cons_in l first flag root path)
      else
      option_map (both_left hash) (cons_in r (first - size_of l) false root path))

  -- the roots of `first` and of `second` entries that a path leads to; `root` is the root of the
  -- first tree, which the checker knows. The result is None if the path does not fit trees of these
  -- sizes
  unfoldable pub cons : ℕ → ℕ → Bool → List ℕ → List (List ℕ) → Option (List ℕ × List ℕ)
  cons first second flag root path = cons_in (shape second) first flag root (reverse path)

  -- the consistency proof is right: for a smaller first size, the path leads to both roots; for
  -- equal sizes, the path is empty and the roots are equal. An empty first tree has no proof
  abbrev pub IsConsistency : ℕ → List ℕ → ℕ → List ℕ → List (List ℕ) → Type 0
  IsConsistency first first_root second second_root path =
      (0 < first)
      × (((first < second)
      × (cons first second true first_root path ≡ Some (first_root, second_root)))
      ⊎ ((first ≡ second) × (path ≡ []) × (first_root ≡ second_root)))

  -- the string is hashed while a consistency path is checked; the path has the hash nearest to the
  -- root first
  abbrev pub IsHashedBoth : Tree ℕ → ℕ → Bool → List ℕ → List (List ℕ) → List ℕ → Type 0
  IsHashedBoth Empty first flag root path string = ⊥
  IsHashedBoth (One x) first flag root path string = ⊥
  IsHashedBoth (Join l r) first flag root [] string = ⊥
  IsHashedBoth (Join l r) first flag root (hash ∷ path) string =
      ((first ≤ size_of l)
      × ((option_map (λ v. 1 ∷ v.1 ++ hash) (cons_in l first flag root path) ≡ Some string)
      ⊎ IsHashedBoth l first flag root path string))
      ⊎ ((size_of l < first)
      × (first < size_of l + size_of r)
      × ((option_map (λ v. 1 ∷ hash ++ v.0) (cons_in r (first - size_of l) false root path)
      ≡ Some string)
      ⊎ ((option_map (λ v. 1 ∷ hash ++ v.1) (cons_in r (first - size_of l) false root path)
      ≡ Some string)
      ⊎ IsHashedBoth r (first - size_of l) false root path string)))
