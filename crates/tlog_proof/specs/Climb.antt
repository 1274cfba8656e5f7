-- From a leaf of a tree up to its root, by the hashes of a path.
use Rattle.std.specs.Prelude.{ℕ, ◌-◌, List, [], ◌∷◌, Option, Some, None, nat_lt, if◌then◌else◌}
use Rattle.std.specs.Option.{option_map}
use Rattle.tlog_hash.specs.Tree.{Tree, Empty, One, Join, size_of}

module _ {V : Type 0} (on_right on_left : List ℕ → V → V) where
  -- the value at the root, from the value at a leaf. Each hash of the path joins from the right or
  -- from the left, and the path has the hash nearest to the root first. The result is None unless
  -- the path has exactly one hash for each node above the leaf
  abbrev pub climb : Tree ℕ → ℕ → V → List (List ℕ) → Option V
  climb Empty index value path = None
  climb (One leaf) index value [] = Some value
  climb (One leaf) index value (hash ∷ path) = None
  climb (Join l r) index value [] = None
  climb (Join l r) index value (hash ∷ path) =
      if nat_lt index (size_of l) then
      option_map (on_right hash) (climb l index value path)
      else
      option_map (on_left hash) (climb r (index - size_of l) value path)
