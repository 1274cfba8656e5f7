-- The walk from a root hash through the held strings, for a tree head without a list of entries.
use Rattle.std.specs.Prelude.{◌≡◌, ◌⊎◌, ℕ, ◌+◌, List, ◌∷◌, ◌++◌, length}
use Rattle.std.specs.List.{Contains}
use Rattle.tlog_hash.specs.Tree.{Tree, Empty, One, Join, strings, size_of}
use Rattle.tlog_hash.specs.Shape.{shape}
use Rattle.tlog_tiles.specs.declared.paths.Path.{Path}
use Rattle.node_store.specs.Strings.{Strings, Has, IsHeldAt}
use Rattle.mirror_model.specs.Front.{IsPathOf}

-- the node begins at that entry, and has that number of entries
pub record IsSpot (start len at many : ℕ) : Type 0 where
  pub at_is : at ≡ start
  pub many_is : many ≡ len

module _ (digest : List ℕ → List ℕ) (held : Strings) where
  -- a held string 0x01 || left || right has that digest, and both hashes have 32 bytes
  pub record IsPairHeld (hash left right : List ℕ) : Type 0 where
    pub left_len : length left ≡ 32
    pub right_len : length right ≡ 32
    pub is : IsHeldAt digest held hash (1 ∷ left ++ right)

  -- the walk goes from the hash down a tree of that shape, whose first entry has the index start.
  -- It fails at the node of many entries from the entry at on: no held pair has the hash of a
  -- larger node, or no held 0x00 || entry that of one entry. Otherwise it goes on to both parts
  abbrev pub WalkFails : Tree ℕ → ℕ → List ℕ → ℕ → ℕ → Type 0
  WalkFails Empty start hash at many = ⊥
  WalkFails (One x) start hash at many =
      IsSpot start 1 at many × ((entry : List ℕ) → ¬ IsHeldAt digest held hash (0 ∷ entry))
  WalkFails (Join l r) start hash at many =
      (IsSpot start (size_of l + size_of r) at many × ((x y : List ℕ) → ¬ IsPairHeld hash x y))
      ⊎ ((x : List ℕ)
      × (y : List ℕ)
      × IsPairHeld hash x y
      × (WalkFails l start x at many ⊎ WalkFails r (start + size_of l) y at many))

  -- the path is missing for a tree head of that size and root: the walk from its root fails at a
  -- node, and the path has the strings of that node
  pub record IsMissing (size : ℕ) (hash : List ℕ) (path : Path) : Type 0 where
    pub at : ℕ
    pub many : ℕ
    pub fails : WalkFails (shape size) 0 hash at many
    pub path_is : IsPathOf size at many path

  -- the held strings and those of the entries' tree do not collide
  abbrev pub NoClashWith : List (List ℕ) → Type 0
  NoClashWith entries =
      (x y : List ℕ) → Has held x ⊎ Contains (strings digest entries) x →
      Has held y ⊎ Contains (strings digest entries) y → digest x ≡ digest y → x ≡ y
