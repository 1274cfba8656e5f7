-- The missing files of a tree, level by level: for level 0 the bundles, and for a level from 1 on its tiles.
use Rattle.std.specs.Prelude.{◌≡◌, ◌⊎◌, ℕ, zero, suc, ◌+◌, ◌-◌, ◌*◌, ◌/◌, ◌^◌, ◌≤◌, ◌<◌, List, []}
use Rattle.std.specs.Prelude.{◌∷◌, ◌++◌, map, min, Option, None, Some, cond, nat_lt}
use Rattle.tlog_hash.specs.Tree.{Tree, Empty, One, Join, size_of}
use Rattle.tlog_hash.specs.Shape.{shape}
use Rattle.tlog_tiles.specs.declared.paths.Path.{Path}
use Rattle.tlog_tiles.specs.declared.paths.Path.TheVariants.{Tile, Entries}
use Rattle.node_store.specs.Strings.{Strings, IsHeldAt}
use Rattle.mirror_model.specs.Marks.{Points}
use Rattle.mirror_model.specs.Walk.{IsPairHeld}
use Rattle.mirror_trees.specs.HeldTrees.{HasMark}

-- a file of that level has the strings of a node of this many entries
pub record IsOfLevel (level many : ℕ) : Type 0 where
  pub above : (level ≡ 0) ⊎ (256 ^ level < many)
  pub upto : many ≤ 256 ^ (level + 1)

-- a node has this many entries from start on. The list has the number of the file of that level with this node; it is
-- empty if there is no such file
abbrev pub ListsNode : ℕ → ℕ → ℕ → List ℕ → Type 0
ListsNode level start many numbers =
    (IsOfLevel level many × (numbers ≡ start / 256 ^ (level + 1) ∷ []))
    ⊎ ((¬ IsOfLevel level many) × (numbers ≡ []))

module _ (digest : List ℕ → List ℕ) (held : Strings) (level : ℕ) where
  -- the walk from the hash, as WalkFails defines it, fails at some nodes. These are the numbers of the files of that
  -- level with these nodes, node by node from left to right
  abbrev pub ListsLost : Tree ℕ → ℕ → List ℕ → List ℕ → Type 0
  ListsLost Empty start hash numbers = numbers ≡ []
  ListsLost (One x) start hash numbers =
      ((entry : List ℕ) × IsHeldAt digest held hash (0 ∷ entry) × (numbers ≡ []))
      ⊎ (((entry : List ℕ) → ¬ IsHeldAt digest held hash (0 ∷ entry))
      × ListsNode level start 1 numbers)
  ListsLost (Join l r) start hash numbers =
      (((x y : List ℕ) → ¬ IsPairHeld digest held hash x y)
      × ListsNode level start (size_of l + size_of r) numbers)
      ⊎ ((x : List ℕ)
      × (y : List ℕ)
      × (xs : List ℕ)
      × (ys : List ℕ)
      × IsPairHeld digest held hash x y
      × ListsLost l start x xs
      × ListsLost r (start + size_of l) y ys
      × (numbers ≡ xs ++ ys))

  -- no file of that level is missing in the tree of that size and hash, for every place of the tree
  abbrev pub IsClear : ℕ → List ℕ → Type 0
  IsClear size hash =
      (start : ℕ) (numbers : List ℕ) → ListsLost (shape size) start hash numbers → numbers ≡ []

  -- each size and hash of the set is that of a tree without missing files of that level
  pub record AreClear (points : Points) : Type 0 where
    pub clear : (size : ℕ) (hash : List ℕ) →
        HasMark points (record { size = size; root = hash }) → IsClear size hash

-- the first number of the list that is not below the bound
abbrev pub first_from : ℕ → List ℕ → Option ℕ
first_from bound [] = None
first_from bound (number ∷ rest) = cond (nat_lt number bound) (first_from bound rest) (Some number)

-- the first number of the list that is not below the bound, then the first later one that is above it, and so on. In a
-- rising list these are the numbers from the bound on, each once
abbrev pub fresh_from : ℕ → List ℕ → List ℕ
fresh_from bound [] = []
fresh_from bound (number ∷ rest) =
    cond (nat_lt number bound) (fresh_from bound rest) (number ∷ fresh_from (suc number) rest)

-- the path of the file of that level with that number, in a tree of that size
abbrev pub path_at : ℕ → ℕ → ℕ → Path
path_at size zero number = Entries number (min 256 (size - 256 * number))
path_at size (suc level) number = Tile (suc level) number 256

-- the missing paths of a tree, for the first of its levels, counted from level 7 down
abbrev pub ListsLevels : (List ℕ → List ℕ) → Strings → ℕ → List ℕ → ℕ → List Path → Type 0
ListsLevels digest held size root zero paths = paths ≡ []
ListsLevels digest held size root (suc levels) paths =
    (above : List Path)
    × (numbers : List ℕ)
    × ListsLevels digest held size root levels above
    × ListsLost digest held (7 - levels) (shape size) 0 root numbers
    × (paths ≡ above ++ map (path_at size (7 - levels)) (fresh_from 0 numbers))
