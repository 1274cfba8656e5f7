-- The places in turn, and the facts after a place gave no good answer.
use Rattle.std.specs.Prelude.{◌≡◌, ◌⊎◌, ℕ, ◌-◌, ◌<◌, ◌≤◌, List, Option, IfSome}
use Rattle.tlog_shape.specs.Edge.{edge_index_of, width_of}
use Rattle.tlog_tiles.specs.declared.paths.Path.{Path}
use Rattle.tlog_tiles.specs.declared.paths.Path.TheVariants.{Tile}
use Rattle.mirror_sources.specs.Files.{full_of}

-- the index of the place at a turn: "first" at turn 0, then the other places in order
abbrev pub IsAskedInTurn : ℕ → ℕ → ℕ → Type 0
IsAskedInTurn first turn place =
    ((turn ≡ 0) × (place ≡ first))
    ⊎ (((1 ≤ turn) × (turn ≤ first) × (place ≡ turn - 1)) ⊎ ((first < turn) × (place ≡ turn)))

-- a place was asked for the path, but gave no good answer: it failed, or was given up, or gave a possible answer that is not
-- good. old and new are its numbers of failures before and after
abbrev pub IsAskedInVain : (Path → Option (List ℕ) → Type 0) → ℕ → ℕ → Path → (List ℕ → Type 0) → Type 0
IsAskedInVain may old new path good =
    ((old < new) ⊎ (8 ≤ old))
    ⊎ ((answer : Option (List ℕ)) × (may path answer) × IfSome answer (λ bytes. ¬ good bytes))

-- the path, or its full path
abbrev pub IsPathOrFull : Path → Path → Type 0
IsPathOrFull path asked = (asked ≡ path) ⊎ (asked ≡ full_of path)

-- the path of a partial tile at the right edge of n entries, or its full path
pub record IsEdgeTile (n : ℕ) (path : Path) : Type 0 where
  pub level : ℕ
  pub upto : level ≤ 7
  pub some : 1 ≤ width_of n level
  pub is : IsPathOrFull (Tile level (edge_index_of n level) (width_of n level)) path

-- the path of the lowest partial tile at the right edge of n entries. Without entries, the path of level 7
pub record IsLowestEdgeTile (n : ℕ) (path : Path) : Type 0 where
  pub level : ℕ
  pub upto : level ≤ 7
  pub some : level < 7 → 1 ≤ width_of n level
  pub lowest : (below : ℕ) → below < level → width_of n below ≡ 0
  pub is : path ≡ Tile level (edge_index_of n level) (width_of n level)
