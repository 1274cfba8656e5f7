-- The requests to the places when a copy is brought to a checkpoint.
use Rattle.std.specs.Prelude.{◌≡◌, ◌⊎◌, ⊤, ℕ, ◌<◌, ◌≤◌}
use Rattle.tlog_shape.specs.Edge.{edge_index_of, width_of}
use Rattle.tlog_tiles.specs.declared.paths.Path.{Path}
use Rattle.tlog_tiles.specs.declared.paths.Path.TheVariants.{Checkpoint, Tile, Entries}
use Rattle.tlog_tiles.specs.Tiles.{IsWithin}
use Rattle.copy_places.specs.Asked.{IsEdgeTile, IsPathOrFull}

-- the path of the partial bundle at the right edge of n entries, or its full path
pub record IsEdgeBundle (n : ℕ) (path : Path) : Type 0 where
  pub some : 1 ≤ width_of n 0
  pub is : IsPathOrFull (Entries (edge_index_of n 0) (width_of n 0)) path

-- a full tile of level 1 or above, or a full bundle, that the first m entries do not have
abbrev pub IsNewFull : ℕ → Path → Type 0
IsNewFull m Checkpoint = ⊥
IsNewFull m (Tile level index width) = (1 ≤ level) × (width ≡ 256) × (¬ IsWithin m (Tile level index width))
IsNewFull m (Entries index width) = (width ≡ 256) × (¬ IsWithin m (Entries index width))

-- a path that may be requested once the edge rows of n entries are known
abbrev pub IsEdgeBundleOrNew : ℕ → ℕ → Path → Type 0
IsEdgeBundleOrNew n m path = IsEdgeBundle n path ⊎ IsNewFull m path

-- the paths that a call from m entries to n may request: the right edge of n, and full files that the first m do not have
abbrev pub MayBeAsked : ℕ → ℕ → Path → Type 0
MayBeAsked m n path = IsEdgeTile n path ⊎ IsEdgeBundleOrNew n m path

-- ---- only contracts of private functions cite what follows

-- a bundle, or a tile of a level below that one
abbrev pub IsLower : ℕ → Path → Type 0
IsLower level Checkpoint = ⊥
IsLower level (Tile l index width) = l < level
IsLower level (Entries index width) = ⊤

-- a full bundle, or a full tile of a level from 1 up to below "level". The first "from" entries do not have it, the first "to" do
pub record IsFullBetween (level from to : ℕ) (path : Path) : Type 0 where
  pub new : IsNewFull from path
  pub within : IsWithin to path
  pub lower : IsLower level path
