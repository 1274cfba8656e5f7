-- The edge rows in the partial tiles that are found somewhere (C2SP tlog-tiles, "Partial Tiles").
use Rattle.std.specs.Prelude.{◌≡◌, ℕ, ◌≤◌, List, [], Option, Some, None}
use Rattle.tlog_shape.specs.Edge.{edge_index_of, width_of}
use Rattle.tlog_tiles.specs.declared.paths.Path.{Path}
use Rattle.tlog_tiles.specs.declared.paths.Path.TheVariants.{Tile}
use Rattle.tlog_tiles.specs.Row.{IsRow}
use Rattle.copy_places.specs.Mixes.{given_at}
use Rattle.copy_places.specs.declared.mix.GivenRows.{GivenRows}

-- the row of that width in the bytes. None: there are no bytes, or they are no such row
abbrev pub IsRowIn : ℕ → Option (List ℕ) → Option (List (List ℕ)) → Type 0
IsRowIn width None row = row ≡ None
IsRowIn width (Some bytes) None = (row : List (List ℕ)) → ¬ IsRow width bytes row
IsRowIn width (Some bytes) (Some row) = IsRow width bytes row

-- "finds" has a path and the bytes that are found for it
module _ (finds : Path → Option (List ℕ) → Type 0) (n : ℕ) where
  -- the row of a level of the edge of n entries, in what is found for its partial tile
  pub record IsRowOfTile (level : ℕ) (row : Option (List (List ℕ))) : Type 0 where
    pub found : Option (List ℕ)
    pub tile : finds (Tile level (edge_index_of n level) (width_of n level)) found
    pub is_row : IsRowIn (width_of n level) found row

  -- the same, and a level without hashes has an empty row
  pub record IsFoundRow (level : ℕ) (row : Option (List (List ℕ))) : Type 0 where
    pub empty : width_of n level ≡ 0 → row ≡ Some []
    pub some : 1 ≤ width_of n level → IsRowOfTile level row

  -- the rows of all levels are such rows
  pub record AreFoundRows (given : GivenRows) : Type 0 where
    pub each : (level : ℕ) → level ≤ 7 → IsFoundRow level (given_at given level)
