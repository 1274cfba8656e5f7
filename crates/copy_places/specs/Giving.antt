-- The files that the places may give, and the partial files and edge rows that are cut from them.
use Rattle.std.specs.Prelude.{◌≡◌, ◌⊎◌, ℕ, ◌<◌, ◌≤◌, List, ◌++◌, length, get_or, Option, Some}
use Rattle.tlog_shape.specs.Edge.{edge_index_of, width_of}
use Rattle.tlog_tiles.specs.Cut.{IsFileCut}
use Rattle.tlog_tiles.specs.declared.paths.Path.{Path}
use Rattle.tlog_tiles.specs.declared.paths.Path.TheVariants.{Tile}
use Rattle.tlog_tiles.specs.Row.{IsRow}
use Rattle.mirror_sources.specs.Files.{full_of}
use Rattle.log_reader.specs.EdgeRows.{Edge, row_at}
use Rattle.copy_places.specs.declared.place.Place.{Place}
use Rattle.copy_places.specs.declared.places.Places.{Places}

-- one of the places may give the bytes at the path
pub record MayGive {S : Type 0} (may : S → Path → Option (List ℕ) → Type 0) (places : Places S) (path : Path)
    (bytes : List ℕ) : Type 0 where
  pub index : ℕ
  pub listed : index < length places.list.items
  pub may_be : (d : Place S) → may (get_or places.list.items index d).source path (Some bytes)

-- the file begins with the bytes
pub record IsFirstOf (full bytes : List ℕ) : Type 0 where
  pub rest : List ℕ
  pub full_is : full ≡ bytes ++ rest

-- the bytes may be taken at the path, or they are cut from a full file that may be taken at its full path
abbrev pub PartOf : (Path → List ℕ → Type 0) → Path → List ℕ → Type 0
PartOf take path bytes = take path bytes ⊎ ((full : List ℕ) × take (full_of path) full × IsFileCut path 256 full bytes)

-- the row of a level of the edge of n entries comes from bytes that may be taken, if the level has one
pub record IsRowFrom (take : Path → List ℕ → Type 0) (n level : ℕ) (row : List (List ℕ)) : Type 0 where
  pub bytes : List ℕ
  pub is_row : IsRow (width_of n level) bytes row
  pub taken : 1 ≤ width_of n level → PartOf take (Tile level (edge_index_of n level) (width_of n level)) bytes

-- each row of the edge is such a row
pub record IsEdgeFrom (take : Path → List ℕ → Type 0) (n : ℕ) (edge : Edge) : Type 0 where
  pub size_is : edge.size ≡ n
  pub rows_are : (level : ℕ) → level ≤ 7 → IsRowFrom take n level (row_at edge level)
