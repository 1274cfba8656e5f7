-- The way from below the edge of the larger tree down, and the files in memory for it. Only contracts of private functions cite it.
use Rattle.std.specs.Prelude.{◌≡◌, ◌≢◌, ◌⊎◌, ℕ, ◌+◌, ◌/◌, ◌%◌, ◌<◌, ◌≤◌, All, List, [], ◌∷◌, ◌++◌, get_or, length, Option}
use Rattle.tlog_shape.specs.Edge.{edge_index_of, width_of}
use Rattle.tlog_hash.specs.Tree.{mth}
use Rattle.tlog_tiles.specs.declared.paths.Path.TheVariants.{Tile}
use Rattle.tlog_tiles.specs.Row.{row_text}
use Rattle.mirror_folders.specs.Shelf.{Put}
use Rattle.mirror_sources.specs.Source.{File}
use Rattle.log_reader.specs.EdgeRows.{Edge, RowIsTrue}
use Rattle.log_reader.specs.Ways.{IsRowUnder, IsWay, row_of_way}
use Rattle.copy_places.specs.declared.end_tiles.EndTile.{EndTile}
use Rattle.copy_places.specs.Nobodys.{IsRowNobodys, IsWanted}
use Rattle.copy_places.specs.ReadFiles.{IsThere}
use Rattle.copy_places.specs.declared.way.Step.{Step}
use Rattle.copy_places.specs.declared.way.Step.TheVariants as step

-- the file is one of the full tiles of a way
abbrev pub IsWayFile : ℕ → ℕ → List (List (List ℕ)) → File → Type 0
IsWayFile level index [] file = ⊥
IsWayFile level index (row ∷ above) file =
    (file ≡ (Tile level index 256, row_text row)) ⊎ IsWayFile (level + 1) (index / 256) above file

-- each full tile from that level up that a proof from the first entries to all n wants is among the files
abbrev pub HasWanted : (first n from : ℕ) → List File → Type 0
HasWanted first n from files =
    (level : ℕ) → from ≤ level → IsWanted first n level → IsThere files (Tile level (edge_index_of first level) 256)

module _ (digest : List ℕ → List ℕ) where
  -- the files are those of a way from the edge down to a tile
  pub record AreWayFiles (edge : Edge) (files : List File) : Type 0 where
    pub level : ℕ
    pub index : ℕ
    pub way : List (List (List ℕ))
    pub is_way : IsWay digest edge level index way
    pub are : All (IsWayFile level index way) files

  -- the row is that of the tile of a level in which the first entries end. The files are those of the way to the tile
  pub record IsOnWay (first : ℕ) (edge : Edge) (level : ℕ) (row : List (List ℕ)) (files : List File) : Type 0 where
    pub way : List (List (List ℕ))
    pub is_way : IsWay digest edge level (edge_index_of first level) way
    pub row_is : row ≡ row_of_way edge level way
    pub at_edge : edge_index_of first level ≡ edge_index_of edge.size level → way ≡ []
    pub are : All (IsWayFile level (edge_index_of first level) way) files

  -- what a step down from the row above means. The tree has "size" entries
  abbrev pub StepsDown : Option (List Put) → List EndTile → ℕ → (first size level : ℕ) → List (List ℕ) → Step → Type 0
  StepsDown puts tiles count first size level above step.Edge = edge_index_of first level ≡ edge_index_of size level
  StepsDown puts tiles count first size level above (step.Tile row) =
      (edge_index_of first level ≢ edge_index_of size level)
      × (edge_index_of first level % 256 < length above
      → IsRowUnder digest above (edge_index_of first level % 256) row.items)
  StepsDown puts tiles count first size level above step.Unneeded =
      (below : ℕ) → below ≤ level → width_of first below ≡ 0
  StepsDown puts tiles count first size level above step.Lacking =
      (edge_index_of first level ≢ edge_index_of size level)
      × ((below : ℕ) × (below ≤ level) × (1 ≤ width_of first below))
      × (edge_index_of first level % 256 < length above
      → IsRowNobodys digest puts tiles count level (edge_index_of first level)
      (get_or above (edge_index_of first level % 256) []))

-- the entries are those of a log with that edge and root
pub record IsLogOfEdge (digest : List ℕ → List ℕ) (edge : Edge) (root : List ℕ) (entries : List (List ℕ)) : Type 0 where
  pub size_is : edge.size ≡ length entries
  pub root_is : root ≡ mth digest entries
  pub rows : (level : ℕ) → level ≤ 7 → RowIsTrue digest edge entries level
