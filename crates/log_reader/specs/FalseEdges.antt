-- The edge of a log, as a source lacks it or gives it false (C2SP tlog-tiles, "Merkle Tree" and "Partial Tiles").
use Rattle.std.specs.Prelude.{◌≡◌, ◌≢◌, ◌⊎◌, ℕ, ◌<◌, ◌≤◌, List, Option}
use Rattle.tlog_shape.specs.Edge.{edge_index_of, width_of}
use Rattle.tlog_tiles.specs.Row.{IsRow}
use Rattle.tlog_tiles.specs.declared.paths.Path.{Path}
use Rattle.tlog_tiles.specs.declared.paths.Path.TheVariants.{Checkpoint, Tile, Entries}
use Rattle.log_reader.specs.EdgeRows.{Edge, HasWidths, hash_of_edge, row_at}
use Rattle.log_reader.specs.Faults.{NamesFile}
use Rattle.log_reader.specs.Parts.{IsFalseAt, IsPartGiven}
use Rattle.log_reader.specs.declared.fault.ReadFault.{ReadFault}

-- the path of the partial tile of a level
abbrev pub part_path : ℕ → ℕ → Path
part_path size level = Tile level (edge_index_of size level) (width_of size level)

module _ (may : Path → Option (List ℕ) → Type 0) (size level : ℕ) where
  -- the row is that of the partial tile, or of the first part of the full one if there is no partial one
  abbrev pub IsRowGiven : List (List ℕ) → Type 0
  IsRowGiven row =
      (bytes : List ℕ) × IsPartGiven may (part_path size level) bytes × IsRow (width_of size level) bytes row

  -- the source lacks the row of the level, or gives bytes that are no row of its width
  pub record IsFalsePart (named : Path) : Type 0 where
    pub low : level ≤ 7
    pub some : 0 < width_of size level
    pub wrong : IsFalseAt may (part_path size level) (λ bytes. (row : List (List ℕ)) × IsRow (width_of size level) bytes row) named

-- each row of the edge is one that the source gives
abbrev pub IsEdgeGiven : (Path → Option (List ℕ) → Type 0) → ℕ → Edge → Type 0
IsEdgeGiven may size edge =
    (level : ℕ) → level ≤ 7 → 0 < width_of size level → IsRowGiven may size level (row_at edge level)

-- the path is that of the lowest partial tile, or the checkpoint's if there is none
abbrev pub IsLowest : ℕ → Path → Type 0
IsLowest size Checkpoint = (level : ℕ) → level ≤ 7 → width_of size level ≡ 0
IsLowest size (Tile level index width) =
    (level ≤ 7) × (index ≡ edge_index_of size level) × (width ≡ width_of size level) × (0 < width)
    × ((lower : ℕ) → lower < level → width_of size lower ≡ 0)
IsLowest size (Entries index width) = ⊥

module _ (digest : List ℕ → List ℕ) (may : Path → Option (List ℕ) → Type 0) (size : ℕ) where
  -- the rows that the source gives do not lead to the root. The lowest one is named
  pub record IsFalseEdge (root : List ℕ) (named : Path) : Type 0 where
    pub edge : Edge
    pub size_is : edge.size ≡ size
    pub widths : HasWidths edge
    pub rows : IsEdgeGiven may size edge
    pub lowest : IsLowest size named
    pub wrong : hash_of_edge digest edge ≢ root

  -- the fault names a tile of the edge that the source lacks or gives with another length, or the lowest one of rows that do not
  -- lead to the root. It is no collision
  abbrev pub NamesFalseEdge : List ℕ → ReadFault → Type 0
  NamesFalseEdge root =
      NamesFile (λ named. ((level : ℕ) × IsFalsePart may size level named) ⊎ IsFalseEdge root named)

-- the same of a tile alone. Only private contracts cite this
abbrev pub NamesFalsePart : (Path → Option (List ℕ) → Type 0) → ℕ → ReadFault → Type 0
NamesFalsePart may size = NamesFile (λ named. (level : ℕ) × IsFalsePart may size level named)
