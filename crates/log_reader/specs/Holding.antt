-- A source that has the files of a log, and a reader of that log: the reads are true, and no file is refused (C2SP tlog-tiles, "Merkle
-- Tree", "Log Entries" and "Partial Tiles").
use Rattle.std.specs.Prelude.{◌≡◌, ℕ, ◌+◌, ◌-◌, ◌*◌, ◌/◌, ◌^◌, ◌<◌, ◌≤◌, min, List, [], ◌∷◌, ◌++◌, length, take}
use Rattle.std.specs.Prelude.{Option, Some, None, Result, Ok, Err}
use Rattle.tlog_shape.specs.Edge.{IsPartialTile, IsTile, edge_index_of, width_of}
use Rattle.tlog_hash.specs.Rows.{level_row, part}
use Rattle.tlog_hash.specs.Tree.{mth}
use Rattle.tlog_tiles.specs.Cut.{HasFormat}
use Rattle.tlog_tiles.specs.declared.paths.Path.{Path}
use Rattle.tlog_tiles.specs.declared.paths.Path.TheVariants.{Checkpoint, Tile, Entries}
use Rattle.mirror_model.specs.TrueLaws.{AreShort}
use Rattle.mirror_sources.specs.Files.{full_of, width_named}
use Rattle.mirror_sources.specs.Honest.{true_bytes}
use Rattle.log_reader.specs.EdgeRows.{RowIsTrue}
use Rattle.log_reader.specs.Faults.{IsFailure}
use Rattle.log_reader.specs.Ways.{Reader}
use Rattle.log_reader.specs.declared.fault.ReadFault.{ReadFault}

-- a tree of n entries has the tile or the bundle: a full one, or the partial one of its level
abbrev pub IsTreeFile : ℕ → Path → Type 0
IsTreeFile n Checkpoint = ⊥
IsTreeFile n (Tile level index width) = (level ≤ 7) × IsTile n level index width
IsTreeFile n (Entries index width) = IsTile n 0 index width

-- the full file of a partial path: 256 hashes or entries, of which the first are the partial one
pub record GoesOn (path : Path) (first bytes : List ℕ) : Type 0 where
  pub rest : List ℕ
  pub bytes_are : bytes ≡ first ++ rest
  pub whole : HasFormat (full_of path) bytes

-- the partial bundle of n entries
pub record IsEnd (n index width : ℕ) : Type 0 where
  pub is_tile : IsPartialTile n 0 index width
  pub sum : 256 * index + width ≡ n

-- the number of hashes in the row of a tile in a tree of n entries
abbrev pub row_width : ℕ → ℕ → ℕ → ℕ
row_width n level index = min 256 (n / 256 ^ level - 256 * index)

module _ (digest : List ℕ → List ℕ) (entries : List (List ℕ)) where
  -- the answer to the full path of a partial one is a file that begins with the true bytes of the partial one
  abbrev pub IsFullAnswer : Path → Option (List ℕ) → Type 0
  IsFullAnswer path None = ⊥
  IsFullAnswer path (Some bytes) = GoesOn path (true_bytes digest entries path) bytes

  -- the full file replaces the partial one
  pub record GivesWay (may : Path → Option (List ℕ) → Type 0) (path : Path) : Type 0 where
    pub partial : width_named path < 256
    pub full : (answer : Option (List ℕ)) → may (full_of path) answer → IsFullAnswer path answer

  -- the answer to a path is its true bytes. Or it is None, and the full file replaces the partial one
  abbrev pub IsHeldAnswer : (Path → Option (List ℕ) → Type 0) → Path → Option (List ℕ) → Type 0
  IsHeldAnswer may path (Some bytes) = bytes ≡ true_bytes digest entries path
  IsHeldAnswer may path None = GivesWay may path

  -- by its possible answers, the source has the files of a log of these entries
  pub record IsSourceOf (may : Path → Option (List ℕ) → Type 0) : Type 0 where
    pub short : AreShort entries
    pub files : (path : Path) → IsTreeFile (length entries) path → (answer : Option (List ℕ)) →
        may path answer → IsHeldAnswer may path answer

  -- by its possible answers, the source has the full tiles of a log of these entries
  pub record HasFullTiles (may : Path → Option (List ℕ) → Type 0) : Type 0 where
    pub tiles : (level index : ℕ) → level ≤ 7 → (index + 1) * 256 ^ (level + 1) ≤ length entries →
        (answer : Option (List ℕ)) → may (Tile level index 256) answer →
        answer ≡ Some (true_bytes digest entries (Tile level index 256))

  -- the hash is that of a full tile: the tree hash of the entries below it
  pub record IsTileHash (level index : ℕ) (hash : List ℕ) : Type 0 where
    pub low : level ≤ 7
    pub fits : (index + 1) * 256 ^ (level + 1) ≤ length entries
    pub hash_is : hash ≡ mth digest (part (index * 256 ^ (level + 1)) (256 ^ (level + 1)) entries)

  -- the row has the leaf hashes of the partial bundle of that index
  pub record IsEndRow (index : ℕ) (row : List (List ℕ)) : Type 0 where
    pub end : IsEnd (length entries) index (length row)
    pub row_is : row ≡ level_row digest entries 0 (256 * index) (length row)

  -- the true row of a tile
  abbrev pub true_row : ℕ → ℕ → List (List ℕ)
  true_row level index =
      level_row digest entries level (256 * index) (row_width (length entries) level index)

  -- the rows of a full tile and of those above it, up to a tile of the edge, are the true rows
  abbrev pub IsTrueWay : ℕ → ℕ → List (List (List ℕ)) → Type 0
  IsTrueWay level index [] = (level ≤ 7) × (index ≡ edge_index_of (length entries) level)
  IsTrueWay level index (row ∷ above) =
      (index < edge_index_of (length entries) level) × (row ≡ true_row level index)
      × IsTrueWay (level + 1) (index / 256) above

  -- the reader reads the log of these entries: its rows are the true rows, and its root is their tree hash
  pub record IsReaderOf (reader : Reader) : Type 0 where
    pub size_is : reader.edge.size ≡ length entries
    pub root_is : reader.root ≡ mth digest entries
    pub edge : (level : ℕ) → level ≤ 7 → RowIsTrue digest reader.edge entries level
    pub way : IsTrueWay reader.level reader.index reader.way

-- a read gave a result as claimed, unless the source failed or memory was refused
abbrev pub ReadsTrue : {T : Type 0} → Result T ReadFault → (T → Type 0) → Type 0
ReadsTrue (Ok x) claim = claim x
ReadsTrue (Err fault) claim = IsFailure fault

-- the same, and the reader still reads that log
pub record IsTrueRead {T : Type 0} (digest : List ℕ → List ℕ) (entries : List (List ℕ)) (reader : Reader)
    (result : Result T ReadFault) (claim : T → Type 0) : Type 0 where
  pub reader_is : IsReaderOf digest entries reader
  pub answer : ReadsTrue result claim

-- for each list of entries whose log the reader reads and whose files the source has, the read is true
abbrev pub ReadsOf : {T : Type 0} → (List ℕ → List ℕ) → (old new : Reader) → (Path → Option (List ℕ) → Type 0) →
    Result T ReadFault → (List (List ℕ) → T → Type 0) → Type 0
ReadsOf digest old new may result claim =
    (entries : List (List ℕ)) → IsReaderOf digest entries old → IsSourceOf digest entries may →
    IsTrueRead digest entries new result (claim entries)

-- for each list of entries whose log the reader reads and whose full tiles the source has, the read is true
abbrev pub ReadsTilesOf : {T : Type 0} → (List ℕ → List ℕ) → (old new : Reader) →
    (Path → Option (List ℕ) → Type 0) → Result T ReadFault → (List (List ℕ) → T → Type 0) → Type 0
ReadsTilesOf digest old new may result claim =
    (entries : List (List ℕ)) → IsReaderOf digest entries old → HasFullTiles digest entries may →
    IsTrueRead digest entries new result (claim entries)

-- for each list of entries of that size and root whose files the source has, the read is true
abbrev pub ReadsLog : {T : Type 0} → (List ℕ → List ℕ) → ℕ → List ℕ → (Path → Option (List ℕ) → Type 0) →
    Result T ReadFault → (List (List ℕ) → T → Type 0) → Type 0
ReadsLog digest size root may result claim =
    (entries : List (List ℕ)) → length entries ≡ size → mth digest entries ≡ root →
    IsSourceOf digest entries may → ReadsTrue result (claim entries)

-- the row of a level of the edge of a log of that size is the true row
abbrev pub IsEdgeRowOf : (List ℕ → List ℕ) → ℕ → ℕ → List (List ℕ) → List (List ℕ) → Type 0
IsEdgeRowOf digest size level entries row =
    row ≡ level_row digest entries level (256 * edge_index_of size level) (width_of size level)

-- the full tile of that index is one level below the reader's tile
pub record IsBelow (reader : Reader) (level index : ℕ) : Type 0 where
  pub low : level ≤ 7
  pub level_is : reader.level ≡ level + 1
  pub index_is : reader.index ≡ index / 256
  pub full : index < edge_index_of reader.edge.size level

-- a source that has the files of a log has the full tiles of its first entries
abbrev pub HasFirstTiles : (List ℕ → List ℕ) → (Path → Option (List ℕ) → Type 0) → Type 0
HasFirstTiles digest may =
    (entries : List (List ℕ)) → IsSourceOf digest entries may → (size : ℕ) → size ≤ length entries →
    HasFullTiles digest (take size entries) may
