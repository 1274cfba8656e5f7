-- The files that a source lacks or gives false, as the tree over them says (C2SP tlog-tiles, "Merkle Tree", "Log Entries" and "Partial
-- Tiles").
use Rattle.std.specs.Prelude.{◌≡◌, ◌⊎◌, ℕ, ◌+◌, ◌/◌, ◌%◌, ◌<◌, List, [], length, get_or, Option, Some, None, ⊤}
use Rattle.tlog_shape.specs.Edge.{edge_index_of}
use Rattle.tlog_tiles.specs.declared.paths.Path.{Path}
use Rattle.tlog_tiles.specs.declared.paths.Path.TheVariants.{Checkpoint, Tile, Entries}
use Rattle.log_reader.specs.EdgeRows.{Edge, row_at}
use Rattle.log_reader.specs.Faults.{NamesFile}
use Rattle.log_reader.specs.Parts.{IsFalseAt}
use Rattle.log_reader.specs.Verified.{HasLeaves, Verifies}
use Rattle.log_reader.specs.Ways.{IsShownRow}
use Rattle.log_reader.specs.declared.fault.ReadFault.{ReadFault}
use Rattle.log_reader.specs.declared.fault.ReadFault.TheVariants.{NoFile, FalseFile, Collision, Source, OutOfMemory}
use Rattle.log_reader.specs.declared.verify.FullFile.{FullFile}
use Rattle.log_reader.specs.declared.verify.FullFile.TheVariants as full

module _ (digest : List ℕ → List ℕ) (may : Path → Option (List ℕ) → Type 0) where
  -- ---- full files

  -- the answer is not the full file of that hash: there is none, it has another format, or its hashes fold to another one
  abbrev pub IsNotFull : FullFile → List ℕ → Option (List ℕ) → Type 0
  IsNotFull kind hash None = ⊤
  IsNotFull kind hash (Some bytes) = (row : List (List ℕ)) → ¬ Verifies digest kind hash bytes row

  -- the source's answer to the path is not the full file of that hash
  pub record IsFalseFull (kind : FullFile) (hash : List ℕ) (path : Path) : Type 0 where
    pub answer : Option (List ℕ)
    pub given : may path answer
    pub wrong : IsNotFull kind hash answer

  -- the hash of the full file is in a shown row, that of the tile above it. The source's answer to its path is not that file
  pub record IsFalseUnder (edge : Edge) (kind : FullFile) (level index : ℕ) (path : Path) : Type 0 where
    pub above : List (List ℕ)
    pub shown : IsShownRow digest edge (level + 1) (index / 256) above
    pub within : index % 256 < length above
    pub wrong : IsFalseFull kind (get_or above (index % 256) []) path

  -- ---- the bundle at the end

  -- the source lacks the bundle of these leaf hashes, or gives another one
  abbrev pub IsFalseEnd : List (List ℕ) → ℕ → Path → Type 0
  IsFalseEnd row index =
      IsFalseAt may (Entries index (length row)) (λ bytes. HasLeaves digest (length row) bytes row)

  -- ---- each file below the edge

  -- the file of the path is a full tile or bundle, or the bundle at the end. The source's answer is not that file
  abbrev pub IsFalseFile : Edge → Path → Type 0
  IsFalseFile edge Checkpoint = ⊥
  IsFalseFile edge (Tile level index width) =
      (width ≡ 256) × IsFalseUnder edge full.Tile level index (Tile level index width)
  IsFalseFile edge (Entries index width) =
      ((width ≡ 256) × IsFalseUnder edge full.Bundle 0 index (Entries index width))
      ⊎ ((index ≡ edge_index_of edge.size 0) × IsFalseEnd (row_at edge 0) index (Entries index width))

  -- the fault names a file whose answer is not that file. It is no collision
  abbrev pub NamesFalse : Edge → ReadFault → Type 0
  NamesFalse edge = NamesFile (IsFalseFile edge)

  -- the same, or it is a collision
  abbrev pub NamesFalseIfFile : Edge → ReadFault → Type 0
  NamesFalseIfFile edge (NoFile path) = IsFalseFile edge path
  NamesFalseIfFile edge (FalseFile path) = IsFalseFile edge path
  NamesFalseIfFile edge Collision = ⊤
  NamesFalseIfFile edge Source = ⊤
  NamesFalseIfFile edge OutOfMemory = ⊤

  -- the fault names the full file of that path, and the answer is not that file. Only private contracts cite this
  abbrev pub NamesFull : FullFile → List ℕ → Path → ReadFault → Type 0
  NamesFull kind hash path = NamesFile (λ named. (named ≡ path) × IsFalseFull kind hash path)
