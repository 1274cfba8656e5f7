-- The bytes of a copy for a tile or a bundle. They lead to the root of its checkpoint: they are the first hashes of a shown row, or the first
-- entries of a shown bundle.
use Rattle.std.specs.Prelude.{◌≡◌, ◌⊎◌, ℕ, ◌≤◌, List, [], ◌++◌, length, take}
use Rattle.std.proofs.Common.{inl, inr}
use Rattle.tlog_hash.specs.Tree.{strings}
use Rattle.tlog_tiles.specs.Cut.{IsFileCut}
use Rattle.tlog_tiles.specs.Row.{row_text}
use Rattle.tlog_tiles.specs.Tiles.{IsWithin}
use Rattle.tlog_tiles.specs.declared.paths.Path.{Path}
use Rattle.tlog_tiles.specs.declared.paths.Path.TheVariants.{Checkpoint, Tile, Entries}
use Rattle.log_reader.specs.EdgeRows.{Edge, hash_of_edge}
use Rattle.log_reader.specs.Holding.{row_width}
use Rattle.log_reader.specs.Truth.{read_strings}
use Rattle.log_reader.specs.Ways.{HasEdgeHashes, IsShownBundle, IsShownRow}

module _ (digest : List ℕ → List ℕ) where
  -- the edge has that size, and its rows lead to the root
  pub record IsEdgeTo (size : ℕ) (root : List ℕ) (edge : Edge) : Type 0 where
    pub hashes : HasEdgeHashes edge
    pub size_is : edge.size ≡ size
    pub leads : hash_of_edge digest edge ≡ root

  -- the bytes are the first hashes of a row that leads up to the edge
  pub record IsShownTile (edge : Edge) (level index width : ℕ) (bytes : List ℕ) : Type 0 where
    pub row : List (List ℕ)
    pub shown : IsShownRow digest edge level index row
    pub long : width ≤ length row
    pub bytes_are : bytes ≡ row_text (take width row)

  -- the bytes are the first entries of a bundle that leads up to the edge
  pub record IsShownPart (edge : Edge) (index width : ℕ) (bytes : List ℕ) : Type 0 where
    pub bundle : List ℕ
    pub shown : IsShownBundle digest edge index bundle
    pub first : IsFileCut (Entries index width) (row_width edge.size 0 index) bundle bytes

  -- the bytes of that path lead up to the edge
  abbrev pub IsShownFile : Edge → Path → List ℕ → Type 0
  IsShownFile edge Checkpoint bytes = ⊥
  IsShownFile edge (Tile level index width) bytes = IsShownTile edge level index width bytes
  IsShownFile edge (Entries index width) bytes = IsShownPart edge index width bytes

  -- the bytes of a copy of that size and root for a path: the log has the file, and they lead up to the root
  pub record IsFileGiven (size : ℕ) (root : List ℕ) (path : Path) (bytes : List ℕ) : Type 0 where
    pub within : IsWithin size path
    pub edge : Edge
    pub is_edge : IsEdgeTo size root edge
    pub shown : IsShownFile edge path bytes

  -- the strings that are hashed on the way from a shown bundle to the root
  abbrev pub bundle_strings : (edge : Edge) (index : ℕ) (bytes : List ℕ) → IsShownBundle digest edge index bytes →
      List (List ℕ)
  bundle_strings edge index bytes (inl end) = read_strings digest edge [] ++ strings digest end.has_leaves.entries
  bundle_strings edge index bytes (inr full) =
      read_strings digest edge full.shown.way ++ strings digest full.has_leaves.entries

  -- the strings that are hashed on the way from the bytes to the root
  abbrev pub file_strings : (size : ℕ) (root : List ℕ) (path : Path) (bytes : List ℕ) →
      IsFileGiven size root path bytes → List (List ℕ)
  file_strings size root Checkpoint bytes is = []
  file_strings size root (Tile level index width) bytes is = read_strings digest is.edge is.shown.shown.way
  file_strings size root (Entries index width) bytes is =
      bundle_strings is.edge index is.shown.bundle is.shown.shown
