-- Files that were read in order and verify are true, if nothing clashes.
use Rattle.std.specs.Prelude.{◌≡◌, ℕ, ◌^◌, ◌<◌, All, List, ◌++◌, map, ⊤}
use Rattle.std.specs.FinSet as set
use Rattle.tlog_hash.specs.Tree.{joins, strings}
use Rattle.tlog_tiles.specs.Bundle.{IsBundle}
use Rattle.tlog_tiles.specs.Row.{IsRow}
use Rattle.tlog_tiles.specs.declared.paths.Path.{Path}
use Rattle.tlog_tiles.specs.declared.paths.Path.TheVariants.{Checkpoint, Tile, Entries}
use Rattle.node_store.specs.Strings.{NoClash}
use Rattle.mirror_model.specs.Edge.{edge_levels, edge_strings}
use Rattle.mirror_model.specs.Strings.{IsDigest}
use Rattle.log_reader.specs.EdgeRows.{Edge, row_at}
use Rattle.copy_reader.specs.Found.{AreTrue, AreVerified, Begins, FileRead, Found, IsEdgeRead, IsLogOf, paths_read}
use Rattle.copy_reader.specs.Order.{file_order}

module _ (digest : List ℕ → List ℕ) (entries : List (List ℕ)) where
  -- no two different strings of the tree of the entries and of these strings share a digest
  abbrev pub AreClear : List (List ℕ) → Type 0
  AreClear others = NoClash digest (set.from_list (strings digest entries ++ others))

  -- this holds for the strings of the found file: those of the fold of its row, or of the tree of its own entries
  abbrev pub IsFileClear : Path → Found → Type 0
  IsFileClear Checkpoint found = ⊤
  IsFileClear (Tile level index width) found = width ≡ 256 → (bytes : List ℕ) (row : List (List ℕ)) →
      Begins (Tile level index width) bytes found → IsRow width bytes row → AreClear (joins digest row)
  IsFileClear (Entries index width) found = (bytes : List ℕ) (own : List (List ℕ)) →
      Begins (Entries index width) bytes found → IsBundle width bytes own → AreClear (strings digest own)

  -- this holds for the fold of the rows of the edge to their root, and for each of these files
  pub record FilesAreClear (edge : Edge) (reads : List FileRead) : Type 0 where
    pub edge_clear : AreClear (edge_strings digest (map (row_at edge) (edge_levels edge.size)))
    pub files_clear : All (λ r. IsFileClear r.path r.found) reads

-- files that verify are true, if the rows of the edge are among them and lead to the root
abbrev pub VerifiedFilesAreTrue : Type 0
VerifiedFilesAreTrue =
    (digest : List ℕ → List ℕ) → IsDigest digest → (size : ℕ) (root : List ℕ) → size < 2 ^ 64 →
    (reads : List FileRead) (rest : List Path) → file_order size ≡ paths_read reads ++ rest →
    (edge_read : IsEdgeRead digest size root reads) (entries : List (List ℕ)) → IsLogOf digest size root entries →
    FilesAreClear digest entries edge_read.edge reads → AreVerified digest entries reads → AreTrue digest entries reads
