-- The files that were read at the right edge of a log. Only the contracts of private functions cite these.
use Rattle.std.specs.Prelude.{◌≡◌, ◌⊎◌, ℕ, ◌*◌, ◌/◌, ◌^◌, ◌<◌, ◌≤◌, List, [], ◌∷◌, ◌++◌, length, Option, Some}
use Rattle.tlog_shape.specs.Edge.{edge_index_of, width_of}
use Rattle.tlog_tiles.specs.declared.paths.Path.{Path}
use Rattle.tlog_tiles.specs.declared.paths.Path.TheVariants.{Tile, Entries}
use Rattle.tlog_tiles.specs.Row.{row_text}
use Rattle.log_reader.specs.EdgeRows.{Edge, RowIsTrue}
use Rattle.mirror_sources.specs.Files.{full_of}
use Rattle.mirror_sources.specs.Replies.{Reply, reply}
use Rattle.copy_reader.specs.Answering.{AreGiven, IsHad}
use Rattle.copy_reader.specs.Covering.{Covers, IsFullIn}

-- the reply to the full path begins with these bytes
pub record IsFullGiven (path : Path) (bytes : List ℕ) (may later : Path → Option (List ℕ) → Type 0)
    (old new : Option (List Path)) : Type 0 where
  pub rest : List ℕ
  pub given : AreGiven may later old new (reply (full_of path) (Some (bytes ++ rest)) ∷ [])

-- these bytes were the reply to the path. Or the reply was None, and the reply to its full path begins with them
pub record IsGivenAt (path : Path) (bytes : List ℕ) (may later : Path → Option (List ℕ) → Type 0)
    (old new : Option (List Path)) : Type 0 where
  pub replies : List Reply
  pub given : AreGiven may later old new replies
  pub had : IsHad replies path bytes

-- the source gave the row of a level. The row is empty if the level has none
pub record IsRowGivenAt (size level : ℕ) (row : List (List ℕ)) (may later : Path → Option (List ℕ) → Type 0)
    (old new : Option (List Path)) : Type 0 where
  pub replies : List Reply
  pub given : AreGiven may later old new replies
  pub width_is : length row ≡ width_of size level
  pub had : 1 ≤ width_of size level →
      IsHad replies (Tile level (edge_index_of size level) (width_of size level)) (row_text row)

-- the source gave the rows of the levels below "below" that the size has
pub record AreRowsGiven (size : ℕ) (rows : ℕ → List (List ℕ)) (below : ℕ) (may later : Path → Option (List ℕ) → Type 0)
    (old new : Option (List Path)) : Type 0 where
  pub replies : List Reply
  pub given : AreGiven may later old new replies
  pub had : (level : ℕ) → level < below → 1 ≤ width_of size level →
      IsHad replies (Tile level (edge_index_of size level) (width_of size level)) (row_text (rows level))

-- the path of the partial bundle, if there is one
abbrev pub IsEdgeBundle : ℕ → Path → Type 0
IsEdgeBundle size path = (1 ≤ width_of size 0) × (path ≡ Entries (edge_index_of size 0) (width_of size 0))

module _ (digest : List ℕ → List ℕ) where
  -- all files below the rows of the levels from low on were read, and these rows are true
  abbrev pub CoversLevels : Edge → ℕ → (may later : Path → Option (List ℕ) → Type 0) → Option (List Path) →
      Option (List Path) → Type 0
  CoversLevels edge low may later old new =
      Covers digest (IsFullIn 6 0 (edge.size / 256 ^ low * 256 ^ low)) 0 (edge.size / 256 ^ low * 256 ^ low)
      may later old new (λ entries. (level : ℕ) → low ≤ level → level ≤ 7 → RowIsTrue digest edge entries level)

  -- the partial bundle was read, if there is one, and the lowest row is true
  abbrev pub CoversEdgeBundle : Edge → (may later : Path → Option (List ℕ) → Type 0) → Option (List Path) →
      Option (List Path) → Type 0
  CoversEdgeBundle edge may later old new =
      Covers digest (IsEdgeBundle edge.size) (edge.size / 256 * 256) edge.size may later old new
      (λ entries. RowIsTrue digest edge entries 0)

  -- all files below the edge were read, and all rows of the edge are true
  abbrev pub CoversLog : Edge → (may later : Path → Option (List ℕ) → Type 0) → Option (List Path) →
      Option (List Path) → Type 0
  CoversLog edge may later old new =
      Covers digest (λ path. IsFullIn 6 0 (edge.size / 256 * 256) path ⊎ IsEdgeBundle edge.size path) 0 edge.size
      may later old new (λ entries. (level : ℕ) → level ≤ 7 → RowIsTrue digest edge entries level)
