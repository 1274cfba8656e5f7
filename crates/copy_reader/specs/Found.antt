-- The files that an audit found at the paths of a log, and the file at which it stopped (C2SP tlog-tiles, "Partial Tiles").
use Rattle.std.specs.Prelude.{◌≡◌, ◌⊎◌, ℕ, ◌*◌, ◌<◌, All, List, [], ◌∷◌, ◌++◌, map, length, Option, Some, None, Err, ⊤}
use Rattle.signed_note.specs.Keys.{Key}
use Rattle.tlog_hash.specs.Rows.{level_row}
use Rattle.tlog_hash.specs.Tree.{fold_of, mth}
use Rattle.tlog_tiles.specs.Row.{IsRow, row_text}
use Rattle.log_reader.specs.EdgeRows.{Edge, hash_of_edge, row_at}
use Rattle.log_reader.specs.Verified.{HasLeaves}
use Rattle.log_reader.specs.Ways.{HasEdgeHashes}
use Rattle.tlog_tiles.specs.declared.paths.Path.{Path}
use Rattle.tlog_tiles.specs.declared.paths.Path.TheVariants.{Checkpoint, Tile, Entries}
use Rattle.mirror_model.specs.Heads.{IsOpenHead}
use Rattle.mirror_model.specs.Refusals.{ReadsHead}
use Rattle.mirror_model.specs.TrueLaws.{AreShort}
use Rattle.mirror_model.specs.declared.fault.TakeFault.{TakeFault}
use Rattle.mirror_sources.specs.Files.{full_of, width_named}
use Rattle.mirror_sources.specs.Honest.{true_bytes}
use Rattle.mirror_sources.specs.Replies.{Reply, reply}
use Rattle.log_reader.specs.Holding.{GoesOn}
use Rattle.copy_reader.specs.declared.audit_fault.AuditFault.{AuditFault}
use Rattle.copy_reader.specs.declared.audit_fault.AuditFault.TheVariants.{NoCheckpoint, Head, NoEdge, NoFile, FalseFile, Source, OutOfMemory}
use Rattle.copy_reader.specs.Answering.{AreGiven}
use Rattle.copy_reader.specs.Order.{edge_order, file_order, first_path}

-- the replies for a path. Here: its bytes. InFull: None, and the bytes of the full file. Nowhere: None. NotInFull: None, for the path
-- and for its full path
pub data Found : Type 0 where
  Here : List ℕ → Found
  InFull : List ℕ → Found
  Nowhere : Found
  NotInFull : Found

-- these replies as a list
abbrev pub replies_of : Path → Found → List Reply
replies_of path (Here bytes) = reply path (Some bytes) ∷ []
replies_of path (InFull bytes) = reply path None ∷ reply (full_of path) (Some bytes) ∷ []
replies_of path Nowhere = reply path None ∷ []
replies_of path NotInFull = reply path None ∷ reply (full_of path) None ∷ []

-- a file that was requested
pub record FileRead : Type 0 where
  pub path : Path
  pub found : Found

abbrev pub file_read : Path → Found → FileRead
file_read path found = record { path = path; found = found }

abbrev pub paths_read : List FileRead → List Path
paths_read reads = map (λ r. r.path) reads

abbrev pub all_replies : List FileRead → List Reply
all_replies [] = []
all_replies (r ∷ rs) = replies_of r.path r.found ++ all_replies rs

-- the source lacks the file and its full file
abbrev pub IsAbsent : Path → Found → Type 0
IsAbsent path (Here bytes) = ⊥
IsAbsent path (InFull bytes) = ⊥
IsAbsent path Nowhere = full_of path ≡ path
IsAbsent path NotInFull = width_named path < 256

-- the source lacks a partial tile and its full tile
abbrev pub IsAbsentEdge : Path → Found → Type 0
IsAbsentEdge Checkpoint found = ⊥
IsAbsentEdge (Tile level index width) found = (width < 256) × IsAbsent (Tile level index width) found
IsAbsentEdge (Entries index width) found = ⊥

-- the source has the bytes, or those of the full file of a partial path
abbrev pub IsPresent : Path → Found → Type 0
IsPresent path (Here bytes) = ⊤
IsPresent path (InFull bytes) = width_named path < 256
IsPresent path Nowhere = ⊥
IsPresent path NotInFull = ⊥

-- only the checkpoint was requested, and its bytes are refused for that reason
pub record IsNoHead (origin : List ℕ) (keys : List Key) (fault : TakeFault)
    (may later : Path → Option (List ℕ) → Type 0) (old new : Option (List Path)) : Type 0 where
  pub bytes : List ℕ
  pub given : AreGiven may later old new (reply Checkpoint (Some bytes) ∷ [])
  pub refused : ReadsHead bytes origin keys (Err fault)

-- the source gave a note, and then each file of a log of that size, in order
pub record IsReadInOrder (size : ℕ) (may later : Path → Option (List ℕ) → Type 0) (old new : Option (List Path)) : Type 0
  where
    pub note : List ℕ
    pub reads : List FileRead
    pub given : AreGiven may later old new (reply Checkpoint (Some note) ∷ all_replies reads)
    pub order : paths_read reads ≡ file_order size

-- the bytes found for the path are these, or they are a full file that begins with them
abbrev pub Begins : Path → List ℕ → Found → Type 0
Begins path first (Here bytes) = bytes ≡ first
Begins path first (InFull bytes) = GoesOn path first bytes
Begins path first Nowhere = ⊥
Begins path first NotInFull = ⊥

-- a full tile or a bundle
abbrev pub IsBelowEdge : Path → Type 0
IsBelowEdge Checkpoint = ⊥
IsBelowEdge (Tile level index width) = width ≡ 256
IsBelowEdge (Entries index width) = ⊤

-- if the file is a partial tile, it has the row of its level
abbrev pub IsOfEdge : Edge → Path → Found → Type 0
IsOfEdge edge Checkpoint found = ⊤
IsOfEdge edge (Tile level index width) found =
    width < 256 → Begins (Tile level index width) (row_text (row_at edge level)) found
IsOfEdge edge (Entries index width) found = ⊤

module _ (digest : List ℕ → List ℕ) where
  -- the partial tiles among these files have the rows of an edge of that size, which lead to the root
  pub record IsEdgeRead (size : ℕ) (root : List ℕ) (reads : List FileRead) : Type 0 where
    pub edge : Edge
    pub size_is : edge.size ≡ size
    pub hashes : HasEdgeHashes edge
    pub root_is : hash_of_edge digest edge ≡ root
    pub rows : All (λ r. IsOfEdge edge r.path r.found) reads

  module _ (entries : List (List ℕ)) where
    -- the file of these entries was found: its true bytes, or a full file that begins with them
    abbrev pub IsTrueFound : Path → Found → Type 0
    IsTrueFound path found = Begins path (true_bytes digest entries path) found

    abbrev pub AreTrue : List FileRead → Type 0
    AreTrue [] = ⊤
    AreTrue (r ∷ rs) = IsTrueFound r.path r.found × AreTrue rs

    -- the found file verifies, in one of these cases: it is the true file. Or it is a full tile or bundle with the fold of the true
    -- one. Or it is a partial bundle with the true leaf hashes, or an edge row of its width
    pub data IsVerified : Path → Found → Type 0 where
      TrueFile : (path : Path) (found : Found) → IsTrueFound path found → IsVerified path found
      FullTile : (level index : ℕ) (bytes : List ℕ) (row : List (List ℕ)) → IsRow 256 bytes row →
          fold_of digest row ≡ fold_of digest (level_row digest entries level (256 * index) 256) →
          IsVerified (Tile level index 256) (Here bytes)
      FullBundle : (index : ℕ) (bytes : List ℕ) (row : List (List ℕ)) → HasLeaves digest 256 bytes row →
          fold_of digest row ≡ fold_of digest (level_row digest entries 0 (256 * index) 256) →
          IsVerified (Entries index 256) (Here bytes)
      EndBundle : (index width : ℕ) (found : Found) (bytes : List ℕ) → Begins (Entries index width) bytes found →
          HasLeaves digest width bytes (level_row digest entries 0 (256 * index) width) → IsVerified (Entries index width) found
      EdgeRow : (level index width : ℕ) (found : Found) (bytes : List ℕ) (row : List (List ℕ)) → width < 256 →
          Begins (Tile level index width) bytes found → IsRow width bytes row → IsVerified (Tile level index width) found

    -- each file verifies, if those before it are true
    abbrev pub AreVerified : List FileRead → Type 0
    AreVerified [] = ⊤
    AreVerified (r ∷ rs) = IsVerified r.path r.found × (IsTrueFound r.path r.found → AreVerified rs)

  -- a list of entries that may be the log of that size and root
  pub record IsLogOf (size : ℕ) (root : List ℕ) (entries : List (List ℕ)) : Type 0 where
    pub size_is : length entries ≡ size
    pub root_is : mth digest entries ≡ root
    pub short : AreShort entries

  module _ (origin : List ℕ) (keys : List Key) where
    -- the source gave a note that opens, of that size and root. Then the files before the named path were read in order, and then
    -- that file. If a list of entries of that size and root has the files before it, the one found is not its true file. If the file
    -- is below the edge, the rows of the edge were read and lead to the root
    pub record IsFileWrong (kind : Path → Found → Type 0) (path : Path) (may later : Path → Option (List ℕ) → Type 0)
        (old new : Option (List Path)) : Type 0 where
      pub note : List ℕ
      pub size : ℕ
      pub root : List ℕ
      pub is_head : IsOpenHead note origin keys size root
      pub before : List FileRead
      pub found : Found
      pub rest : List Path
      pub given : AreGiven may later old new (reply Checkpoint (Some note) ∷ (all_replies before ++ replies_of path found))
      pub order : file_order size ≡ paths_read before ++ path ∷ rest
      pub is_kind : kind path found
      pub verified : (entries : List (List ℕ)) → IsLogOf size root entries → AreVerified entries before
      pub wrong : (entries : List (List ℕ)) → IsLogOf size root entries → AreTrue entries before →
          IsTrueFound entries path found → ⊥
      pub edge : IsBelowEdge path → IsEdgeRead size root before

    -- the source gave a note that opens, of that size and root, and then all rows of the edge. The path is that of the lowest row.
    -- No list of entries of that size and root has these rows
    pub record IsEdgeWrong (path : Path) (may later : Path → Option (List ℕ) → Type 0) (old new : Option (List Path)) : Type 0
      where
        pub note : List ℕ
        pub size : ℕ
        pub root : List ℕ
        pub is_head : IsOpenHead note origin keys size root
        pub reads : List FileRead
        pub given : AreGiven may later old new (reply Checkpoint (Some note) ∷ all_replies reads)
        pub order : paths_read reads ≡ edge_order size 8
        pub lowest : path ≡ first_path (edge_order size 8)
        pub wrong : (entries : List (List ℕ)) → IsLogOf size root entries → AreTrue entries reads → ⊥

    -- the fact that a fault of an audit states about the named file
    abbrev pub NamesWrong : (may later : Path → Option (List ℕ) → Type 0) → Option (List Path) → Option (List Path) →
        AuditFault → Type 0
    NamesWrong may later old new NoCheckpoint = AreGiven may later old new (reply Checkpoint None ∷ [])
    NamesWrong may later old new (Head fault) = IsNoHead origin keys fault may later old new
    NamesWrong may later old new NoEdge = (path : Path) × IsFileWrong IsAbsentEdge path may later old new
    NamesWrong may later old new (NoFile path) = IsFileWrong IsAbsent path may later old new
    NamesWrong may later old new (FalseFile path) =
        IsFileWrong IsPresent path may later old new ⊎ IsEdgeWrong path may later old new
    NamesWrong may later old new Source = ⊤
    NamesWrong may later old new OutOfMemory = ⊤
