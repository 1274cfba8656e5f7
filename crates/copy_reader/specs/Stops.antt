-- The ends of the parts of an audit: the files that were read, and the file at which they stop. Only the contracts of private
-- functions cite these.
use Rattle.std.specs.Prelude.{◌≡◌, ◌⊎◌, ℕ, ◌*◌, ◌<◌, ◌≤◌, All, List, [], ◌∷◌, ◌++◌, length, Option, Some, None, ⊤}
use Rattle.tlog_hash.specs.Rows.{level_row}
use Rattle.signed_note.specs.Keys.{Key}
use Rattle.tlog_tiles.specs.declared.paths.Path.{Path}
use Rattle.tlog_tiles.specs.declared.paths.Path.TheVariants.{Checkpoint, Tile, Entries}
use Rattle.tlog_tiles.specs.Row.{row_text}
use Rattle.mirror_model.specs.Strings.{IsDigest}
use Rattle.mirror_model.specs.TrueLaws.{AreShort}
use Rattle.mirror_sources.specs.Files.{full_of, width_named}
use Rattle.mirror_sources.specs.Honest.{true_bytes}
use Rattle.mirror_sources.specs.Replies.{Reply, reply}
use Rattle.log_reader.specs.EdgeRows.{Edge, RowIsTrue}
use Rattle.log_reader.specs.Holding.{GoesOn, IsEdgeRowOf, IsTileHash, IsTreeFile}
use Rattle.copy_reader.specs.declared.audit_fault.AuditFault.{AuditFault}
use Rattle.copy_reader.specs.declared.audit_fault.AuditFault.TheVariants.{NoCheckpoint, Head, NoEdge, NoFile, FalseFile, Source, OutOfMemory}
use Rattle.copy_reader.specs.Answering.{AreGiven}
use Rattle.copy_reader.specs.Found.{AreTrue, AreVerified, Begins, FileRead, Found, IsAbsent, IsAbsentEdge, IsBelowEdge, IsEdgeRead, IsLogOf, IsNoHead, IsPresent, IsTrueFound}
use Rattle.copy_reader.specs.Found.{all_replies, paths_read, replies_of}
use Rattle.copy_reader.specs.Order.{edge_file, edge_order, first_path}
use Rattle.copy_reader.specs.WholeLogs.{IsTrueRow}

-- the files of these paths were read in order. For entries of that kind each file verifies, if the files before it are true
pub record AreRead (digest : List ℕ → List ℕ) (about : List (List ℕ) → Type 0) (paths : List Path)
    (may later : Path → Option (List ℕ) → Type 0) (old new : Option (List Path)) : Type 0 where
  pub reads : List FileRead
  pub given : AreGiven may later old new (all_replies reads)
  pub paths_are : paths_read reads ≡ paths
  pub verified : (entries : List (List ℕ)) → about entries → AreVerified digest entries reads

-- a full file was requested, and the source lacks it
abbrev pub LacksFile : Path → (may later : Path → Option (List ℕ) → Type 0) → Option (List Path) → Option (List Path) →
    AuditFault → Type 0
LacksFile path may later old new NoCheckpoint = ⊥
LacksFile path may later old new (Head fault) = ⊥
LacksFile path may later old new NoEdge = ⊥
LacksFile path may later old new (NoFile p) = (p ≡ path) × AreGiven may later old new (reply path None ∷ [])
LacksFile path may later old new (FalseFile p) = ⊥
LacksFile path may later old new Source = ⊤
LacksFile path may later old new OutOfMemory = ⊤

-- the source gave the full file of a partial path, and the bytes come from it. If it begins with the true bytes, they are these
pub record IsFullRead (path : Path) (bytes : List ℕ) (may later : Path → Option (List ℕ) → Type 0)
    (old new : Option (List Path)) : Type 0 where
  pub whole : List ℕ
  pub given : AreGiven may later old new (reply (full_of path) (Some whole) ∷ [])
  pub begins : GoesOn path bytes whole
  pub is_true : (digest : List ℕ → List ℕ) (entries : List (List ℕ)) → IsDigest digest → AreShort entries →
      IsTreeFile (length entries) path → width_named path < 256 → GoesOn path (true_bytes digest entries path) whole →
      bytes ≡ true_bytes digest entries path

-- the bytes of a partial path were found, at that path or in its full file
pub record IsPartRead (path : Path) (bytes : List ℕ) (may later : Path → Option (List ℕ) → Type 0)
    (old new : Option (List Path)) : Type 0 where
  pub found : Found
  pub given : AreGiven may later old new (replies_of path found)
  pub present : IsPresent path found
  pub begins : Begins path bytes found
  pub is_true : (digest : List ℕ → List ℕ) (entries : List (List ℕ)) → IsDigest digest → AreShort entries →
      IsTreeFile (length entries) path → IsTrueFound digest entries path found → bytes ≡ true_bytes digest entries path

-- the source gave the full file of a partial path by these replies, and no log has that file
pub record IsFullFalse (path : Path) (first : List Reply) (may later : Path → Option (List ℕ) → Type 0)
    (old new : Option (List Path)) : Type 0 where
  pub whole : List ℕ
  pub given : AreGiven may later old new (first ++ reply (full_of path) (Some whole) ∷ [])
  pub wrong : (digest : List ℕ → List ℕ) (entries : List (List ℕ)) → IsDigest digest → AreShort entries →
      IsTreeFile (length entries) path → width_named path < 256 → GoesOn path (true_bytes digest entries path) whole → ⊥

-- a partial file was requested, and is false
abbrev pub FindsFalse : Path → List Reply → (may later : Path → Option (List ℕ) → Type 0) → Option (List Path) →
    Option (List Path) → AuditFault → Type 0
FindsFalse path first may later old new NoCheckpoint = ⊥
FindsFalse path first may later old new (Head fault) = ⊥
FindsFalse path first may later old new NoEdge = ⊥
FindsFalse path first may later old new (NoFile p) = ⊥
FindsFalse path first may later old new (FalseFile p) = (p ≡ path) × IsFullFalse path first may later old new
FindsFalse path first may later old new Source = ⊤
FindsFalse path first may later old new OutOfMemory = ⊤

-- the file is a partial tile of one of these levels, and has the row of its level
abbrev pub IsRowFile : (ℕ → Type 0) → (ℕ → List (List ℕ)) → Path → Found → Type 0
IsRowFile levels rows Checkpoint found = ⊥
IsRowFile levels rows (Tile level index width) found =
    levels level × Begins (Tile level index width) (row_text (rows level)) found
IsRowFile levels rows (Entries index width) found = ⊥

-- the row of a level was read, if the level has one. If its file is true, so is the row
pub record IsRowRead (size level : ℕ) (row : List (List ℕ)) (may later : Path → Option (List ℕ) → Type 0)
    (old new : Option (List Path)) : Type 0 where
  pub reads : List FileRead
  pub given : AreGiven may later old new (all_replies reads)
  pub paths_are : paths_read reads ≡ edge_file size level
  pub hashes : All (λ hash. length hash ≡ 32) row
  pub has_row : All (λ r. IsRowFile (λ l. l ≡ level) (λ l. row) r.path r.found) reads
  pub verified : (digest : List ℕ → List ℕ) (entries : List (List ℕ)) → AreVerified digest entries reads
  pub is_true : (digest : List ℕ → List ℕ) (entries : List (List ℕ)) → IsDigest digest → AreShort entries →
      length entries ≡ size → AreTrue digest entries reads → IsEdgeRowOf digest size level entries row

-- the rows of the levels below "below" were read. If their files are true, so are they
pub record AreRowsRead (size : ℕ) (rows : ℕ → List (List ℕ)) (below : ℕ) (may later : Path → Option (List ℕ) → Type 0)
    (old new : Option (List Path)) : Type 0 where
  pub reads : List FileRead
  pub given : AreGiven may later old new (all_replies reads)
  pub paths_are : paths_read reads ≡ edge_order size below
  pub hashes : (level : ℕ) → level < below → All (λ hash. length hash ≡ 32) (rows level)
  pub have_rows : All (λ r. IsRowFile (λ l. l < below) rows r.path r.found) reads
  pub verified : (digest : List ℕ → List ℕ) (entries : List (List ℕ)) → AreVerified digest entries reads
  pub is_true : (digest : List ℕ → List ℕ) (entries : List (List ℕ)) → IsDigest digest → AreShort entries →
      length entries ≡ size → AreTrue digest entries reads → (level : ℕ) → level < below →
      IsEdgeRowOf digest size level entries (rows level)

module _ (digest : List ℕ → List ℕ) where
  -- the paths before the named one were read in order, and then that one. If entries of that kind have the files before it, the
  -- one found is not their true file
  pub record StopsAt (paths : List Path) (about : List (List ℕ) → Type 0) (kind : Path → Found → Type 0) (path : Path)
      (may later : Path → Option (List ℕ) → Type 0) (old new : Option (List Path)) : Type 0 where
    pub before : List FileRead
    pub found : Found
    pub rest : List Path
    pub given : AreGiven may later old new (all_replies before ++ replies_of path found)
    pub order : paths ≡ paths_read before ++ path ∷ rest
    pub is_kind : kind path found
    pub verified : (entries : List (List ℕ)) → about entries → AreVerified digest entries before
    pub wrong : (entries : List (List ℕ)) → about entries → AreTrue digest entries before → IsTrueFound digest entries path found → ⊥

  -- a part of an audit reads these paths, and stops at the first file that is not true
  abbrev pub StopsIn : List Path → (List (List ℕ) → Type 0) → (may later : Path → Option (List ℕ) → Type 0) →
      Option (List Path) → Option (List Path) → AuditFault → Type 0
  StopsIn paths about may later old new NoCheckpoint = ⊥
  StopsIn paths about may later old new (Head fault) = ⊥
  StopsIn paths about may later old new NoEdge = (path : Path) × StopsAt paths about IsAbsentEdge path may later old new
  StopsIn paths about may later old new (NoFile path) = StopsAt paths about IsAbsent path may later old new
  StopsIn paths about may later old new (FalseFile path) = StopsAt paths about IsPresent path may later old new
  StopsIn paths about may later old new Source = ⊤
  StopsIn paths about may later old new OutOfMemory = ⊤

  -- the row has the leaf hashes of a full bundle of these entries
  abbrev pub HasLeavesOf : ℕ → List (List ℕ) → List (List ℕ) → Type 0
  HasLeavesOf index row entries = row ≡ level_row digest entries 0 (256 * index) 256

  -- these entries are short, and have the full tile with that hash
  pub record HasTile (level index : ℕ) (hash : List ℕ) (entries : List (List ℕ)) : Type 0 where
    pub short : AreShort entries
    pub is_hash : IsTileHash digest entries level index hash

  -- these entries are short, and have that row
  pub record HasRow (level index : ℕ) (row : List (List ℕ)) (entries : List (List ℕ)) : Type 0 where
    pub short : AreShort entries
    pub is_row : IsTrueRow digest entries level index row

  -- these entries are short, and have the size and the rows of the edge
  pub record HasEdge (edge : Edge) (entries : List (List ℕ)) : Type 0 where
    pub short : AreShort entries
    pub size_is : edge.size ≡ length entries
    pub rows : (level : ℕ) → level ≤ 7 → RowIsTrue digest edge entries level

  -- these entries are short, and have that size
  pub record HasSize (size : ℕ) (entries : List (List ℕ)) : Type 0 where
    pub short : AreShort entries
    pub size_is : length entries ≡ size

  -- all rows of the edge were read, and the named path is the lowest. No log of that size and root has all of these rows
  pub record Misleads (size : ℕ) (root : List ℕ) (path : Path) (may later : Path → Option (List ℕ) → Type 0)
      (old new : Option (List Path)) : Type 0 where
    pub reads : List FileRead
    pub given : AreGiven may later old new (all_replies reads)
    pub order : paths_read reads ≡ edge_order size 8
    pub lowest : path ≡ first_path (edge_order size 8)
    pub wrong : (entries : List (List ℕ)) → IsLogOf digest size root entries → AreTrue digest entries reads → ⊥

  -- the reading of a log stops at that path. If the path is below the edge, the rows of the edge were read and lead to the root
  pub record StopsLog (paths : List Path) (size : ℕ) (root : List ℕ) (kind : Path → Found → Type 0) (path : Path)
      (may later : Path → Option (List ℕ) → Type 0) (old new : Option (List Path)) : Type 0 where
    pub stops : StopsAt paths (IsLogOf digest size root) kind path may later old new
    pub edge : IsBelowEdge path → IsEdgeRead digest size root stops.before

  -- the reading of a log stops at the first file that is not true, or since the rows of the edge do not lead to the root
  abbrev pub StopsEdge : List Path → ℕ → List ℕ → (may later : Path → Option (List ℕ) → Type 0) → Option (List Path) →
      Option (List Path) → AuditFault → Type 0
  StopsEdge paths size root may later old new NoCheckpoint = ⊥
  StopsEdge paths size root may later old new (Head fault) = ⊥
  StopsEdge paths size root may later old new NoEdge =
      (path : Path) × StopsLog paths size root IsAbsentEdge path may later old new
  StopsEdge paths size root may later old new (NoFile path) =
      StopsLog paths size root IsAbsent path may later old new
  StopsEdge paths size root may later old new (FalseFile path) =
      StopsLog paths size root IsPresent path may later old new ⊎ Misleads size root path may later old new
  StopsEdge paths size root may later old new Source = ⊤
  StopsEdge paths size root may later old new OutOfMemory = ⊤

-- the reason why no checkpoint was read: the source lacks it, or its bytes are refused
abbrev pub NamesHead : List ℕ → List Key → (may later : Path → Option (List ℕ) → Type 0) → Option (List Path) →
    Option (List Path) → AuditFault → Type 0
NamesHead origin keys may later old new NoCheckpoint = AreGiven may later old new (reply Checkpoint None ∷ [])
NamesHead origin keys may later old new (Head fault) = IsNoHead origin keys fault may later old new
NamesHead origin keys may later old new NoEdge = ⊥
NamesHead origin keys may later old new (NoFile path) = ⊥
NamesHead origin keys may later old new (FalseFile path) = ⊥
NamesHead origin keys may later old new Source = ⊤
NamesHead origin keys may later old new OutOfMemory = ⊤
