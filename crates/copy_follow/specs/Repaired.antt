-- A copy under its own checkpoint, whose missing and false files were put. Nothing of the shelf is taken as known but the checkpoint.
use Rattle.std.specs.Prelude.{◌≡◌, ◌≢◌, ◌⊎◌, ⊤, ℕ, ◌+◌, ◌*◌, ◌^◌, ◌<◌, ◌≤◌, All, List, [], length, Option, Some, None, Result, Ok, Err, IsTrue, IsFalse}
use Rattle.tlog_shape.specs.Edge.{edge_index_of, width_of}
use Rattle.std.specs.FinSet as set
use Rattle.tlog_hash.specs.Tree.{mth, strings}
use Rattle.tlog_tiles.specs.declared.paths.Path.{Path}
use Rattle.tlog_tiles.specs.declared.paths.Path.TheVariants.{Checkpoint, Tile, Entries}
use Rattle.tlog_tiles.specs.Bundle.{IsBundle}
use Rattle.tlog_tiles.specs.Row.{IsRow}
use Rattle.node_store.specs.Strings.{NoClash}
use Rattle.mirror_model.specs.Heads.{IsHead}
use Rattle.mirror_sources.specs.Files.{full_of, width_named}
use Rattle.mirror_sources.specs.Honest.{true_bytes}
use Rattle.mirror_sources.specs.Recorded.{AddsToRecord}
use Rattle.mirror_folders.specs.Shelf.{HasPut, Put, Stands}
use Rattle.mirror_folders.specs.Holding.{IsMoment}
use Rattle.log_reader.specs.EdgeRows.{Edge, RowIsTrue, edge_tile, row_at}
use Rattle.log_reader.specs.Holding.{GoesOn, IsTreeFile}
use Rattle.copy_places.specs.Giving.{IsFirstOf}
use Rattle.copy_follow.specs.declared.bring_fault.BringFault.{BringFault}
use Rattle.copy_follow.specs.declared.bring_fault.BringFault.TheVariants as fault
use Rattle.copy_follow.specs.Growing.{Obtains}
use Rattle.copy_follow.specs.Moments.{InTheEnd}
use Rattle.copy_follow.specs.Pruned.{IsPrunedCopy}
use Rattle.copy_follow.specs.Taken.{AreEntriesClear, FilesAreClear, IsEdgeClear, IsRowClear, PutsTaken}
use Rattle.copy_places.specs.PlaceGets.{AsksEach, AsksPlaces}
use Rattle.copy_places.specs.declared.places.Places.{Places}

-- a path that a repair of a copy of n entries may request: the checkpoint, a tile or bundle of the indices of the right edge, or a full
-- tile or bundle. A full tile of level 0 is requested only where nobody has its bundle
abbrev pub IsOfEdge : ℕ → Path → Type 0
IsOfEdge n Checkpoint = ⊤
IsOfEdge n (Tile level index width) = index ≡ edge_index_of n level
IsOfEdge n (Entries index width) = index ≡ edge_index_of n 0

abbrev pub IsFullFile : Path → Type 0
IsFullFile Checkpoint = ⊥
IsFullFile (Tile level index width) = width ≡ 256
IsFullFile (Entries index width) = width ≡ 256

abbrev pub MayBeAskedToRepair : ℕ → Path → Type 0
MayBeAskedToRepair n path = IsOfEdge n path ⊎ IsFullFile path

-- ---- how many files were put

-- the files that were put are counted, and none of them is the checkpoint
pub record CountsPuts (from to : ℕ) (old new : Option (List Put)) : Type 0 where
  pub puts : List Put
  pub recorded : AddsToRecord old new puts
  pub no_checkpoint : All (λ put. put.0 ≢ Checkpoint) puts
  pub counted : from + length puts < 2 ^ 64 → to ≡ from + length puts

-- ---- which files may be taken

module _ (take : Path → List ℕ → Type 0) where
  -- the bytes begin a bundle of that index that may be taken, of any width
  abbrev pub BeginsBundle : ℕ → List ℕ → Type 0
  BeginsBundle index bytes = (width : ℕ) × (whole : List ℕ) × take (Entries index width) whole × IsFirstOf whole bytes

  -- the row of a level of the edge of n entries begins a tile that may be taken, of any width, if the level has a row
  pub record BeginsTile (n level : ℕ) (row : List (List ℕ)) : Type 0 where
    pub bytes : List ℕ
    pub is_row : IsRow (width_of n level) bytes row
    pub taken : 1 ≤ width_of n level →
        (width : ℕ) × (whole : List ℕ) × take (Tile level (edge_index_of n level) width) whole × IsFirstOf whole bytes

  -- each row of the edge does
  pub record IsEdgeCut (n : ℕ) (edge : Edge) : Type 0 where
    pub size_is : edge.size ≡ n
    pub rows_are : (level : ℕ) → level ≤ 7 → BeginsTile n level (row_at edge level)

-- no two different strings of the log's tree and of the first entries of a bundle that may be taken share a digest
abbrev pub AreEndsClear : (List ℕ → List ℕ) → List (List ℕ) → (Path → List ℕ → Type 0) → Type 0
AreEndsClear digest log take =
    (index width : ℕ) (bytes : List ℕ) (entries : List (List ℕ)) → BeginsBundle take index bytes → IsBundle width bytes entries →
    AreEntriesClear digest log entries

-- the same for each full tile of level 0 that may be taken. It is taken where nobody has its bundle
abbrev pub AreLeafTilesClear : (List ℕ → List ℕ) → List (List ℕ) → (Path → List ℕ → Type 0) → Type 0
AreLeafTilesClear digest log take =
    (index : ℕ) (bytes : List ℕ) (row : List (List ℕ)) → take (Tile 0 index 256) bytes → IsRow 256 bytes row → IsRowClear digest log row

-- the same for each file and for each edge that may be taken
pub record IsClearLog (digest : List ℕ → List ℕ) (log : List (List ℕ)) (take : Path → List ℕ → Type 0) : Type 0 where
  pub files : FilesAreClear digest log take
  pub leaf_tiles : AreLeafTilesClear digest log take
  pub ends : AreEndsClear digest log take
  pub edge : (edge : Edge) → IsEdgeCut take (length log) edge → IsEdgeClear digest log edge

-- ---- what stands

module _ (puts : List Put) (path : Path) (bytes : List ℕ) where
  -- nothing was put at a partial path, and its full file is on the shelf and begins with the bytes
  pub record GaveWay : Type 0 where
    pub partial : width_named path < 256
    pub gone : ¬ HasPut puts path
    pub full : List ℕ
    pub stands : Stands puts (full_of path) full
    pub begins : GoesOn path bytes full

-- the shelf has the bytes at the path at the end, or its full file begins with them, if it recorded its puts from the beginning
abbrev pub RecordsHad : Option (List Put) → Option (List Put) → Path → List ℕ → Type 0
RecordsHad None new path bytes = ⊤
RecordsHad (Some xs) None path bytes = ⊥
RecordsHad (Some xs) (Some ys) path bytes = Stands ys path bytes ⊎ GaveWay ys path bytes

module _ (digest : List ℕ → List ℕ) where
  -- only files of a log of these entries were put, each with its true bytes
  abbrev pub PutsTrue : List (List ℕ) → Option (List Put) → Option (List Put) → Type 0
  PutsTrue log old new = Obtains digest 0 log log old new

  -- the partial bundle is there, if there is one: all entries were gathered, and the lowest row is true
  pub record IsEndHad (edge : Edge) (known : List (List ℕ)) (old new : Option (List Put)) : Type 0 where
    pub next : List (List ℕ)
    pub gathers : Obtains digest 0 known next old new
    pub size_is : length next ≡ edge.size
    pub row_is : RowIsTrue digest edge next 0
    pub holds :
        1 ≤ width_of edge.size 0 → let path =
        Entries (edge_index_of edge.size 0) (width_of edge.size 0) in
        RecordsHad old new path (true_bytes digest next path)

  -- the partial tile of a level is there, if there is one
  pub record IsEdgeTileHad (edge : Edge) (entries : List (List ℕ)) (old new : Option (List Put)) (level : ℕ) : Type 0 where
    pub gathers : PutsTrue entries old new
    pub holds : 1 ≤ width_of edge.size level →
        RecordsHad old new (edge_tile edge level) (true_bytes digest entries (edge_tile edge level))

  -- the partial tiles of the levels below "below" are there
  pub record AreEdgeTilesHad (edge : Edge) (entries : List (List ℕ)) (old new : Option (List Put)) (below : ℕ) : Type 0 where
    pub gathers : PutsTrue entries old new
    pub holds : (level : ℕ) → level < below → 1 ≤ width_of edge.size level →
        RecordsHad old new (edge_tile edge level) (true_bytes digest entries (edge_tile edge level))

  -- the result of putting a partial tile, and all of them, for each answer
  abbrev pub MendsEdgeTile : {T E : Type 0} → Edge → List (List ℕ) → Option (List Put) → Option (List Put) → ℕ →
      Result T E → Type 0
  MendsEdgeTile edge entries old new level (Ok x) = IsEdgeTileHad edge entries old new level
  MendsEdgeTile edge entries old new level (Err e) = PutsTrue entries old new

  abbrev pub MendsEdgeTiles : {T E : Type 0} → Edge → List (List ℕ) → Option (List Put) → Option (List Put) →
      Result T E → Type 0
  MendsEdgeTiles edge entries old new (Ok x) = AreEdgeTilesHad edge entries old new 8
  MendsEdgeTiles edge entries old new (Err e) = PutsTrue entries old new

  -- entries were gathered whose edge rows these are. Each file of a log of them is there, and only such files were put
  pub record IsEachHad (edge : Edge) (old new : Option (List Put)) : Type 0 where
    pub next : List (List ℕ)
    pub gathers : Obtains digest 0 [] next old new
    pub size_is : length next ≡ edge.size
    pub rows_are : (level : ℕ) → level ≤ 7 → RowIsTrue digest edge next level
    pub holds : (path : Path) → IsTreeFile edge.size path → RecordsHad old new path (true_bytes digest next path)

  -- the shelf has each file of a log of that many entries, whose tree hash is the root. Only such files were put
  pub record HasLog (size : ℕ) (root : List ℕ) (old new : Option (List Put)) : Type 0 where
    pub log : List (List ℕ)
    pub gathers : Obtains digest 0 [] log old new
    pub size_is : length log ≡ size
    pub root_is : mth digest log ≡ root
    pub holds : (path : Path) → IsTreeFile size path → RecordsHad old new path (true_bytes digest log path)

  -- the shelf has a copy of some entries under the note. Partial files may have given way to their full ones
  pub record HasCopy (origin note : List ℕ) (puts : List Put) : Type 0 where
    pub entries : List (List ℕ)
    pub copy : IsPrunedCopy digest origin note entries puts

  -- at the end it has such a copy, if it records its puts, whatever it had but the checkpoint
  abbrev pub IsRepaired : List ℕ → List ℕ → Option (List Put) → Option (List Put) → Type 0
  IsRepaired origin note old new = (held : List Put) → old ≡ Some held → InTheEnd new (HasCopy origin note)

-- at each moment each file that was true is true, if only files of the log were put, each with its true bytes
abbrev pub RepairKeepsTrue : Type 0
RepairKeepsTrue =
    (digest : List ℕ → List ℕ) (log : List (List ℕ)) (held new now : List Put) (path : Path) →
    PutsTrue digest log (Some held) (Some new) → IsMoment held new now →
    Stands held path (true_bytes digest log path) → Stands now path (true_bytes digest log path)

module _ {S : Type 0} (may : S → Path → Option (List ℕ) → Type 0) (failed : S → ℕ) (asked : S → Option (List Path)) where
  -- the places got no request, or requests that a repair of a copy of the note's size may make
  pub data AsksToRepair (origin note : List ℕ) (old new : Places S) : Type 0 where
    AsksNothing : AsksEach may failed asked (λ path. ⊥) old new → AsksToRepair origin note old new
    AsksFiles :
        (size : ℕ) (root : List ℕ) → IsHead note origin size root →
        AsksEach may failed asked (MayBeAskedToRepair size) old new → AsksToRepair origin note old new

-- ---- only contracts of private functions cite what follows

-- no two different strings of the log's tree share a digest
abbrev pub IsTreeClear : (List ℕ → List ℕ) → List (List ℕ) → Type 0
IsTreeClear digest log = NoClash digest (set.from_list (strings digest log))

-- nor of that tree and of a full file that may be taken
pub record AreFullsClear (digest : List ℕ → List ℕ) (log : List (List ℕ)) (take : Path → List ℕ → Type 0) : Type 0 where
  pub tree : IsTreeClear digest log
  pub files : FilesAreClear digest log take
  pub leaf_tiles : AreLeafTilesClear digest log take

-- the fault after nobody had a file: Source if a place failed in this call, else NoFile
abbrev pub IsLack : {S : Type 0} → Places S → BringFault → Type 0
IsLack places e = (IsTrue places.has_failed × (e ≡ fault.Source)) ⊎ (IsFalse places.has_failed × (e ≡ fault.NoFile))

-- the requests for such paths, and the files that were put meanwhile: they were taken from the shelf or a place, and counted
pub record Mends {S : Type 0} (may : S → Path → Option (List ℕ) → Type 0) (failed : S → ℕ) (asked : S → Option (List Path))
    (so : Path → Type 0) (x y : Places S) (a b : Option (List Put)) (from to : ℕ) : Type 0 where
  pub asks : AsksPlaces may failed asked so x y
  pub taken : PutsTaken may x a b
  pub counts : CountsPuts from to a b
