-- A whole copy of a log on a shelf, whose partial files may be replaced by their full ones (C2SP tlog-tiles, "Partial Tiles").
-- Its reads are true, and never end by CopyDamaged.
use Rattle.std.specs.Prelude.{◌≡◌, ◌⊎◌, ℕ, ◌<◌, List, length, Option, Some, None, Result, Ok, Err, ⊤}
use Rattle.tlog_hash.specs.Tree.{mth}
use Rattle.tlog_tiles.specs.declared.paths.Path.{Path}
use Rattle.tlog_tiles.specs.declared.paths.Path.TheVariants.{Checkpoint}
use Rattle.mirror_folders.specs.Shelf.{HasPut, Put, Stands, RecordsRead}
use Rattle.mirror_model.specs.Heads.{IsHead}
use Rattle.mirror_model.specs.TrueLaws.{AreShort}
use Rattle.mirror_sources.specs.Files.{full_of, width_named}
use Rattle.mirror_sources.specs.Honest.{true_bytes}
use Rattle.mirror_folders.specs.Holding.{HoldsLog}
use Rattle.log_reader.specs.Holding.{GoesOn, IsReaderOf, IsSourceOf, IsTreeFile}
use Rattle.log_reader.specs.Ways.{Reader}
use Rattle.copy_reader.specs.declared.fault.CopyFault.{CopyFault}
use Rattle.copy_reader.specs.declared.fault.CopyFault.TheVariants.{BadOrigin, Head, CopyDamaged, ShelfFault, OutOfMemory}

module _ (digest : List ℕ → List ℕ) where
  -- the shelf has each tile and bundle of a log of these entries, or the full file of a partial one
  abbrev pub HasFilesOf : List (List ℕ) → Option (List Put) → Type 0
  HasFilesOf entries held = IsSourceOf digest entries (RecordsRead held)

  -- the shelf has a whole copy of the entries under the note
  pub record IsWholeCopy (origin note : List ℕ) (entries : List (List ℕ)) (held : Option (List Put)) : Type 0 where
    pub is_head : IsHead note origin (length entries) (mth digest entries)
    pub checkpoint : (answer : Option (List ℕ)) → RecordsRead held Checkpoint answer → answer ≡ Some note
    pub files : HasFilesOf entries held

  -- the shelf has no whole copy: a file is missing or false
  abbrev pub IsDamaged : List ℕ → Option (List Put) → Type 0
  IsDamaged origin held = (note : List ℕ) (entries : List (List ℕ)) → ¬ IsWholeCopy origin note entries held

  -- the shelf has a whole copy of these entries
  abbrev pub HoldsWhole : List ℕ → Option (List Put) → List (List ℕ) → Type 0
  HoldsWhole origin held entries = (note : List ℕ) × IsWholeCopy origin note entries held

  -- the opened log is that of each whole copy on the shelf. If none was opened, there is no whole copy
  abbrev pub OpensWhole : List ℕ → Option (List Put) → Option Reader → Type 0
  OpensWhole origin held None = IsDamaged origin held
  OpensWhole origin held (Some reader) =
      (note : List ℕ) (entries : List (List ℕ)) → IsWholeCopy origin note entries held → IsReaderOf digest entries reader

-- the fault is not BadOrigin
abbrev pub IsOfShelf : CopyFault → Type 0
IsOfShelf BadOrigin = ⊥
IsOfShelf (Head fault) = ⊤
IsOfShelf (CopyDamaged path) = ⊤
IsOfShelf ShelfFault = ⊤
IsOfShelf OutOfMemory = ⊤

-- the shelf failed, or memory was refused
abbrev pub IsShelfFailure : CopyFault → Type 0
IsShelfFailure BadOrigin = ⊥
IsShelfFailure (Head fault) = ⊥
IsShelfFailure (CopyDamaged path) = ⊥
IsShelfFailure ShelfFault = ⊤
IsShelfFailure OutOfMemory = ⊤

-- an answer is as claimed, or is a fault that may come
abbrev pub GivesOr : {T E : Type 0} → (E → Type 0) → Result T E → (T → Type 0) → Type 0
GivesOr may (Ok x) claim = claim x
GivesOr may (Err fault) claim = may fault

-- the same, and the reader still reads the log of these entries
pub record IsTrueCopyRead {T E : Type 0} (may : E → Type 0) (digest : List ℕ → List ℕ) (entries : List (List ℕ))
    (reader : Reader) (result : Result T E) (claim : T → Type 0) : Type 0 where
  pub reader_is : IsReaderOf digest entries reader
  pub answer : GivesOr may result claim

-- for each list of entries whose log the reader reads and whose files the shelf has, the read is true, or ends by such a fault
abbrev pub ReadsCopyOf : {T E : Type 0} → (E → Type 0) → (List ℕ → List ℕ) → (old new : Reader) → Option (List Put) →
    Result T E → (List (List ℕ) → T → Type 0) → Type 0
ReadsCopyOf may digest old new held result claim =
    (entries : List (List ℕ)) → IsReaderOf digest entries old → HasFilesOf digest entries held →
    IsTrueCopyRead may digest entries new result (claim entries)

-- for each list of entries of that size and root whose files the shelf has: the read is true, or the shelf failed, or memory was
-- refused
abbrev pub ReadsCopyLog : {T : Type 0} → (List ℕ → List ℕ) → ℕ → List ℕ → Option (List Put) →
    Result T CopyFault → (List (List ℕ) → T → Type 0) → Type 0
ReadsCopyLog digest size root held result claim =
    (entries : List (List ℕ)) → length entries ≡ size → mth digest entries ≡ root →
    HasFilesOf digest entries held → GivesOr IsShelfFailure result (claim entries)

-- ---- whole copies

module _ (digest : List ℕ → List ℕ) (entries : List (List ℕ)) (puts : List Put) where
  -- nothing was put at a partial path, and its full file is on the shelf and begins with the true bytes
  pub record HasGivenWay (path : Path) : Type 0 where
    pub partial : width_named path < 256
    pub gone : ¬ HasPut puts path
    pub full : List ℕ
    pub stands : Stands puts (full_of path) full
    pub begins : GoesOn path (true_bytes digest entries path) full

  -- each file of the log is on the shelf with its true bytes, or is a partial file that was replaced by its full one
  abbrev pub EachFileStands : Type 0
  EachFileStands =
      (path : Path) → IsTreeFile (length entries) path →
      Stands puts path (true_bytes digest entries path) ⊎ HasGivenWay path

-- a copy is whole if the note and each file of the log are on the shelf, also if partial files were replaced by full ones.
-- A copy with all its files is whole
pub record CopiesAreWholeOf (digest : List ℕ → List ℕ) (origin note : List ℕ) (entries : List (List ℕ)) (puts : List Put)
    : Type 0 where
  pub each : Stands puts Checkpoint note → EachFileStands digest entries puts →
      IsWholeCopy digest origin note entries (Some puts)
  pub all : HoldsLog digest note entries puts → IsWholeCopy digest origin note entries (Some puts)

abbrev pub CopiesAreWhole : Type 0
CopiesAreWhole =
    (digest : List ℕ → List ℕ) (origin note : List ℕ) (entries : List (List ℕ)) (puts : List Put) →
    AreShort entries → IsHead note origin (length entries) (mth digest entries) →
    CopiesAreWholeOf digest origin note entries puts
