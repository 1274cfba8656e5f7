-- The files that an export puts onto a shelf, for each answer. Only the contracts of private functions cite
-- `AddsFiles`.
use Rattle.std.specs.Prelude.{◌≡◌, ℕ, ◌<◌, List, length, take, Option, Some, None, Result, Ok}
use Rattle.std.specs.Prelude.{Err, Contains, ⊤}
use Rattle.tlog_tiles.specs.declared.paths.Path.{Path}
use Rattle.tlog_tiles.specs.declared.paths.Path.TheVariants.{Checkpoint}
use Rattle.mirror_model.specs.View.{View}
use Rattle.mirror_model.specs.Served.{Served}
use Rattle.mirror_sources.specs.Recorded.{KeepsRecord, AddsToRecord, Rose}
use Rattle.mirror_folders.specs.Shelf.{Put, HasPut, Stands, RecordsNone, RecordsSome}
use Rattle.mirror_folders.specs.Files.{files_at, paths_of, served_bytes}
use Rattle.mirror_folders.specs.Holding.{IsMoment}
use Rattle.mirror_folders.specs.Flushes.{Flushes, FlushesPuts, SecuresPuts}
use Rattle.mirror_files.specs.declared.export_fault.ExportFault.{ExportFault}
use Rattle.mirror_files.specs.declared.export_fault.ExportFault.TheVariants.{NothingComplete, ShelfInUse}
use Rattle.mirror_files.specs.declared.export_fault.ExportFault.TheVariants.{ShelfFault, OutOfMemory}

-- the first of the files were put, but not all
pub record AddsPrefix (old new : Option (List Put)) (files : List Put) : Type 0 where
  pub count : ℕ
  pub short : count < length files
  pub recorded : AddsToRecord old new (take count files)

-- the files that a call added, for each answer: at Ok all of them, else the first ones
abbrev pub AddsFiles : {T E : Type 0} → Option (List Put) → Option (List Put) → List Put →
    Result T E → Type 0
AddsFiles old new files (Ok x) = AddsToRecord old new files
AddsFiles old new files (Err e) = AddsPrefix old new files

module _ (digest : List ℕ → List ℕ) where
  -- the files are those of the log that the view serves
  pub record IsServedFiles (v : View) (files : List Put) : Type 0 where
    pub note : List ℕ
    pub size : ℕ
    pub root : List ℕ
    pub entries : List (List ℕ)
    pub served : Served digest v note size root entries
    pub files_are : files ≡ files_at digest note entries (paths_of size)

  -- all files of the served log were put, onto a shelf that had no checkpoint
  pub record PutsAll (v : View) (old new : Option (List Put)) : Type 0 where
    pub files : List Put
    pub are_served : IsServedFiles v files
    pub free : RecordsNone old Checkpoint
    pub recorded : AddsToRecord old new files

  -- the first files of the served log were put, but not all; none were put if the shelf had a checkpoint
  pub record PutsPrefix (v : View) (old new : Option (List Put)) : Type 0 where
    pub files : List Put
    pub are_served : IsServedFiles v files
    pub front : AddsPrefix old new files
    pub free : 0 < front.count → RecordsNone old Checkpoint

  -- the files that an export puts, for each answer
  abbrev pub Exports : {T : Type 0} → View → Option (List Put) → Option (List Put) →
      Result T ExportFault → Type 0
  Exports v old new (Ok x) = PutsAll v old new
  Exports v old new (Err NothingComplete) = KeepsRecord old new
  Exports v old new (Err ShelfInUse) = KeepsRecord old new × RecordsSome old Checkpoint
  Exports v old new (Err ShelfFault) = PutsPrefix v old new
  Exports v old new (Err OutOfMemory) = PutsPrefix v old new

  -- the served checkpoint is on the shelf, and so is each of its tiles and bundles, with true bytes
  pub record StandsWhole (v : View) (puts : List Put) : Type 0 where
    pub note : List ℕ
    pub size : ℕ
    pub root : List ℕ
    pub entries : List (List ℕ)
    pub served : Served digest v note size root entries
    pub stands : (path : Path) → Contains (paths_of size) path →
        Stands puts path (served_bytes digest note entries path)

  -- the checkpoint comes last: after each put, a shelf that had no checkpoint has one only if every tile and bundle of
  -- it is there with true bytes
  abbrev pub CheckpointIsLast : View → Option (List Put) → Option (List Put) → Type 0
  CheckpointIsLast v None new = ⊤
  CheckpointIsLast v (Some old) None = ⊥
  CheckpointIsLast v (Some old) (Some new) =
      (¬ HasPut old Checkpoint) → (now : List Put) → IsMoment old new now →
      HasPut now Checkpoint → StandsWhole v now

-- an export gives ShelfFault only if the shelf's count of failures rose, or has its greatest value
abbrev pub CountsExport : {T : Type 0} → ℕ → ℕ → Result T ExportFault → Type 0
CountsExport old new (Ok x) = new ≡ old
CountsExport old new (Err NothingComplete) = new ≡ old
CountsExport old new (Err ShelfInUse) = new ≡ old
CountsExport old new (Err ShelfFault) = Rose old new
CountsExport old new (Err OutOfMemory) = new ≡ old

-- at Ok each tile and bundle that was put was flushed before the checkpoint was put. After a fault the shelf still has those that
-- were put to flush
abbrev pub FlushesExport : {T E : Type 0} → Option (List Put) → Option (List Put) → Option Flushes → Option Flushes →
    Result T E → Type 0
FlushesExport old new first last (Ok x) = FlushesPuts old new first last
FlushesExport old new first last (Err e) = SecuresPuts old new first last
