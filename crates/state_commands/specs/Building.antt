-- Logs that are built from entries (C2SP tlog-tiles). Only contracts of private functions cite
-- `ChecksOrigin`, `OpensUnder` and `PutsFiles`.
use Rattle.std.specs.Prelude.{◌≡◌, ◌⊎◌, ℕ, List, length, Contains, Option, Result, Ok, Err, ⊤}
use Rattle.signed_note.specs.Keys.{Key}
use Rattle.tlog_hash.specs.Tree.{mth}
use Rattle.tlog_tiles.specs.declared.paths.Path.TheVariants.{Checkpoint}
use Rattle.mirror_model.specs.Heads.{IsOpenHead}
use Rattle.mirror_model.specs.Origin.{IsOrigin}
use Rattle.mirror_pull.specs.ListSource.{OpensAnywhere}
use Rattle.mirror_sources.specs.Recorded.{KeepsRecord, AddsToRecord}
use Rattle.mirror_folders.specs.Shelf.{Put, RecordsNone, RecordsSome}
use Rattle.mirror_folders.specs.Files.{paths_of, files_at}
use Rattle.mirror_files.specs.Exports.{AddsPrefix}
use Rattle.mirror_files.specs.declared.export_fault.ExportFault.{ExportFault}
use Rattle.mirror_files.specs.declared.export_fault.ExportFault.TheVariants as export
use Rattle.state_commands.specs.declared.build_fault.BuildFault.{BuildFault}
use Rattle.state_commands.specs.declared.build_fault.BuildFault.TheVariants.{BadOrigin, Pull, Export}
use Rattle.state_commands.specs.declared.build_fault.BuildFault.TheVariants.{OutOfMemory}

-- when the check of an origin may return each answer: a mirror may have it or not
abbrev pub ChecksOrigin : {T : Type 0} → List ℕ → Result T BuildFault → Type 0
ChecksOrigin origin (Ok x) = IsOrigin origin
ChecksOrigin origin (Err BadOrigin) = ¬ IsOrigin origin
ChecksOrigin origin (Err OutOfMemory) = ⊤
ChecksOrigin origin (Err fault) = ⊥

-- the note is a checkpoint of the origin, and opens under the keys
abbrev pub OpensUnder : List ℕ → List ℕ → List Key → Type 0
OpensUnder note origin keys = (size : ℕ) × (root : List ℕ) × IsOpenHead note origin keys size root

module _ (digest : List ℕ → List ℕ) (note : List ℕ) (entries : List (List ℕ)) where
  -- the files put for the log of the entries under that note, by the answer of the call
  abbrev pub PutsFiles : {T : Type 0} → Option (List Put) → Option (List Put) →
      Result T ExportFault → Type 0
  PutsFiles old new (Ok x) =
      RecordsNone old Checkpoint
      × AddsToRecord old new (files_at digest note entries (paths_of (length entries)))
  PutsFiles old new (Err export.NothingComplete) = ⊥
  PutsFiles old new (Err export.ShelfInUse) = KeepsRecord old new × RecordsSome old Checkpoint
  PutsFiles old new (Err export.ShelfFault) =
      AddsPrefix old new (files_at digest note entries (paths_of (length entries)))
  PutsFiles old new (Err export.OutOfMemory) =
      AddsPrefix old new (files_at digest note entries (paths_of (length entries)))

module _ (digest : List ℕ → List ℕ) where
  module _ (origin : List ℕ) (key : Key) (entries : List (List ℕ)) where
    -- the note is a checkpoint of all the entries, and opens under any list of keys that has the
    -- key
    abbrev pub IsLogNote : List ℕ → Type 0
    IsLogNote note = OpensAnywhere note origin key (length entries) (mth digest entries)

    -- the files are those of the log of the entries, with such a note
    pub record AreLogFiles (files : List Put) : Type 0 where
      pub note : List ℕ
      pub is_note : IsLogNote note
      pub files_are : files ≡ files_at digest note entries (paths_of (length entries))

    -- the same, and the note opens under these keys
    pub record AreFilesUnder (keys : List Key) (files : List Put) : Type 0 where
      pub are : AreLogFiles files
      pub opens : IsOpenHead are.note origin keys (length entries) (mth digest entries)

    -- the files that building the log puts onto a shelf, under these keys; for Ok all its files,
    -- onto a shelf that had no checkpoint. A Pull comes only if the key of the log is not among them
    abbrev pub BuildsLogUnder : {T : Type 0} → List Key → Option (List Put) → Option (List Put) →
        Result T BuildFault → Type 0
    BuildsLogUnder keys old new (Ok x) =
        (files : List Put) × AreFilesUnder keys files × RecordsNone old Checkpoint
        × AddsToRecord old new files
    BuildsLogUnder keys old new (Err BadOrigin) = (¬ IsOrigin origin) × KeepsRecord old new
    BuildsLogUnder keys old new (Err (Pull fault)) = (¬ Contains keys key) × KeepsRecord old new
    BuildsLogUnder keys old new (Err (Export export.NothingComplete)) = ⊥
    BuildsLogUnder keys old new (Err (Export export.ShelfInUse)) =
        KeepsRecord old new × RecordsSome old Checkpoint
    BuildsLogUnder keys old new (Err (Export export.ShelfFault)) =
        (files : List Put) × AreFilesUnder keys files × AddsPrefix old new files
    BuildsLogUnder keys old new (Err (Export export.OutOfMemory)) = ⊥
    BuildsLogUnder keys old new (Err OutOfMemory) =
        KeepsRecord old new
        ⊎ ((files : List Put) × AreFilesUnder keys files × AddsPrefix old new files)
