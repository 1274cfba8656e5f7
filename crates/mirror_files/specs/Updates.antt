-- The files that an update puts onto a shelf that can be read, for each answer, and the files on the shelf at each
-- moment.
use Rattle.std.specs.Prelude.{◌≡◌, ◌≢◌, ◌⊎◌, ℕ, List, take, Option, Some, None, Result, Ok, Err, OnOk, ⊤}
use Rattle.tlog_tiles.specs.declared.paths.Path.TheVariants.{Checkpoint}
use Rattle.mirror_model.specs.View.{View}
use Rattle.mirror_model.specs.Heads.{IsHead}
use Rattle.mirror_model.specs.Served.{IsRangeHash, Served}
use Rattle.mirror_sources.specs.Recorded.{KeepsRecord, AddsToRecord, Rose}
use Rattle.mirror_folders.specs.Shelf.{Put, Stands, RecordsRead}
use Rattle.mirror_files.specs.Exports.{AddsPrefix}
use Rattle.mirror_folders.specs.Holding.{IsMoment}
use Rattle.mirror_folders.specs.Since.{files_since}
use Rattle.mirror_folders.specs.Flushes.{Flushes, FlushesPuts, SecuresPuts}
use Rattle.mirror_folders.specs.Holding.{HoldsFiles, HoldsLog}
use Rattle.mirror_files.specs.UpdateLaws.{IsWholeAt}
use Rattle.mirror_files.specs.declared.export_fault.UpdateFault.{UpdateFault}
use Rattle.mirror_files.specs.declared.export_fault.UpdateFault.TheVariants.{NothingComplete, OtherLog}
use Rattle.mirror_files.specs.declared.export_fault.UpdateFault.TheVariants.{ShelfFault, OutOfMemory}

module _ (digest : List ℕ → List ℕ) where
  -- the served log extends the checkpoint. This is a note, and its text is a checkpoint of the view's origin with m
  -- entries; its root is MTH(E[0..m]) for the served entries E
  pub record GoesOnFrom (v : View) (checkpoint : List ℕ) (m : ℕ) : Type 0 where
    pub root : List ℕ
    pub is_head : IsHead checkpoint v.origin m root
    pub begins : IsRangeHash digest v 0 m root

  -- the served log extends the checkpoint that was found; if none was found, it extends the log of no entries
  abbrev pub GoesOn : View → Option (List ℕ) → ℕ → Type 0
  GoesOn v None m = m ≡ 0
  GoesOn v (Some checkpoint) m = GoesOnFrom v checkpoint m

  -- the files of the served log since the checkpoint that was found; its own checkpoint is the last one
  pub record IsFilesSince (v : View) (found : Option (List ℕ)) (files : List Put) : Type 0 where
    pub note : List ℕ
    pub size : ℕ
    pub root : List ℕ
    pub entries : List (List ℕ)
    pub m : ℕ
    pub served : Served digest v note size root entries
    pub goes_on : GoesOn v found m
    pub files_are : files ≡ files_since digest note entries m size

  -- all files since the checkpoint that is on the shelf were put; none were put if that is the served note, byte for
  -- byte
  pub record PutsSince (v : View) (old new : Option (List Put)) : Type 0 where
    pub found : Option (List ℕ)
    pub read : RecordsRead old Checkpoint found
    pub files : List Put
    pub are_since : IsFilesSince v found files
    pub recorded : ((found ≢ Some are_since.note) × AddsToRecord old new files)
        ⊎ ((found ≡ Some are_since.note) × KeepsRecord old new)

  -- the first of these files were put, but not all
  pub record PutsPrefixSince (v : View) (old new : Option (List Put)) : Type 0 where
    pub found : Option (List ℕ)
    pub read : RecordsRead old Checkpoint found
    pub files : List Put
    pub are_since : IsFilesSince v found files
    pub front : AddsPrefix old new files

  -- a checkpoint is on the shelf that the served log does not extend at any size
  abbrev pub StandsOther : View → Option (List Put) → Type 0
  StandsOther v None = ⊤
  StandsOther v (Some puts) =
      (checkpoint : List ℕ) × Stands puts Checkpoint checkpoint
      × ((m : ℕ) → ¬ GoesOnFrom v checkpoint m)

  -- the files that an update puts, for each answer
  abbrev pub Updates : {T : Type 0} → View → Option (List Put) → Option (List Put) →
      Result T UpdateFault → Type 0
  Updates v old new (Ok x) = PutsSince v old new
  Updates v old new (Err NothingComplete) = KeepsRecord old new
  Updates v old new (Err OtherLog) = KeepsRecord old new × StandsOther v old
  Updates v old new (Err ShelfFault) = KeepsRecord old new ⊎ PutsPrefixSince v old new
  Updates v old new (Err OutOfMemory) = KeepsRecord old new ⊎ PutsPrefixSince v old new

  -- at each moment of an update a complete log is on the shelf, and at Ok the served one
  pub record KeepsWhole {T : Type 0} (note : List ℕ) (entries : List (List ℕ))
      (found : Option (List ℕ)) (m : ℕ) (old new : List Put) (answer : Result T UpdateFault)
      : Type 0 where
    pub moments : (now : List Put) → IsMoment old new now →
        IsWholeAt digest note entries found m old now
    pub done : OnOk answer (HoldsLog digest note entries new)

  -- let the served log extend the checkpoint that is on the shelf, at a size of m, and let every tile and bundle of the
  -- first m entries be there. Then the update keeps the log complete
  abbrev pub StaysWhole : {T : Type 0} → View → Option (List Put) → Option (List Put) →
      Result T UpdateFault → Type 0
  StaysWhole v None new answer = ⊤
  StaysWhole v (Some old) None answer = ⊥
  StaysWhole v (Some old) (Some new) answer =
      (found : Option (List ℕ)) (m : ℕ) (note : List ℕ) (size : ℕ) (root : List ℕ)
      (entries : List (List ℕ)) →
      RecordsRead (Some old) Checkpoint found → GoesOn v found m →
      Served digest v note size root entries → HoldsFiles digest (take m entries) old →
      KeepsWhole note entries found m old new answer

-- an update gives ShelfFault only if the shelf's count of failures rose, or has its greatest value
abbrev pub CountsUpdate : {T : Type 0} → ℕ → ℕ → Result T UpdateFault → Type 0
CountsUpdate old new (Ok x) = new ≡ old
CountsUpdate old new (Err NothingComplete) = new ≡ old
CountsUpdate old new (Err OtherLog) = new ≡ old
CountsUpdate old new (Err ShelfFault) = Rose old new
CountsUpdate old new (Err OutOfMemory) = new ≡ old

-- at Ok each tile and bundle that was put was flushed before the checkpoint was put, if that was not there already. After a fault the
-- shelf still has those that were put to flush
abbrev pub FlushesUpdate : {T : Type 0} → Option (List Put) → Option (List Put) → Option Flushes → Option Flushes →
    Result T UpdateFault → Type 0
FlushesUpdate old new first last (Ok x) = FlushesPuts old new first last ⊎ KeepsRecord old new
FlushesUpdate old new first last (Err e) = SecuresPuts old new first last
