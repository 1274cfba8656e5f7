-- The steps of an update: the checkpoint that is on the shelf, and the files that are put. Only the contracts of
-- private functions cite these words.
use Rattle.std.specs.Prelude.{◌≡◌, ◌≢◌, ◌⊎◌, ℕ, ◌+◌, ◌≤◌, List, [], ◌∷◌, length, Option, Some, None, ⊤}
use Rattle.std.specs.Prelude.{Result, Ok, Err}
use Rattle.tlog_hash.specs.Tree.{mth}
use Rattle.tlog_hash.specs.Rows.{part}
use Rattle.signed_note.specs.declared.fault.NoteFault.{NoteFault}
use Rattle.signed_note.specs.declared.fault.NoteFault.TheVariants as noting
use Rattle.tlog_checkpoint.specs.declared.fault.CheckpointFault.{CheckpointFault}
use Rattle.tlog_checkpoint.specs.declared.fault.CheckpointFault.TheVariants as reading
use Rattle.tlog_tiles.specs.declared.paths.Path.TheVariants.{Checkpoint}
use Rattle.mirror_model.specs.Heads.{IsHead}
use Rattle.mirror_sources.specs.Recorded.{KeepsRecord, AddsToRecord}
use Rattle.mirror_folders.specs.Shelf.{Put, Stands, RecordsRead}
use Rattle.mirror_files.specs.Exports.{AddsPrefix}
use Rattle.mirror_folders.specs.Since.{files_since}
use Rattle.mirror_trees.specs.Tops.{Top, IsListOf}
use Rattle.mirror_files.specs.declared.export_fault.UpdateFault.{UpdateFault}
use Rattle.mirror_files.specs.declared.export_fault.UpdateFault.TheVariants.{NothingComplete, OtherLog}
use Rattle.mirror_files.specs.declared.export_fault.UpdateFault.TheVariants.{ShelfFault, OutOfMemory}

-- the fault for bytes that are no note, and so no checkpoint of the log
abbrev pub of_note : NoteFault → UpdateFault
of_note noting.OutOfMemory = OutOfMemory
of_note other = OtherLog

-- the fault for a text that is no checkpoint, and so no checkpoint of the log
abbrev pub of_text : CheckpointFault → UpdateFault
of_text reading.OutOfMemory = OutOfMemory
of_text other = OtherLog

-- the size and root of a note's text, or the text is no checkpoint of the origin
abbrev pub ReadsPoint : List ℕ → List ℕ → Result (ℕ × List ℕ) UpdateFault → Type 0
ReadsPoint bytes origin (Ok point) = IsHead bytes origin point.0 point.1
ReadsPoint bytes origin (Err OtherLog) = (m : ℕ) (root : List ℕ) → ¬ IsHead bytes origin m root
ReadsPoint bytes origin (Err OutOfMemory) = ⊤
ReadsPoint bytes origin (Err NothingComplete) = ⊥
ReadsPoint bytes origin (Err ShelfFault) = ⊥

-- the checkpoint was put if the one that was found was still on the shelf; if another one was there, it was not put
abbrev pub PutsLast : {T : Type 0} → Option (List Put) → Option (List Put) → Option (List ℕ) →
    List ℕ → Result T UpdateFault → Type 0
PutsLast old new found note (Ok x) =
    RecordsRead old Checkpoint found × AddsToRecord old new ((Checkpoint, note) ∷ [])
PutsLast old new found note (Err OtherLog) =
    KeepsRecord old new × (again : Option (List ℕ)) × RecordsRead old Checkpoint again × (again ≢ found)
PutsLast old new found note (Err ShelfFault) = KeepsRecord old new
PutsLast old new found note (Err OutOfMemory) = KeepsRecord old new
PutsLast old new found note (Err NothingComplete) = ⊥

module _ (digest : List ℕ → List ℕ) where
  -- the first m entries have that root
  pub record Begins (entries : List (List ℕ)) (m : ℕ) (root : List ℕ) : Type 0 where
    pub within : 0 + m ≤ length entries
    pub root_is : root ≡ mth digest (part 0 m entries)

  -- the checkpoint has the size m, and the root of the first m entries of the top
  pub record TopGoesOn (top : Top) (origin checkpoint : List ℕ) (m : ℕ) : Type 0 where
    pub root : List ℕ
    pub is_head : IsHead checkpoint origin m root
    pub begins : (entries : List (List ℕ)) → IsListOf digest top entries → Begins entries m root

  -- the size of the checkpoint, or the top does not extend it
  abbrev pub FindsSize : Top → List ℕ → List ℕ → Result ℕ UpdateFault → Type 0
  FindsSize top origin checkpoint (Ok m) = TopGoesOn top origin checkpoint m
  FindsSize top origin checkpoint (Err OtherLog) =
      (m : ℕ) (root : List ℕ) (entries : List (List ℕ)) → IsHead checkpoint origin m root →
      IsListOf digest top entries → ¬ Begins entries m root
  FindsSize top origin checkpoint (Err OutOfMemory) = ⊤
  FindsSize top origin checkpoint (Err NothingComplete) = ⊥
  FindsSize top origin checkpoint (Err ShelfFault) = ⊥

  -- the size of the checkpoint that was found; 0 if none was found
  abbrev pub TopGoesOnFound : Top → List ℕ → Option (List ℕ) → ℕ → Type 0
  TopGoesOnFound top origin None m = m ≡ 0
  TopGoesOnFound top origin (Some checkpoint) m = TopGoesOn top origin checkpoint m

  -- the same, or the top does not extend the checkpoint
  abbrev pub FindsSince : Top → List ℕ → Option (List ℕ) → Result ℕ UpdateFault → Type 0
  FindsSince top origin None (Ok m) = m ≡ 0
  FindsSince top origin None (Err fault) = ⊥
  FindsSince top origin (Some checkpoint) result = FindsSize top origin checkpoint result

  -- the files of the top since the checkpoint that is on the shelf were put; none were put if that is the top's note
  pub record PutsTop (top : Top) (origin : List ℕ) (entries : List (List ℕ))
      (old new : Option (List Put)) : Type 0 where
    pub found : Option (List ℕ)
    pub read : RecordsRead old Checkpoint found
    pub m : ℕ
    pub goes_on : TopGoesOnFound top origin found m
    pub recorded : ((found ≢ Some top.note)
        × AddsToRecord old new (files_since digest top.note entries m top.size))
        ⊎ ((found ≡ Some top.note) × KeepsRecord old new)

  -- the first of these files were put, but not all
  pub record PutsPrefixTop (top : Top) (origin : List ℕ) (entries : List (List ℕ))
      (old new : Option (List Put)) : Type 0 where
    pub found : Option (List ℕ)
    pub read : RecordsRead old Checkpoint found
    pub m : ℕ
    pub goes_on : TopGoesOnFound top origin found m
    pub front : AddsPrefix old new (files_since digest top.note entries m top.size)

  -- a checkpoint is on the shelf that the top does not extend
  abbrev pub TopStandsOther : Top → List ℕ → Option (List Put) → Type 0
  TopStandsOther top origin None = ⊤
  TopStandsOther top origin (Some puts) =
      (checkpoint : List ℕ) × Stands puts Checkpoint checkpoint
      × FindsSize top origin checkpoint (Err OtherLog)

  -- the files that an update to a top of these entries puts, for each answer
  abbrev pub UpdatesTop : {T : Type 0} → Top → List ℕ → List (List ℕ) → Option (List Put) →
      Option (List Put) → Result T UpdateFault → Type 0
  UpdatesTop top origin entries old new (Ok x) = PutsTop top origin entries old new
  UpdatesTop top origin entries old new (Err OtherLog) =
      KeepsRecord old new × TopStandsOther top origin old
  UpdatesTop top origin entries old new (Err ShelfFault) =
      KeepsRecord old new ⊎ PutsPrefixTop top origin entries old new
  UpdatesTop top origin entries old new (Err OutOfMemory) =
      KeepsRecord old new ⊎ PutsPrefixTop top origin entries old new
  UpdatesTop top origin entries old new (Err NothingComplete) = ⊥
