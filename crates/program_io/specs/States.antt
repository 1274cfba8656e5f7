-- Mirrors from state files, and the states that are written to files.
use Rattle.std.specs.Prelude.{◌≡◌, ◌≢◌, ℕ, List, [], ◌∷◌, Option, Some, None, Result, Ok, Err, ⊤}
use Rattle.mirror_sources.specs.Recorded.{AddsToRecord}
use Rattle.signed_note.specs.Keys.{Key}
use Rattle.mirror_model.specs.Origin.{IsOrigin}
use Rattle.mirror_model.specs.View.{View, nothing}
use Rattle.mirror_files.specs.Loading.{Loads}
use Rattle.mirror_files.specs.StateText.{StateText}
use Rattle.mirror_files.specs.declared.load_fault.LoadFault.{LoadFault}
use Rattle.mirror_files.specs.declared.load_fault.LoadFault.TheVariants.{ReadFault}
use Rattle.tlog_mirror.specs.declared.fault.NewFault.TheVariants as made
use Rattle.program_io.specs.Named.{NamedFile}
use Rattle.program_io.specs.Named.{FailsToPut, ReadsFile, HasContents}
use Rattle.program_io.specs.declared.file_fault.NamedFault.{NamedFault}
use Rattle.program_io.specs.declared.state_fault.StateFault.{StateFault}
use Rattle.program_io.specs.declared.state_fault.StateFault.TheVariants.{Origin, File, Load}

module _ (digest : List ℕ → List ℕ) (origin : List ℕ) (keys : List Key)
    (recorded : Option (List NamedFile)) where
  -- the file of that name has some bytes, and loading them gives this answer
  abbrev pub LoadsFile : List ℕ → Result View LoadFault → Type 0
  LoadsFile name answer =
      (bytes : List ℕ) × HasContents recorded name bytes × Loads digest origin keys bytes answer

  -- first the origin is checked, then the file is read, and then its bytes are loaded; no read fails while they are loaded
  abbrev pub OpensFile : List ℕ → Result View StateFault → Type 0
  OpensFile name (Ok v) = IsOrigin origin × LoadsFile name (Ok v)
  OpensFile name (Err (Origin made.BadOrigin)) = ¬ IsOrigin origin
  OpensFile name (Err (Origin made.OutOfMemory)) = ⊤
  OpensFile name (Err (File fault)) = IsOrigin origin × ReadsFile recorded name (Err fault)
  OpensFile name (Err (Load fault)) =
      IsOrigin origin × LoadsFile name (Err fault) × (fault ≢ ReadFault)

  -- the mirror of the named file, or an empty one if no file is named
  abbrev pub BeginsWith : Option (List ℕ) → Result View StateFault → Type 0
  BeginsWith (Some name) answer = OpensFile name answer
  BeginsWith None (Ok v) = IsOrigin origin × (v ≡ nothing origin)
  BeginsWith None (Err (Origin made.BadOrigin)) = ¬ IsOrigin origin
  BeginsWith None (Err (Origin made.OutOfMemory)) = ⊤
  BeginsWith None (Err other) = ⊥

-- the state of the view was written to the file of that name, and nothing else was written
abbrev pub WritesState : View → List ℕ → Option (List NamedFile) → Option (List NamedFile) → Type 0
WritesState v name old new =
    (text : List ℕ) × StateText v text × AddsToRecord old new ((name, text) ∷ [])

-- the state was written; after a fault nothing was written
abbrev pub SavesFile : {T : Type 0} → View → List ℕ → Option (List NamedFile) →
    Option (List NamedFile) → Result T NamedFault → Type 0
SavesFile v name old new (Ok x) = WritesState v name old new
SavesFile v name old new (Err fault) = FailsToPut old new fault
