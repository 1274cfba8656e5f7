-- The command `export`: the mirror in a state file, and the files that it puts into the folder.
use Rattle.std.specs.Prelude.{◌≡◌, ◌↔◌, ℕ, List, Option, None, Result, Ok, Err}
use Rattle.signed_note.specs.Keys.{Key}
use Rattle.mirror_model.specs.View.{View}
use Rattle.mirror_model.specs.Reports.{SaysServed}
use Rattle.mirror_folders.specs.Shelf.{Put}
use Rattle.mirror_files.specs.Exports.{CheckpointIsLast, CountsExport, Exports}
use Rattle.mirror_files.specs.declared.export_fault.ExportFault.{ExportFault}
use Rattle.mirror_files.specs.declared.export_fault.ExportFault.TheVariants.{NothingComplete}
use Rattle.program_io.specs.Named.{NamedFile}
use Rattle.program_io.specs.Performing.{done, failed}
use Rattle.program_io.specs.States.{OpensFile}
use Rattle.state_commands.specs.declared.work_fault.FolderFault.{FolderFault}
use Rattle.state_commands.specs.declared.work_fault.FolderFault.TheVariants.{Export, OutOfMemory, State, Update}

-- how the shelf's count of failures changes in an export
abbrev pub CountsFileExport : {T : Type 0} → ℕ → ℕ → Result T FolderFault → Type 0
CountsFileExport old new (Ok x) = CountsExport old new done
CountsFileExport old new (Err (State fault)) = new ≡ old
CountsFileExport old new (Err OutOfMemory) = new ≡ old
CountsFileExport old new (Err (Export fault)) = CountsExport old new (failed fault)
CountsFileExport old new (Err (Update fault)) = ⊥

module _ (digest : List ℕ → List ℕ) (origin : List ℕ) (keys : List Key)
    (recorded : Option (List NamedFile)) (name : List ℕ) (held before put : Option (List Put)) where
  -- the file gave a mirror, and its served files were put over what the folder held, as this answer of an export says
  pub record ExportsOpened (answer : Result (Unit {0}) ExportFault) : Type 0 where
    pub view : View
    pub opened : OpensFile digest origin keys recorded name (Ok view)
    pub puts : Exports digest view held put answer
    pub nothing : (answer ≡ Err NothingComplete) ↔ SaysServed digest view None
    pub last : CheckpointIsLast digest view held put

  -- the meaning of each answer: the state file is read first, then the folder is opened; if one of these fails, nothing is put
  abbrev pub ExportsFile : {T : Type 0} → Result T FolderFault → Type 0
  ExportsFile (Ok x) = ExportsOpened done
  ExportsFile (Err (State fault)) =
      OpensFile digest origin keys recorded name (Err fault) × (put ≡ before)
  ExportsFile (Err OutOfMemory) =
      ((view : View) × OpensFile digest origin keys recorded name (Ok view)) × (put ≡ before)
  ExportsFile (Err (Export fault)) = ExportsOpened (failed fault)
  ExportsFile (Err (Update fault)) = ⊥
