-- The command `export --update`: the mirror in a state file, and the files that it puts into the folder.
use Rattle.std.specs.Prelude.{◌≡◌, ◌↔◌, ℕ, List, Option, None, Result, Ok, Err}
use Rattle.signed_note.specs.Keys.{Key}
use Rattle.mirror_model.specs.View.{View}
use Rattle.mirror_model.specs.Reports.{SaysServed}
use Rattle.mirror_folders.specs.Shelf.{Put}
use Rattle.mirror_files.specs.Updates.{CountsUpdate, StaysWhole, Updates}
use Rattle.mirror_files.specs.declared.export_fault.UpdateFault.{UpdateFault}
use Rattle.mirror_files.specs.declared.export_fault.UpdateFault.TheVariants.{NothingComplete}
use Rattle.program_io.specs.Named.{NamedFile}
use Rattle.program_io.specs.Performing.{done, failed}
use Rattle.program_io.specs.States.{OpensFile}
use Rattle.state_commands.specs.declared.work_fault.FolderFault.{FolderFault}
use Rattle.state_commands.specs.declared.work_fault.FolderFault.TheVariants.{Export, OutOfMemory, State, Update}

-- how the shelf's count of failures changes in an update
abbrev pub CountsFileUpdate : {T : Type 0} → ℕ → ℕ → Result T FolderFault → Type 0
CountsFileUpdate old new (Ok x) = CountsUpdate old new done
CountsFileUpdate old new (Err (State fault)) = new ≡ old
CountsFileUpdate old new (Err OutOfMemory) = new ≡ old
CountsFileUpdate old new (Err (Update fault)) = CountsUpdate old new (failed fault)
CountsFileUpdate old new (Err (Export fault)) = ⊥

module _ (digest : List ℕ → List ℕ) (origin : List ℕ) (keys : List Key)
    (recorded : Option (List NamedFile)) (name : List ℕ) (held before put : Option (List Put)) where
  -- the file gave a mirror, and the served files that the folder lacked were put over what it held, as this answer of an
  -- update says; the folder has a complete log at each moment
  pub record UpdatesOpened (answer : Result (Unit {0}) UpdateFault) : Type 0 where
    pub view : View
    pub opened : OpensFile digest origin keys recorded name (Ok view)
    pub puts : Updates digest view held put answer
    pub nothing : (answer ≡ Err NothingComplete) ↔ SaysServed digest view None
    pub whole : StaysWhole digest view held put answer

  -- the meaning of each answer: the state file is read first, then the folder is opened; if one of these fails, nothing is put
  abbrev pub UpdatesFile : {T : Type 0} → Result T FolderFault → Type 0
  UpdatesFile (Ok x) = UpdatesOpened done
  UpdatesFile (Err (State fault)) =
      OpensFile digest origin keys recorded name (Err fault) × (put ≡ before)
  UpdatesFile (Err OutOfMemory) =
      ((view : View) × OpensFile digest origin keys recorded name (Ok view)) × (put ≡ before)
  UpdatesFile (Err (Update fault)) = UpdatesOpened (failed fault)
  UpdatesFile (Err (Export fault)) = ⊥
