-- The files that the command `notes` puts into its folder. Only the contract of a private function cites `PutsHeads`.
use Rattle.std.specs.Prelude.{◌≡◌, ◌⊎◌, ℕ, ◌<◌, List, [], ◌∷◌, ◌++◌, length, map, take, codes}
use Rattle.std.specs.Prelude.{slice_get, IsSome, IsTrue, Contains, Option, Some, None, Result}
use Rattle.std.specs.Prelude.{Ok, Err, ⊤}
use Rattle.std.specs.List.Sorted.{IsPermutation}
use Rattle.mirror_sources.specs.Recorded.{KeepsRecord}
use Rattle.signed_note.specs.Keys.{Key}
use Rattle.mirror_model.specs.View.{View}
use Rattle.program_io.specs.Named.{NamedFile}
use Rattle.state_commands.specs.NoteFiles.{HeadNote, HasHeads, alike_count, files_of, is_alike}
use Rattle.state_commands.specs.NoteFiles.{note_file_name, point_of}
use Rattle.program_io.specs.Named.{RecordsFault, contents_of}
use Rattle.program_io.specs.declared.named.TheConstants.{MAX_FILE_LEN}
use Rattle.program_io.specs.States.{OpensFile}
use Rattle.program_io.specs.declared.file_fault.NamedFault.{NamedFault}
use Rattle.program_io.specs.declared.file_fault.NamedFault.TheVariants as named
use Rattle.state_commands.specs.declared.work_fault.NotesFault.{NotesFault}
use Rattle.state_commands.specs.declared.work_fault.NotesFault.TheVariants.{State, OutOfMemory, Folder}
use Rattle.state_commands.specs.declared.work_fault.NotesFault.TheVariants.{Note, Flush}

-- the path of the note with that name in a folder
abbrev pub note_place : List ℕ → List ℕ → List ℕ
note_place folder name = folder ++ (codes "/" ++ name)

-- the file with its path in a folder
abbrev pub in_folder : List ℕ → NamedFile → NamedFile
in_folder folder file = (note_place folder file.0, file.1)

-- the files of notes in that order, with their paths in a folder
abbrev pub files_in : List ℕ → List HeadNote → List NamedFile
files_in folder heads = map (in_folder folder) (files_of heads)

-- ---- files that record what was put

-- a file that is there with these bytes is left, a missing one is put, and no other file is written
abbrev pub PutsOnce : NamedFile → List NamedFile → List NamedFile → Type 0
PutsOnce file old new =
    ((contents_of old file.0 ≡ Some file.1) × (new ≡ old))
    ⊎ ((contents_of old file.0 ≡ None) × (new ≡ old ++ file ∷ []))

-- each of the files, in order
abbrev pub PutsEach : List NamedFile → List NamedFile → List NamedFile → Type 0
PutsEach [] old new = new ≡ old
PutsEach (file ∷ files) old new =
    (between : List NamedFile) × PutsOnce file old between × PutsEach files between new

-- a file of that name is there, and has other bytes or is too long to be read
pub record HasOther (puts : List NamedFile) (file : NamedFile) : Type 0 where
  pub present : IsSome (contents_of puts file.0)
  pub differs : contents_of puts file.0 ≡ Some file.1 → MAX_FILE_LEN < length file.1

-- ---- notes that are in the folder

-- the note is there under that number of its size and root
abbrev pub IsUnder : List NamedFile → List ℕ → HeadNote → ℕ → Type 0
IsUnder puts folder head number =
    contents_of puts (note_place folder (note_file_name head.size head.root number))
    ≡ Some head.note

-- the note is there under any number that these notes give to its size and root
abbrev pub Stands : List NamedFile → List ℕ → List HeadNote → HeadNote → Type 0
Stands puts folder heads head =
    (number : ℕ) × (number < alike_count heads head) × IsUnder puts folder head number

-- one of these notes is there under that number of the size and root of `head`
pub record IsNumberTaken (puts : List NamedFile) (folder : List ℕ) (heads : List HeadNote)
    (head : HeadNote) (number : ℕ) : Type 0 where
  pub other : HeadNote
  pub is_listed : Contains heads other
  pub alike : IsTrue (is_alike other head)
  pub under : IsUnder puts folder other number

-- each note keeps its index, and so its number, unless it is there, or one of the notes is there under its number
abbrev pub KeepsOthers : List NamedFile → List ℕ → List HeadNote → List HeadNote → Type 0
KeepsOthers puts folder old new =
    (index : ℕ) (head : HeadNote) →
    slice_get old index ≡ Some head →
    (slice_get new index ≡ Some head)
    ⊎ (Stands puts folder old head
    ⊎ IsNumberTaken puts folder old head (alike_count (take index old) head))

-- the numbers in a new order. A note that is there under any number that the old order gives to its size and root gets such a
-- number, so its file is left. Each other note keeps its number, unless one of the notes is there under it
pub record KeepsStanding (puts : List NamedFile) (folder : List ℕ) (old new : List HeadNote)
    : Type 0 where
  pub standing :
      (index : ℕ) (head : HeadNote) →
      slice_get new index ≡ Some head →
      Stands puts folder old head → IsUnder puts folder head (alike_count (take index new) head)
  pub others : KeepsOthers puts folder old new

-- ---- if the puts are recorded

-- `Holds` relates the puts before and after, if they are recorded
abbrev pub IsRecorded : (List NamedFile → List NamedFile → Type 0) → Option (List NamedFile) →
    Option (List NamedFile) → Type 0
IsRecorded Holds None new = ⊤
IsRecorded Holds (Some old) None = ⊥
IsRecorded Holds (Some old) (Some new) = Holds old new

-- a file of that name has other bytes
abbrev pub RecordsOther : Option (List NamedFile) → NamedFile → Type 0
RecordsOther None file = ⊤
RecordsOther (Some puts) file = HasOther puts file

-- the order of the notes is the same, or it changed because a file with the name of a note, in the old order, has other bytes
abbrev pub HasReason : Option (List NamedFile) → List ℕ → List HeadNote → List HeadNote → Type 0
HasReason recorded folder old new =
    (new ≡ old)
    ⊎ ((file : NamedFile) × Contains (files_in folder old) file × RecordsOther recorded file)

-- a note that is in the folder keeps its file
abbrev pub RecordsStanding : Option (List NamedFile) → List ℕ → List HeadNote → List HeadNote → Type 0
RecordsStanding None folder old new = ⊤
RecordsStanding (Some puts) folder old new = KeepsStanding puts folder old new

-- the notes in the order in which they are put, if the old order is that of `note_files`: each index keeps its size and root,
-- and so its number
pub record Reorders (recorded : Option (List NamedFile)) (folder : List ℕ) (old new : List HeadNote)
    : Type 0 where
  pub same_notes : IsPermutation old new
  pub same_points : map point_of new ≡ map point_of old
  pub reason : HasReason recorded folder old new
  pub standing : RecordsStanding recorded folder old new

-- the reason why a note is not put
abbrev pub StopsAt : Option (List NamedFile) → NamedFile → NamedFault → Type 0
StopsAt recorded file named.FileFault = RecordsOther recorded file
StopsAt recorded file named.OutOfMemory = ⊤

-- one file is put or left; after a fault nothing has changed
abbrev pub PutsOne : {T : Type 0} → Option (List NamedFile) → Option (List NamedFile) →
    NamedFile → Result T NamedFault → Type 0
PutsOne old new file (Ok x) = IsRecorded (PutsOnce file) old new
PutsOne old new file (Err fault) = KeepsRecord old new × StopsAt old file fault

-- the first files were put or left; the next one was not, and nothing has changed since then
pub record PutsFront (files : List NamedFile) (old new : Option (List NamedFile))
    (fault : NamedFault) : Type 0 where
  pub before : List NamedFile
  pub file : NamedFile
  pub after : List NamedFile
  pub stopped : Option (List NamedFile)
  pub files_are : files ≡ before ++ file ∷ after
  pub recorded : IsRecorded (PutsEach before) old stopped
  pub stops : StopsAt stopped file fault
  pub kept : KeepsRecord stopped new

-- the notes are in the folder; after a fault, only the first ones
abbrev pub PutsNotes : {T : Type 0} → List ℕ → List NamedFile → Option (List NamedFile) →
    Option (List NamedFile) → Result T NamedFault → Type 0
PutsNotes folder notes old new (Ok x) = IsRecorded (PutsEach (map (in_folder folder) notes)) old new
PutsNotes folder notes old new (Err fault) = PutsFront (map (in_folder folder) notes) old new fault

-- the answer of a call that put all notes
abbrev pub notes_put : Result (Unit {0}) NamedFault
notes_put = Ok tt

-- the answer of a call that stopped at a note
abbrev pub notes_stopped : NamedFault → Result (Unit {0}) NamedFault
notes_stopped fault = Err fault

-- the meaning of each answer of putting the notes in that order: first they are put, then they are flushed
abbrev pub PutsHeads : {T : Type 0} → List ℕ → List HeadNote → Option (List NamedFile) →
    Option (List NamedFile) → Result T NotesFault → Type 0
PutsHeads folder heads old new (Ok x) = PutsNotes folder (files_of heads) old new notes_put
PutsHeads folder heads old new (Err (State fault)) = ⊥
PutsHeads folder heads old new (Err OutOfMemory) = KeepsRecord old new
PutsHeads folder heads old new (Err (Folder fault)) = ⊥
PutsHeads folder heads old new (Err (Note fault)) =
    PutsNotes folder (files_of heads) old new (notes_stopped fault)
PutsHeads folder heads old new (Err (Flush fault)) =
    PutsNotes folder (files_of heads) old new notes_put × RecordsFault old fault

module _ (digest : List ℕ → List ℕ) (origin : List ℕ) (keys : List Key)
    (recorded : Option (List NamedFile)) (state folder : List ℕ) (new : Option (List NamedFile)) where
  -- the state file gave a mirror
  abbrev pub OpensState : Type 0
  OpensState = (view : View) × OpensFile digest origin keys recorded state (Ok view)

  -- the state file gave a mirror, and its notes were put with this answer; their order is that of `note_files`, unless a file
  -- with the name of a note has other bytes. A note that is in the folder keeps its file
  pub record WritesThese (answer : Result (Unit {0}) NamedFault) : Type 0 where
    pub view : View
    pub listed : List HeadNote
    pub heads : List HeadNote
    pub opened : OpensFile digest origin keys recorded state (Ok view)
    pub has : HasHeads view listed
    pub order : Reorders recorded folder listed heads
    pub puts : PutsNotes folder (files_of heads) recorded new answer

  -- the meaning of each answer of `notes` for its state file and for the files that it put into the folder
  abbrev pub WritesNotes : {T : Type 0} → Result T NotesFault → Type 0
  WritesNotes (Ok x) = WritesThese notes_put
  WritesNotes (Err (State fault)) =
      OpensFile digest origin keys recorded state (Err fault) × KeepsRecord recorded new
  WritesNotes (Err OutOfMemory) = OpensState × KeepsRecord recorded new
  WritesNotes (Err (Folder fault)) = OpensState × RecordsFault recorded fault × KeepsRecord recorded new
  WritesNotes (Err (Note fault)) = WritesThese (notes_stopped fault)
  WritesNotes (Err (Flush fault)) = WritesThese notes_put × RecordsFault recorded fault
