-- The notes of a mirror as files: their names and their bytes. The names are a format of this program. Only contracts of
-- private functions cite `head_note` and `IsFileAt`.
use Rattle.std.specs.Prelude.{◌≡◌, ℕ, List, [], ◌∷◌, ◌++◌, ◌==◌, ◌&&◌, map, Bool, All, count_by}
use Rattle.std.specs.Prelude.{Some, codes, slice_get, string_bytes, take}
use Rattle.std.specs.Fmt.{decimal}
use Rattle.std.specs.Str.{bytes_eq}
use Rattle.hex.specs.Hex.{encode_lower}
use Rattle.mirror_model.specs.Forks.{Point}
use Rattle.mirror_model.specs.Heads.{IsHead}
use Rattle.mirror_model.specs.Listed.{ListsNotes}
use Rattle.mirror_model.specs.View.{View}
use Rattle.program_io.specs.Named.{NamedFile}
use Rattle.state_commands.specs.declared.note_list.HeadNote.{HeadNote as LentNote}
use Rattle.state_commands.specs.declared.note_list.NoteFile.{NoteFile}

-- a note with its size and root
pub record HeadNote : Type 0 where
  pub note : List ℕ
  pub size : ℕ
  pub root : List ℕ

-- a note that a mirror lends, as a value
abbrev pub head_note : LentNote → HeadNote
head_note head = record { note = head.bytes.now; size = head.size; root = head.root }

-- the file of a note, as values: its name and its bytes
abbrev pub note_file : NoteFile → NamedFile
note_file file = (string_bytes file.name, file.bytes.now)

-- the note is a checkpoint with this size and root
abbrev pub IsHeadNote : HeadNote → Type 0
IsHeadNote head = (origin : List ℕ) × IsHead head.note origin head.size head.root

-- the size and root of a note
abbrev pub point_of : HeadNote → Point
point_of head = record { size = head.size; root = head.root }

-- two notes have the same size and root
abbrev pub is_alike : HeadNote → HeadNote → Bool
is_alike a b = (a.size == b.size) && bytes_eq a.root b.root

-- the number of these notes with the size and root of `head`
abbrev pub alike_count : List HeadNote → HeadNote → ℕ
alike_count others head = count_by (λ other. is_alike other head) others

-- `SIZE-ROOT-NUMBER.note`: the root as 64 hexadecimal digits in lower case
abbrev pub note_file_name : ℕ → List ℕ → ℕ → List ℕ
note_file_name size root number =
    decimal size
    ++ (codes "-" ++ (encode_lower root ++ (codes "-" ++ (decimal number ++ codes ".note"))))

-- the file of a note after other notes: its number is the number of these with its size and root
abbrev pub file_after : List HeadNote → HeadNote → NamedFile
file_after before head = (note_file_name head.size head.root (alike_count before head), head.note)

-- the files of notes after other notes
abbrev pub files_after : List HeadNote → List HeadNote → List NamedFile
files_after before [] = []
files_after before (head ∷ rest) =
    file_after before head ∷ files_after (before ++ head ∷ []) rest

-- the files of notes, in order: those of the same size and root are numbered from 0
abbrev pub files_of : List HeadNote → List NamedFile
files_of heads = files_after [] heads

-- the file belongs to the note at that index
pub record IsFileAt (heads : List HeadNote) (index : ℕ) (file : NamedFile) : Type 0 where
  pub head : HeadNote
  pub is_there : slice_get heads index ≡ Some head
  pub file_is : file ≡ file_after (take index heads) head

-- the list has the notes of the view, by their bytes, each with its size and root
pub record HasHeads (v : View) (heads : List HeadNote) : Type 0 where
  pub notes : ListsNotes v (map (λ (head : HeadNote). head.note) heads)
  pub are_heads : All IsHeadNote heads

-- the files have the notes of the view, each once, by their bytes
pub record ListsNoteFiles (v : View) (files : List NamedFile) : Type 0 where
  pub heads : List HeadNote
  pub has : HasHeads v heads
  pub files_are : files ≡ files_of heads
