-- The notes while they get the names of the files that already have them. Only contracts of private functions cite these words.
use Rattle.std.specs.Prelude.{◌≡◌, ℕ, ◌<◌, List, All, map, take, slice_get, IsTrue, Option}
use Rattle.std.specs.Prelude.{Some, None, ⊤}
use Rattle.std.specs.Cmp.Lexicographic.{slice_cmp}
use Rattle.std.specs.List.{IsDistinct}
use Rattle.std.specs.List.Sorted.{IsPermutation}
use Rattle.std.specs.Ordering.{eq_by_cmp, nat_cmp}
use Rattle.program_io.specs.Named.{NamedFile}
use Rattle.state_commands.specs.NoteFiles.{HeadNote, IsHeadNote, alike_count, is_alike, point_of}
use Rattle.state_commands.specs.NoteTexts.{HasReason, IsUnder, KeepsOthers}

-- the notes differ from each other, and each has its size and root
pub record AreHeads (heads : List HeadNote) : Type 0 where
  pub distinct :
      IsDistinct (eq_by_cmp (slice_cmp nat_cmp)) (map (λ (head : HeadNote). head.note) heads)
  pub are_heads : All IsHeadNote heads

-- the note at index `j` has these bytes, and the size and root of the note at index `i`
pub record IsNoteWith (heads : List HeadNote) (i : ℕ) (bytes : List ℕ) (j : ℕ) : Type 0 where
  pub head : HeadNote
  pub other : HeadNote
  pub is_head : slice_get heads i ≡ Some head
  pub is_other : slice_get heads j ≡ Some other
  pub alike : IsTrue (is_alike other head)
  pub bytes_are : other.note ≡ bytes

-- a note that is in the folder under the number of one of the first notes is there under its own number
abbrev pub SettlesFirst : List NamedFile → List ℕ → List HeadNote → ℕ → Type 0
SettlesFirst puts folder heads count =
    (index first : ℕ) (head other : HeadNote) →
    slice_get heads index ≡ Some head →
    slice_get heads first ≡ Some other →
    first < count →
    IsTrue (is_alike other head) →
    IsUnder puts folder head (alike_count (take first heads) head) →
    IsUnder puts folder head (alike_count (take index heads) head)

-- the same, if the puts are recorded; each other note keeps its number
abbrev pub RecordsFirst : Option (List NamedFile) → List ℕ → List HeadNote → List HeadNote → ℕ →
    Type 0
RecordsFirst None folder old new count = ⊤
RecordsFirst (Some puts) folder old new count =
    SettlesFirst puts folder new count × KeepsOthers puts folder old new

-- the order after that number of names
pub record IsOrdered (recorded : Option (List NamedFile)) (folder : List ℕ)
    (old new : List HeadNote) (count : ℕ) : Type 0 where
  pub are_heads : AreHeads new
  pub same_notes : IsPermutation old new
  pub same_points : map point_of new ≡ map point_of old
  pub reason : HasReason recorded folder old new
  pub first : RecordsFirst recorded folder old new count
