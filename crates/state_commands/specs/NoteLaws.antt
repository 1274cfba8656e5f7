-- Consequences of putting notes.
use Rattle.std.specs.Prelude.{◌≡◌, ℕ, List, ◌++◌, All, Contains, Some, None}
use Rattle.program_io.specs.Named.{NamedFile}
use Rattle.program_io.specs.Named.{contents_of}
use Rattle.state_commands.specs.NoteTexts.{PutsEach}

-- each file keeps its bytes
abbrev pub KeepsFiles : Type 0
KeepsFiles =
    (files old new : List NamedFile) (name bytes : List ℕ) →
    PutsEach files old new →
    contents_of old name ≡ Some bytes →
    contents_of new name ≡ Some bytes

-- each file that was put or left has its bytes in the end
abbrev pub NotesStand : Type 0
NotesStand =
    (files old new : List NamedFile) (file : NamedFile) →
    PutsEach files old new →
    Contains files file →
    contents_of new file.0 ≡ Some file.1

-- only files that were missing are put, so no note is written again
abbrev pub PutsMissing : Type 0
PutsMissing =
    (files old new : List NamedFile) →
    PutsEach files old new →
    (added : List NamedFile)
    × (new ≡ old ++ added)
    × All (λ (file : NamedFile). contents_of old file.0 ≡ None) added
