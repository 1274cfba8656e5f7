-- A file that already has the state of a mirror, so that it need not be written again.
use Rattle.std.specs.Prelude.{◌≡◌, ℕ, List, Option, Some}
use Rattle.mirror_model.specs.View.{View}
use Rattle.mirror_files.specs.StateText.{StateText}
use Rattle.program_io.specs.Named.{NamedFile, HasContents}

-- the file of that name has the state of the view, in the bytes that a save writes
abbrev pub HoldsState : View → List ℕ → Option (List NamedFile) → Type 0
HoldsState v name recorded = (text : List ℕ) × StateText v text × HasContents recorded name text

-- the file to write is the one that was read, and it has the state of the view
pub record IsSaved (state : Option (List ℕ)) (v : View) (out : List ℕ) (recorded : Option (List NamedFile))
    : Type 0 where
  pub named : state ≡ Some out
  pub holds : HoldsState v out recorded
