-- The notes of a view, one by one.
use Rattle.std.specs.Prelude.{◌≡◌, ℕ, List, Option, slice_get}
use Rattle.mirror_model.specs.Listed.{ListsNotes}
use Rattle.mirror_model.specs.View.{View}

-- the view's note with that number, in rising order of bytes; none past the last
abbrev pub IsNoteAt : View → ℕ → Option (List ℕ) → Type 0
IsNoteAt v i note = (notes : List (List ℕ)) × ListsNotes v notes × (slice_get notes i ≡ note)
