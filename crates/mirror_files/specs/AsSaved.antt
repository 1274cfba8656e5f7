-- The bytes are those that a save writes of the mirror that was loaded from them.
use Rattle.std.specs.Prelude.{ℕ, List, Ok}
use Rattle.signed_note.specs.Keys.{Key}
use Rattle.mirror_model.specs.View.{View}
use Rattle.mirror_files.specs.Loading.{Loads}
use Rattle.mirror_files.specs.StateText.{StateText}

-- for each view that is loaded from the bytes, they are its state text in version 2: a save writes these bytes
abbrev pub IsAsSaved : List ℕ → Type 0
IsAsSaved bytes =
    (digest : List ℕ → List ℕ) (origin : List ℕ) (keys : List Key) (v : View) →
    Loads digest origin keys bytes (Ok v) → StateText v bytes
