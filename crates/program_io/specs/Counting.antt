-- The counted calls of a source and of a shelf.
use Rattle.std.specs.Prelude.{◌≡◌, ◌↔◌, ℕ, List, Option, Some, None, Result, Ok, Err}
use Rattle.signed_note.specs.Keys.{Key}
use Rattle.tlog_tiles.specs.declared.paths.Path.{Path}
use Rattle.mirror_sources.specs.Honest.{IsHonest}
use Rattle.program_io.specs.declared.counts.Counts.{Counts}
use Rattle.program_io.specs.ProgressText.{with_file}

-- a file that is found is counted, with its bytes
abbrev pub CountsFound : {X : Type 0} → (X → ℕ) → Counts → Counts → Option X → Type 0
CountsFound len old new (Some bytes) = new ≡ with_file old (len bytes)
CountsFound len old new None = new ≡ old

-- a file that is found is counted, with its bytes; other answers are not counted
abbrev pub CountsAnswer :
    {X E : Type 0} → (X → ℕ) → Counts → Counts → Result (Option X) E → Type 0
CountsAnswer len old new (Ok found) = CountsFound len old new found
CountsAnswer len old new (Err e) = new ≡ old

-- a file that is put is counted, with its bytes; a failed put is not counted
abbrev pub CountsPut : {T E : Type 0} → ℕ → Counts → Counts → Result T E → Type 0
CountsPut len old new (Ok x) = new ≡ with_file old len
CountsPut len old new (Err e) = new ≡ old

-- sources with these answers are honest for the same logs
abbrev pub AreHonestAlike : (Path → Option (List ℕ) → Type 0) →
    (Path → Option (List ℕ) → Type 0) → Type 0
AreHonestAlike one other =
    (digest : List ℕ → List ℕ) (entries : List (List ℕ)) (origin : List ℕ) (keys : List Key)
    (note : List ℕ) (size : ℕ) →
    IsHonest digest entries origin keys note size one
    ↔ IsHonest digest entries origin keys note size other
