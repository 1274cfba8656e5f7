-- Requests for the files in which the two trees end. Their answers are kept.
use Rattle.std.specs.Prelude.{◌≡◌, ◌⊎◌, ℕ, List, Option, Some, None, ⊤}
use Rattle.tlog_tiles.specs.declared.paths.Path.{Path}
use Rattle.copy_places.specs.AskedOnce.{AsksMore}
use Rattle.copy_places.specs.EndTiles.{AnswersStay, IsKeptAnswer, said}
use Rattle.copy_places.specs.PlaceGets.{AsksPlaces}
use Rattle.copy_places.specs.declared.end_tiles.EndTile.{EndTile}
use Rattle.copy_places.specs.declared.place.PlaceAnswer.{PlaceAnswer}
use Rattle.copy_places.specs.declared.places.Places.{Places}

-- the places were asked only for such files, for none of them twice, and for none whose answer was kept. All answers stay
pub record AsksEnds {S : Type 0} (may : S → Path → Option (List ℕ) → Type 0) (failed : S → ℕ) (asked : S → Option (List Path))
    (old new : Places S) : Type 0 where
  pub asks : AsksPlaces may failed asked (λ path. ⊤) old new
  pub more : AsksMore asked old new
  pub stay : AnswersStay old.ends.tiles.items new.ends.tiles.items

-- the size is that of the larger tree, or of the copy
abbrev pub IsEndSize : {S : Type 0} → Places S → ℕ → Type 0
IsEndSize places n = (n ≡ places.ends.sizes.0) ⊎ (n ≡ places.ends.sizes.1)

-- what was said is no good file: the place failed, or lacks the file, or gave other bytes
abbrev pub IsSaidInVain : Option (Option (List ℕ)) → (List ℕ → Type 0) → Type 0
IsSaidInVain None good = ⊤
IsSaidInVain (Some None) good = ⊤
IsSaidInVain (Some (Some bytes)) good = ¬ good bytes

-- an answer of the place of index k for the path is kept, and it is no good file
pub record IsKeptInVain (tiles : List EndTile) (k : ℕ) (path : Path) (good : List ℕ → Type 0) : Type 0 where
  pub answer : PlaceAnswer
  pub kept : IsKeptAnswer tiles k path answer
  pub vain : IsSaidInVain (said answer) good
