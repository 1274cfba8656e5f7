-- Places that may answer nothing but the truth for the files of a proof.
use Rattle.std.specs.Prelude.{◌≡◌, ℕ, ◌^◌, ◌<◌, List, length, get_or, Option, Some, None}
use Rattle.tlog_tiles.specs.declared.paths.Path.{Path}
use Rattle.mirror_model.specs.Forks.{Point}
use Rattle.mirror_model.specs.Strings.{IsDigest}
use Rattle.mirror_model.specs.TrueLaws.{AreShort}
use Rattle.mirror_sources.specs.Files.{full_of}
use Rattle.mirror_sources.specs.Honest.{true_bytes}
use Rattle.mirror_folders.specs.Shelf.{Put}
use Rattle.log_reader.specs.Holding.{IsFullAnswer}
use Rattle.copy_places.specs.EndTiles.{IsKeptAnswer, said}
use Rattle.copy_places.specs.Forks.{HasPoint}
use Rattle.copy_places.specs.Nobodys.{AreGiven, CannotBeHad, IsReasonClear}
use Rattle.copy_places.specs.PlaceGets.{IsSaidBy}
use Rattle.copy_places.specs.declared.place.Place.{Place}
use Rattle.copy_places.specs.declared.place.PlaceAnswer.{PlaceAnswer}
use Rattle.copy_places.specs.declared.places.Places.{Places}

-- "old" are the places before any answer was kept, "new" those after the call
module _ {S : Type 0} (may : S → Path → Option (List ℕ) → Type 0) (old new : Places S) where
  -- each kept answer is one that its place might give
  pub record AreAnswered : Type 0 where
    pub each :
        (k : ℕ) (path : Path) (answer : PlaceAnswer) (d : Place S) → IsKeptAnswer new.ends.tiles.items k path answer →
        IsSaidBy (may (get_or old.list.items k d).source) (get_or new.list.items k d).failures path (said answer)

  -- the place of that index did not fail
  abbrev pub IsSound : ℕ → Type 0
  IsSound k = (d : Place S) → (get_or new.list.items k d).failures ≡ 0

  module _ (digest : List ℕ → List ℕ) (entries : List (List ℕ)) where
    -- the place may give nothing but the true file, and did not fail
    abbrev pub MustGive : ℕ → Path → Type 0
    MustGive k path =
        IsSound k
        × ((d : Place S) (answer : Option (List ℕ)) → may (get_or old.list.items k d).source path answer →
        answer ≡ Some (true_bytes digest entries path))

    -- the answer for a partial file is true: its true bytes, or none, and then the full file can only begin with them
    abbrev pub IsPartAnswer : ℕ → Path → Option (List ℕ) → Type 0
    IsPartAnswer k path (Some bytes) = bytes ≡ true_bytes digest entries path
    IsPartAnswer k path None =
        (d : Place S) (answer : Option (List ℕ)) → may (get_or old.list.items k d).source (full_of path) answer →
        IsFullAnswer digest entries path answer

    -- the place may give nothing but that, and did not fail
    abbrev pub MustGivePart : ℕ → Path → Type 0
    MustGivePart k path =
        IsSound k
        × ((d : Place S) (answer : Option (List ℕ)) → may (get_or old.list.items k d).source path answer → IsPartAnswer k path answer)

-- if places may answer nothing but the truth for the files of the proof, there is no reason why it cannot be had. Premise: no two
-- different strings of the entries' tree, and of the edge and the way of the reason, share a digest
abbrev pub AnsweredFilesAreHad : {S : Type 0} → (S → Path → Option (List ℕ) → Type 0) → Type 0
AnsweredFilesAreHad {S} may =
    (digest : List ℕ → List ℕ) → IsDigest digest → (old new : Places S) → AreAnswered may old new → (puts : Option (List Put))
    (first : ℕ) (large : Point) → large.size < 2 ^ 64 →
    (why : CannotBeHad digest puts new.ends.tiles.items (length old.list.items) first large) →
    (entries : List (List ℕ)) → AreShort entries → HasPoint digest large entries →
    IsReasonClear digest puts new.ends.tiles.items (length old.list.items) why entries →
    ¬ AreGiven entries (MustGive may old new digest entries) (MustGivePart may old new digest entries) (length old.list.items) first
