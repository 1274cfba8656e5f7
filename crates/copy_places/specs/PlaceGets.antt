-- The requests to the places of a run, and what is recorded of their answers.
use Rattle.std.specs.Prelude.{◌≡◌, ◌⊎◌, ℕ, ◌+◌, ◌-◌, ◌^◌, ◌<◌, ◌≤◌, min, All, List, length, get_or, Option, Some, None}
use Rattle.std.specs.Prelude.{IsTrue, IsFalse, IsSome}
use Rattle.tlog_tiles.specs.declared.paths.Path.{Path}
use Rattle.mirror_sources.specs.Source.{StaysWithin}
use Rattle.mirror_sources.specs.Recorded.{AddsToRecord}
use Rattle.copy_places.specs.EndTiles.{IsKeptAnswer, KeepsAnswers, said}
use Rattle.copy_places.specs.declared.place.Place.{Place}
use Rattle.copy_places.specs.declared.place.PlaceAnswer.{PlaceAnswer}
use Rattle.copy_places.specs.declared.place.PlaceAnswer.TheVariants.{File, NotFound, Failed}
use Rattle.copy_places.specs.declared.place.Wrong.{Wrong}
use Rattle.copy_places.specs.declared.place.Wrong.TheVariants as wrong
use Rattle.copy_places.specs.declared.place.WrongFile.{WrongFile}
use Rattle.copy_places.specs.declared.places.Places.{Places}

-- the first file that was wrong at a place, after one more wrong file
abbrev pub with_first : Option WrongFile → Path → Wrong → Option (ℕ × List ℕ) → Option WrongFile
with_first None path wrong tried = Some (record { path = path; wrong = wrong; tried = tried })
with_first (Some file) path wrong tried = Some file

-- the first wrong file of a place changes only by a failed get, which is noted if it is the first
abbrev pub NotesFailure : {S : Type 0} → Path → Place S → Place S → Type 0
NotesFailure path old new =
    (new.failures ≡ old.failures → new.first_wrong ≡ old.first_wrong)
    × (old.failures < new.failures → new.first_wrong ≡ with_first old.first_wrong path wrong.Failed None)

-- the file is noted, with the tree that was asked for, as the first wrong one of the place of index k, unless one was noted before or the place failed meanwhile
abbrev pub NotesWrong : {S : Type 0} → Path → Wrong → Places S → Places S → ℕ → Type 0
NotesWrong {S} path wrong old new k =
    (d : Place S) → (get_or new.list.items k d).failures ≡ (get_or old.list.items k d).failures →
    (get_or new.list.items k d).first_wrong ≡ with_first (get_or old.list.items k d).first_wrong path wrong old.tried

-- a source's number of failures rose by "times", up to the maximum of a u64
abbrev pub RoseTimes : ℕ → ℕ → ℕ → Type 0
RoseTimes times old new = (times ≡ 0 → new ≡ old) × (1 ≤ times → new ≡ min (old + times) (2 ^ 64 - 1))

-- what an answer to a get means. old and new are the place's numbers of failures before and after the get
abbrev pub AnswersGet : (Path → Option (List ℕ) → Type 0) → Path → ℕ → ℕ → PlaceAnswer → Type 0
AnswersGet may path old new (File bytes) = may path (Some bytes.items)
AnswersGet may path old new NotFound = may path None
AnswersGet may path old new Failed = (old < new) ⊎ (8 ≤ old)

-- the place of index k has a first wrong file, unless it had failed 8 times before
abbrev pub IsBlamed : {S : Type 0} → Places S → Places S → ℕ → Type 0
IsBlamed {S} old new k =
    (d : Place S) → (get_or old.list.items k d).failures < 8 → IsSome (get_or new.list.items k d).first_wrong

-- all places have
abbrev pub AreBlamed : {S : Type 0} → Places S → Places S → Type 0
AreBlamed old new = (k : ℕ) → k < length old.list.items → IsBlamed old new k

-- the answer for a tile in which a tree ends: one that the place gave before and that is kept, or else the answer to a get
abbrev pub AnswersEnd : {S : Type 0} → (S → Path → Option (List ℕ) → Type 0) → ℕ → Path → Places S → Places S →
    PlaceAnswer → Type 0
AnswersEnd {S} may index path old new answer =
    IsKeptAnswer old.ends.tiles.items index path answer
    ⊎ ((d : Place S) → AnswersGet (may (get_or old.list.items index d).source) path
    (get_or old.list.items index d).failures (get_or new.list.items index d).failures answer)

-- by what was said for the path, the place may give it. If the get failed, the place has failures
abbrev pub IsSaidBy : (Path → Option (List ℕ) → Type 0) → ℕ → Path → Option (Option (List ℕ)) → Type 0
IsSaidBy may failures path None = 1 ≤ failures
IsSaidBy may failures path (Some answer) = may path answer

-- each answer that is kept was kept before, or is one that its place might give then
pub record AddsAnswers {S : Type 0} (may : S → Path → Option (List ℕ) → Type 0) (old new : Places S) : Type 0 where
  pub each :
      (k : ℕ) (path : Path) (answer : PlaceAnswer) (d : Place S) → IsKeptAnswer new.ends.tiles.items k path answer →
      IsKeptAnswer old.ends.tiles.items k path answer
      ⊎ IsSaidBy (may (get_or old.list.items k d).source) (get_or new.list.items k d).failures path (said answer)

module _ {S : Type 0} (may : S → Path → Option (List ℕ) → Type 0) (failed : S → ℕ) (asked : S → Option (List Path)) where
  -- all requests to a place were for such paths. Each failure is counted, in total and for this run. A place that had failed
  -- 8 times got no request
  pub record IsAskedFor (so : Path → Type 0) (old new : Place S) : Type 0 where
    pub later : StaysWithin (may old.source) (may new.source)
    pub paths : List Path
    pub recorded : AddsToRecord (asked old.source) (asked new.source) paths
    pub are_so : All so paths
    pub more : old.failures ≤ new.failures
    pub counted : RoseTimes (new.failures - old.failures) (failed old.source) (failed new.source)
    pub given_up : 8 ≤ old.failures → new.source ≡ old.source
    pub first : IsSome old.first_wrong → new.first_wrong ≡ old.first_wrong
    pub noted : old.failures < new.failures → IsSome new.first_wrong

  -- a place failed
  pub record APlaceFailed (old new : Places S) : Type 0 where
    pub index : ℕ
    pub none : Place S
    pub rose : (get_or old.list.items index none).failures < (get_or new.list.items index none).failures

  -- all requests to the places were for such paths
  pub record AsksEach (so : Path → Type 0) (old new : Places S) : Type 0 where
    pub count : length new.list.items ≡ length old.list.items
    pub each : (k : ℕ) (d : Place S) → IsAskedFor so (get_or old.list.items k d) (get_or new.list.items k d)

  -- all requests to the places were for such paths. The record that a place failed is kept, and so are the answers for the tiles
  -- in which the two trees end. A new one is one that the place might give
  pub record AsksPlaces (so : Path → Type 0) (old new : Places S) : Type 0 where
    pub count : length new.list.items ≡ length old.list.items
    pub each : (k : ℕ) (d : Place S) → IsAskedFor so (get_or old.list.items k d) (get_or new.list.items k d)
    pub kept : IsTrue old.has_failed → IsTrue new.has_failed
    pub blames : IsTrue new.has_failed → IsFalse old.has_failed → APlaceFailed old new
    pub spares : IsFalse new.has_failed → (k : ℕ) (d : Place S) →
        (get_or new.list.items k d).failures ≡ (get_or old.list.items k d).failures
    pub still : KeepsAnswers old.ends new.ends
    pub answered : AddsAnswers may old new
