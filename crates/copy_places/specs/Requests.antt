-- The requests to the places of a run: what the places may give, and whether one failed.
use Rattle.std.specs.Prelude.{◌≡◌, ◌⊎◌, ℕ, ◌<◌, ◌≤◌, List, get_or, length, Option, Some, None, ⊤}
use Rattle.tlog_tiles.specs.declared.paths.Path.{Path}
use Rattle.tlog_tiles.specs.declared.paths.Path.TheVariants.{Checkpoint}
use Rattle.copy_places.specs.PlaceGets.{AsksEach}
use Rattle.copy_places.specs.declared.place.Place.{Place}
use Rattle.copy_places.specs.declared.places.Places.{Places}

-- a place failed, or had been given up after 8 failures
pub record PlaceFails {S : Type 0} (old new : Places S) : Type 0 where
  pub index : ℕ
  pub listed : index < length old.list.items
  pub none : Place S
  pub failed : ((get_or old.list.items index none).failures < (get_or new.list.items index none).failures)
      ⊎ (8 ≤ (get_or old.list.items index none).failures)

module _ {S : Type 0} (may : S → Path → Option (List ℕ) → Type 0) where
  -- a place may give the note as its checkpoint
  pub record MayGiveNote (places : Places S) (note : List ℕ) : Type 0 where
    pub index : ℕ
    pub listed : index < length places.list.items
    pub gives : (none : Place S) → may (get_or places.list.items index none).source Checkpoint (Some note)

  -- the note is the given one, or else one that a place may give
  abbrev pub IsGivenOrMayGive : Option (List ℕ) → Places S → List ℕ → Type 0
  IsGivenOrMayGive None places note = MayGiveNote places note
  IsGivenOrMayGive (Some given) places note = note ≡ given

-- the places may get requests for any files
abbrev pub AsksAny : {S : Type 0} → (S → Path → Option (List ℕ) → Type 0) → (S → ℕ) → (S → Option (List Path)) →
    Places S → Places S → Type 0
AsksAny may failed asked old new = AsksEach may failed asked (λ path. ⊤) old new
