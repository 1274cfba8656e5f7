-- The places that the words of a command name.
use Rattle.std.specs.Prelude.{◌≡◌, List, [], ◌∷◌, None, ⊤}
use Rattle.copy_places.specs.declared.place.Place.{Place as Asked}
use Rattle.program_words.specs.declared.place.Place.{Place}
use Rattle.program_io.specs.PlaceWords.{PlaceWords, words_of}

module _ {S : Type 0} (at : PlaceWords → S → Type 0) where
  -- the place is that of the word, before its first get
  pub record IsPlaceOf (word : Place) (place : Asked S) : Type 0 where
    pub is_at : at (words_of word) place.source
    pub failures : place.failures ≡ 0
    pub first_wrong : place.first_wrong ≡ None

  -- the places are those of the words, each of them and in order, before their first gets
  abbrev pub ArePlacesOf : List Place → List (Asked S) → Type 0
  ArePlacesOf [] [] = ⊤
  ArePlacesOf (word ∷ words) (place ∷ places) = IsPlaceOf word place × ArePlacesOf words places
  ArePlacesOf words places = ⊥
