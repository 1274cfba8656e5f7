-- The places of the words so far, and one more.
use Rattle.std.proofs.Common.{◌≡◌, ℕ, ◌+◌, ◌<◌, ◌≤◌, List, [], ◌∷◌, ◌++◌, length, get_or, take, IfOk, Result, Ok, Err, refl, sym, subst}
use Rattle.std.specs.Prelude.{None}
use Rattle.std.proofs.lemmas.List.{take_all, take_more}
use Rattle.copy_places.specs.declared.places.Places.{Places}
use Rattle.copy_places.specs.declared.place.Place.{Place as Asked}
use Rattle.program_words.specs.declared.place.Place.{Place}
use Rattle.program_io.specs.PlaceWords.{PlaceWords, words_of}
use Rattle.copy_commands.specs.Places.{ArePlacesOf}

module _ {S : Type 0} (at : PlaceWords → S → Type 0) where
  -- the place of the next word comes last
  one_more : (words : List Place) (places : List (Asked S)) → ArePlacesOf at words places → (word : Place) (source : S) →
      at (words_of word) source →
      ArePlacesOf at (words ++ word ∷ []) (places ++ record { source = source; failures = 0; first_wrong = None } ∷ [])
  one_more [] [] are word source is = (record { is_at = is; failures = refl; first_wrong = refl }, tt)
  one_more (first ∷ words) (place ∷ places) are word source is = (are.0, one_more words places are.1 word source is)
  one_more [] (place ∷ places) are word source is = absurd are
  one_more (first ∷ words) [] are word source is = absurd are

  module _ {E : Type 0} (words : List Place) (i : ℕ) where
    -- all words were taken
    pub all_named : length words ≤ i → (all : Result (Places S) E) →
        IfOk all (λ places. ArePlacesOf at (take i words) places.list.items) →
        IfOk all (λ places. ArePlacesOf at words places.list.items)
    all_named least (Ok all) are = subst (λ l. ArePlacesOf at l all.list.items) (take_all i words least) are
    all_named least (Err e) are = tt

    module _ (d : Place) (within : i < length words) (before : Result (Places S) E) (place : Result S E)
        (is : IfOk place (λ source. at (words_of (get_or words i d)) source))
        (are : IfOk before (λ places. ArePlacesOf at (take i words) places.list.items)) where
      pub named_more : (after : Result (Places S) E) →
          IfOk after (λ all. (old : Places S) × (source : S) × (before ≡ Ok old) × (place ≡ Ok source)
          × (all.list.items ≡ old.list.items ++ record { source = source; failures = 0; first_wrong = None } ∷ [])) →
          IfOk after (λ places. ArePlacesOf at (take (i + 1) words) places.list.items)
      named_more (Ok all) h =
          let had : ArePlacesOf at (take i words) h.0.list.items =
          subst (λ (r : Result (Places S) E). IfOk r (λ places. ArePlacesOf at (take i words) places.list.items)) h.2 are in
          let source_is : at (words_of (get_or words i d)) h.1 =
          subst (λ (r : Result S E). IfOk r (λ source. at (words_of (get_or words i d)) source)) h.3 is in
          let more = one_more (take i words) h.0.list.items had (get_or words i d) h.1 source_is in
          subst (λ l. ArePlacesOf at l all.list.items) (sym (take_more words i d within))
          (subst (λ l. ArePlacesOf at (take i words ++ get_or words i d ∷ []) l) (sym h.4) more)
      named_more (Err e) h = tt
