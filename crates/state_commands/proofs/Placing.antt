-- A pull from a source that is at the place of the words.
use Rattle.std.proofs.Common.{◌≡◌, ℕ, List, None, Result, Err, inl, inr, refl}
use Rattle.signed_note.specs.Keys.{Key}
use Rattle.mirror_model.specs.View.{View}
use Rattle.mirror_sources.specs.Source.{IsShortAnswer}
use Rattle.mirror_pull.specs.declared.fault.PullFault.{PullFault}
use Rattle.mirror_pull.specs.declared.fault.PullFault.TheVariants as pull
use Rattle.mirror_pull.specs.declared.pulling.Pulled.{Pulled}
use Rattle.program_words.specs.declared.place.Place.{Place}
use Rattle.program_io.specs.PlaceWords.{PlaceWords, ServerWords, words_of}
use Rattle.state_commands.specs.Pulls.{ReadsPlace, ReadsSource}

module _ (digest : List ℕ → List ℕ) (keys : List Key) (place : Place) (start v : View) where
  -- memory was refused before the source was read
  pub nothing_read : ReadsPlace digest keys place start v (Err pull.OutOfMemory)
  nothing_read = record { source = words_of place; named = refl; follows = λ other. absurd (other refl) }

  module _ (source : PlaceWords) (answer : Result Pulled PullFault) where
    -- the source is a folder
    pub folder_read : (folder : List ℕ) → source ≡ inl folder →
        ReadsSource digest keys place start v source (λ path found. IsShortAnswer 16_777_472 found) None None answer →
        ReadsPlace digest keys place start v answer
    folder_read folder is h = record { source = source; named = h.named; follows = rw is (λ other. h.follows) }

    -- the source is a server
    pub server_read : (server : ServerWords) → source ≡ inr server →
        ReadsSource digest keys place start v source (λ path found. IsShortAnswer 16_785_664 found) None None answer →
        ReadsPlace digest keys place start v answer
    server_read server is h = record { source = source; named = h.named; follows = rw is (λ other. h.follows) }
