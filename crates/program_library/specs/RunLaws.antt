-- Consequences of a run under the keys of a key file, and of a pull.
use Rattle.std.specs.Prelude.{ℕ, List, Option, Result, Some, Ok, Contains, map}
use Rattle.signed_note.specs.Keys.{Key}
use Rattle.signed_note.specs.KeyKinds.{Secret, secret_key}
use Rattle.signed_note.specs.KeyFiles.{IsKeyFile}
use Rattle.signed_note.specs.Verifiers.{JoinsPins, key_of}
use Rattle.signed_note.specs.declared.key_line.KeyLine.{KeyLine}
use Rattle.mirror_model.specs.View.{View}
use Rattle.mirror_files.specs.Loading.{Loads}
use Rattle.mirror_files.specs.StateText.{StateText}
use Rattle.mirror_pull.specs.declared.fault.PullFault.{PullFault}
use Rattle.mirror_pull.specs.declared.pulling.Pulled.{Pulled}
use Rattle.program_io.specs.Named.{NamedFile}
use Rattle.program_words.specs.declared.place.Place.{Place}
use Rattle.state_commands.specs.Builds.{FindsSigner}
use Rattle.state_commands.specs.Pulls.{PullsFromFile}

-- the signing key of a key file is among the keys of its lines, after the pins were joined
abbrev pub SignersAreKeys : Type 0
SignersAreKeys =
    (bytes : List ℕ) (lines joined : List KeyLine) (signer : Secret) →
    IsKeyFile bytes lines →
    JoinsPins lines joined →
    FindsSigner bytes (Some signer) →
    Contains (map key_of joined) (secret_key signer)

-- the state of a mirror after a pull loads as that mirror, under the same origin and keys, for a complete pull and for one that
-- ended early
abbrev pub PulledStatesAreLoaded : Type 0
PulledStatesAreLoaded =
    (digest : List ℕ → List ℕ) (origin : List ℕ) (keys : List Key) (state : Option (List ℕ))
    (place : Place) (printed : Option (List NamedFile)) (v : View)
    (answer : Result Pulled PullFault) (text : List ℕ) →
    PullsFromFile digest origin keys state place printed v answer →
    StateText v text → Loads digest origin keys text (Ok v)
