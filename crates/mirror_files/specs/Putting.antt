-- How a text is assembled on its way to a writer. The contracts of private functions cite these words; the definition
-- of a saver's answers needs none of them.
use Rattle.std.specs.Prelude.{◌≡◌, ℕ, ◌+◌, ◌*◌, List, [], ◌∷◌, ◌++◌, length, take, Option, Result, Ok, Err}
use Rattle.std.specs.Prelude.{OnOk}
use Rattle.std.specs.Io.KnownBytes.{Appends}
use Rattle.std.specs.Borrow.{Bor}
use Rattle.base64.specs.GeneralPurpose.{IsBytes}
use Rattle.sha2.specs.Sha256.{sha256}
use Rattle.sha2.specs.Hashers.{Holds256}
use Rattle.byte_streams.specs.Streams.{AppendsPrefix}
use Rattle.byte_streams.specs.declared.fault.StreamFault.{StreamFault}
use Rattle.mirror_files.specs.StateText.{Parts, body_text}
use Rattle.mirror_files.specs.declared.page.Page.{Page}

-- the text of these parts, with its digest
abbrev pub state_text : Parts → List ℕ
state_text parts = body_text parts ++ sha256 (body_text parts)

-- two hashes after a number that decides the order of most pairs
abbrev pub KeyedPair : Type 0
KeyedPair = ℕ × (Bor (List ℕ) × Bor (List ℕ))

-- the bytes of two hashes
abbrev pub pair_bytes : KeyedPair → List ℕ
pair_bytes pair = pair.1.0.now ++ pair.1.1.now

-- the number whose digits in base 256 are those of a number and then the bytes
abbrev pub with_bytes : ℕ → List ℕ → ℕ
with_bytes n [] = n
with_bytes n (byte ∷ rest) = with_bytes (256 * n + byte) rest

-- the number has the first eight bytes of the first hash as its digits. That hash has 32 bytes, and the type of the
-- second one gives its length
pub record IsKeyed (pair : KeyedPair) : Type 0 where
  pub sized : length pair.1.0.now ≡ 32
  pub small : IsBytes pair.1.0.now
  pub key_is : pair.0 ≡ with_bytes 0 (take 8 pair.1.0.now)

-- since the start a prefix of the text was written, and the rest of it is held back
pub record IsUnderWay (start now : Option (List ℕ)) (held text : List ℕ) : Type 0 where
  pub written : List ℕ
  pub appended : Appends start now written
  pub text_is : text ≡ written ++ held

-- the piece continues a text that is under way; if a write fails, a prefix of the text was written
abbrev pub Writes :
    Option (List ℕ) → Option (List ℕ) → List ℕ → List ℕ → List ℕ → Result (Unit {0}) StreamFault →
    Type 0
Writes old new held held' piece (Ok done) =
    (start : Option (List ℕ)) (text : List ℕ) → IsUnderWay start old held text →
    IsUnderWay start new held' (text ++ piece)
Writes old new held held' piece (Err fault) =
    (start : Option (List ℕ)) (text : List ℕ) → IsUnderWay start old held text →
    AppendsPrefix start new (text ++ piece)

-- the effect of a page's writer with a piece: the piece continues the text, and the page's digest is that of the text
-- followed by the piece
pub record Puts (old new : Option (List ℕ)) (page page' : Page) (piece : List ℕ)
    (answer : Result (Unit {0}) StreamFault)
    : Type 0 where
  pub writes : Writes old new page.held.items page'.held.items piece answer
  pub hashes : OnOk answer
      ((text : List ℕ) → Holds256 page.digest text → Holds256 page'.digest (text ++ piece))

-- a complete text was written, or after a fault a prefix of it
abbrev pub WritesText : Option (List ℕ) → Option (List ℕ) → List ℕ → Result (Unit {0}) StreamFault →
    Type 0
WritesText old new text (Ok done) = Appends old new text
WritesText old new text (Err fault) = AppendsPrefix old new text

-- the text that is under way ends with its digest
abbrev pub EndsText : Option (List ℕ) → Option (List ℕ) → Page → Result (Unit {0}) StreamFault →
    Type 0
EndsText old new page answer =
    (start : Option (List ℕ)) (text : List ℕ) → IsUnderWay start old page.held.items text →
    Holds256 page.digest text → WritesText start new (text ++ sha256 text) answer
