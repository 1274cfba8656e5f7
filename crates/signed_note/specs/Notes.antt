-- Signed notes (C2SP signed-note, "Format" and "Signatures"). Only contracts of private functions
-- cite `IsBlank` and `is_accepted_by`.
use Rattle.std.specs.Prelude.{◌≡◌, ◌≢◌, ℕ, ◌+◌, ◌<◌, ◌≤◌, ◌^◌, Bool, IsTrue, List, [], ◌∷◌, ◌++◌}
use Rattle.std.specs.Prelude.{length, slice_index, All, Any, ◌==◌, ◌&&◌}
use Rattle.std.specs.List.{flat_map}
use Rattle.std.specs.Str.{bytes_eq}
use Rattle.base64.specs.GeneralPurpose.{IsBytes}
use Rattle.byteorder.specs.Endian.{big_bytes}
use Rattle.tlog_text.specs.Hash.{base64_of}
use Rattle.signed_note.specs.Names.{newline, space, IsNoteText, EndsInNewline, IsKeyName}
use Rattle.signed_note.specs.Keys.{Key}
use Rattle.signed_note.specs.declared.limits.TheConstants.{MAX_LINES, MAX_NOTE_LEN}

-- a signature line: the name of its key, its key id, and its signature
pub record SignatureParts : Type 0 where
  pub name : List ℕ
  pub id : ℕ
  pub signature : List ℕ

-- a note: all its bytes, its text and its signature lines
pub record NoteParts : Type 0 where
  pub bytes : List ℕ
  pub text : List ℕ
  pub lines : List SignatureParts

-- the em dash (U+2014) that begins a signature line
abbrev pub em_dash : List ℕ
em_dash = 226 ∷ 128 ∷ 148 ∷ []

-- the bytes that a signature line encodes: the key id in four bytes, big-endian, then the signature
abbrev pub signed_bytes : SignatureParts → List ℕ
signed_bytes line = big_bytes 4 line.id ++ line.signature

-- the text of a signature line: the em dash, the name of the key and the base64, with single spaces
-- between them
abbrev pub line_body : SignatureParts → List ℕ
line_body line = em_dash ++ space ∷ (line.name ++ space ∷ (base64_of (signed_bytes line)))

-- a signature line in a note, with its newline
abbrev pub line_text : SignatureParts → List ℕ
line_text line = line_body line ++ newline ∷ []

-- the line has the name of a key, an id of 32 bits and a signature that is not empty
pub record IsSignatureLine (line : SignatureParts) : Type 0 where
  pub name : IsKeyName line.name
  pub id : line.id < 2 ^ 32
  pub some : 0 < length line.signature
  pub bytes : IsBytes line.signature

-- the last blank line of the note separates its text, which ends in a newline, from its signature
-- part
pub record IsNoteSplit (bytes text signed : List ℕ) : Type 0 where
  pub whole : bytes ≡ text ++ newline ∷ signed
  pub ended : EndsInNewline text
  pub last : (before after : List ℕ) → newline ∷ signed ≢ before ++ newline ∷ (newline ∷ after)

-- two newlines in a row begin at that position
pub record IsBlank (bytes : List ℕ) (at : ℕ) : Type 0 where
  pub within : at + 1 < length bytes
  pub first : slice_index bytes at ≡ newline
  pub second : slice_index bytes (at + 1) ≡ newline

-- the bytes are a note with that text and those signature lines
pub record IsNote (bytes text : List ℕ) (lines : List SignatureParts) : Type 0 where
  pub short : length bytes ≤ MAX_NOTE_LEN
  pub readable : IsNoteText bytes
  pub split : IsNoteSplit bytes text (flat_map line_text lines)
  pub well_formed : All IsSignatureLine lines
  pub some : 1 ≤ length lines
  pub few : length lines ≤ MAX_LINES

-- the key accepts the line's signature over the text
pub record IsAcceptedBy (text : List ℕ) (line : SignatureParts) (key : Key) : Type 0 where
  pub name : key.name ≡ line.name
  pub id : key.id ≡ line.id
  pub signature : IsTrue (key.accepts text line.signature)

-- the note opens under the keys: some key accepts some line. All other lines are ignored
unfoldable pub Opens : List ℕ → List SignatureParts → List Key → Type 0
Opens text lines keys = Any (λ line. Any (λ key. IsAcceptedBy text line key) keys) lines

-- the test whether the key accepts the line's signature over the text
abbrev pub is_accepted_by : List ℕ → SignatureParts → Key → Bool
is_accepted_by text line key =
    bytes_eq key.name line.name && (key.id == line.id && key.accepts text line.signature)
