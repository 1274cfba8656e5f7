-- Texts that may be signed, and the notes that are made of them. Only contracts of private functions
-- cite `note_of_line`.
use Rattle.std.specs.Prelude.{ℕ, ◌≤◌, List, [], ◌∷◌, ◌++◌, length}
use Rattle.signed_note.specs.Names.{newline, space, IsNoteText, EndsInNewline}
use Rattle.signed_note.specs.Notes.{SignatureParts, em_dash}
use Rattle.signed_note.specs.Hmac.{hmac}
use Rattle.signed_note.specs.KeyKinds.{Secret}
use Rattle.signed_note.specs.declared.key_limits.TheConstants.{MAX_TEXT_LEN}

-- the text may be signed: it may occur in a note, ends in a newline, and leaves room for a
-- signature line
pub record IsLawfulText (text : List ℕ) : Type 0 where
  pub readable : IsNoteText text
  pub ended : EndsInNewline text
  pub short : length text ≤ MAX_TEXT_LEN

-- the signature line of a shared key for a text: its name, its id and its MAC of the text
abbrev pub signed_line : List ℕ → Secret → SignatureParts
signed_line text k = record { name = k.name; id = k.id; signature = hmac k.secret text }

-- a text, a blank line, and a signature line with that name and base64
abbrev pub note_of_line : List ℕ → List ℕ → List ℕ → List ℕ
note_of_line text name encoded =
    text ++ (newline ∷ (em_dash ++ (space ∷ (name ++ (space ∷ (encoded ++ newline ∷ []))))))
