-- The characters that a note and the name of a key may have (C2SP signed-note, "Format" and
-- "Signatures").
use Rattle.std.specs.Prelude.{◌≡◌, ℕ, ◌<◌, Bool, not, ◌||◌, ◌==◌, nat_le, List, [], ◌∷◌, ◌++◌}
use Rattle.std.specs.Prelude.{length}
use Rattle.std.specs.List.{AllPass}
use Rattle.std.specs.Char.{is_whitespace}
use Rattle.std.specs.Str.{IsUtf8, chars}

-- the line feed, U+000A
abbrev pub newline : ℕ
newline = 10

-- the space, U+0020
abbrev pub space : ℕ
space = 32

-- a note may have the character: a newline, or a character from U+0020 on
abbrev pub is_note_char : ℕ → Bool
is_note_char c = c == newline || nat_le space c

-- the bytes are UTF-8 and have only characters that a note may have
pub record IsNoteText (bytes : List ℕ) : Type 0 where
  pub utf8 : IsUtf8 bytes
  pub characters : AllPass is_note_char (chars bytes)

-- the last character of the text is a newline
abbrev pub EndsInNewline : List ℕ → Type 0
EndsInNewline text = (front : List ℕ) × (text ≡ front ++ newline ∷ [])

-- the name of a key may have the character: not Unicode white space, and not a plus (U+002B)
abbrev pub is_name_char : ℕ → Bool
is_name_char c = not (is_whitespace c || c == 43)

-- the name of a key: not empty, and only characters that it may have
pub record IsKeyName (name : List ℕ) : Type 0 where
  pub utf8 : IsUtf8 name
  pub some : 0 < length name
  pub characters : AllPass is_name_char (chars name)
