-- Texts of lines that each end in a newline, U+000A (C2SP tlog-checkpoint, "Note text").
use Rattle.std.specs.Prelude.{◌≡◌, ℕ, ◌==◌, Bool, not, List, [], ◌∷◌, ◌++◌, IsTrue}
use Rattle.std.specs.List.{list_all, flat_map, AllByRecursion}

-- a newline
abbrev pub is_newline : ℕ → Bool
is_newline byte = byte == 10

-- the line with its newline
abbrev pub ended : List ℕ → List ℕ
ended line = line ++ 10 ∷ []

-- the text of these lines
abbrev pub text_of : List (List ℕ) → List ℕ
text_of lines = flat_map ended lines

-- the line, perhaps empty, contains no newline
abbrev pub IsTextLine : List ℕ → Type 0
IsTextLine line = IsTrue (list_all (λ byte. not (is_newline byte)) line)

-- The text is these lines, and nothing follows the last newline.
pub record HasLines (text : List ℕ) (lines : List (List ℕ)) : Type 0 where
  pub is_text : text ≡ text_of lines
  pub are_lines : AllByRecursion IsTextLine lines
