-- The line that says why a command failed.
use Rattle.std.specs.Prelude.{◌≡◌, ℕ, ◌<◌, ◌≤◌, List, [], ◌∷◌, ◌++◌, length}
use Rattle.std.specs.Char.{is_control}
use Rattle.std.specs.Str.{NoCharPasses}
use Rattle.program_io.specs.declared.file_why.TheConstants.{MAX_WHY_LEN}

-- one line with its newline, within the greatest length; the newline is its only control
-- character
pub record IsWhyLine (line : List ℕ) : Type 0 where
  pub text : List ℕ
  pub plain : NoCharPasses is_control text
  pub is_line : line ≡ text ++ 10 ∷ []
  pub short : length line ≤ MAX_WHY_LEN

-- the beginning of such a line
pub record IsWhyFront (text : List ℕ) : Type 0 where
  pub plain : NoCharPasses is_control text
  pub short : length text < MAX_WHY_LEN
