-- The lines about places at which something was wrong.
use Rattle.std.specs.Prelude.{◌≡◌, ℕ, List, All}
use Rattle.std.specs.List.{flat_map}
use Rattle.program_io.specs.FileWhy.{IsWhyLine}

-- the text consists of lines with reasons
pub record AreWhyLines (text : List ℕ) : Type 0 where
  pub lines : List (List ℕ)
  pub each : All IsWhyLine lines
  pub text_is : text ≡ flat_map (λ (line : List ℕ). line) lines
