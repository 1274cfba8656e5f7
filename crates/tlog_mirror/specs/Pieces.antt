-- Bytes that are gathered before they are written. Only the contracts of private functions cite these words.
use Rattle.std.specs.Prelude.{◌≡◌, ℕ, List, ◌++◌, Option}
use Rattle.std.specs.Io.KnownBytes.{Appends}

-- the written bytes and then the bytes that are held back are the text
pub record Sends (old new : Option (List ℕ)) (held text : List ℕ) : Type 0 where
  pub bytes : List ℕ
  pub appends : Appends old new bytes
  pub is : bytes ++ held ≡ text
