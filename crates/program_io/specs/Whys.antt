-- The line that says why a command failed. Only the contract of a private function cites `PrintsLine`.
use Rattle.std.specs.Prelude.{◌⊎◌, ℕ, List, Option, Bool, IsTrue}
use Rattle.std.specs.Io.KnownBytes.{Keeps}
use Rattle.byte_streams.specs.Streams.{AppendsPrefix}
use Rattle.program_io.specs.FileWhy.{IsWhyLine}

-- one line was written, or a prefix of it
abbrev pub WritesWhy : Option (List ℕ) → Option (List ℕ) → Type 0
WritesWhy old new = (line : List ℕ) × IsWhyLine line × AppendsPrefix old new line

-- nothing was written, or one line
abbrev pub PrintsLine : Option (List ℕ) → Option (List ℕ) → Type 0
PrintsLine old new = Keeps old new ⊎ WritesWhy old new

-- nothing was written; or one line was, and it was asked for
abbrev pub PrintsWhy : Bool → Option (List ℕ) → Option (List ℕ) → Type 0
PrintsWhy asked old new = Keeps old new ⊎ (IsTrue asked × WritesWhy old new)
