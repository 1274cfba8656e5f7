-- Entries in order, each after its length of two bytes, and the answers of a reader of entries.
use Rattle.std.specs.Prelude.{◌≡◌, ℕ, ◌<◌, ◌^◌, List, length, Result, Ok, Err, All, ⊤}
use Rattle.tlog_tiles.specs.Bundle.{bundle_text}
use Rattle.state_commands.specs.declared.entries.EntriesFault.{EntriesFault}
use Rattle.state_commands.specs.declared.entries.EntriesFault.TheVariants.{BundleShort, ReadFault}
use Rattle.state_commands.specs.declared.entries.EntriesFault.TheVariants.{OutOfMemory}

-- the bytes are these entries, of any number; each follows its length in two bytes, big-endian
pub record AreEntries (bytes : List ℕ) (entries : List (List ℕ)) : Type 0 where
  pub fits : All (λ e. length e < 2 ^ 16) entries
  pub text : bytes ≡ bundle_text entries

-- when a reader of entries may return each answer
abbrev pub ReadsEntries : List ℕ → Result (List (List ℕ)) EntriesFault → Type 0
ReadsEntries bytes (Ok entries) = AreEntries bytes entries
ReadsEntries bytes (Err BundleShort) = (entries : List (List ℕ)) → ¬ AreEntries bytes entries
ReadsEntries bytes (Err ReadFault) = ⊤
ReadsEntries bytes (Err OutOfMemory) = ⊤
