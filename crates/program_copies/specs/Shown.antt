-- Entries of a log that were verified before they were written: each one is in a bundle that leads up to the root.
use Rattle.std.specs.Prelude.{◌≡◌, ℕ, ◌+◌, ◌-◌, ◌*◌, ◌/◌, ◌%◌, ◌<◌, ◌≤◌, List, [], length, get_or, Bool, Option}
use Rattle.std.specs.Io.KnownBytes.{Appends}
use Rattle.byte_streams.specs.Streams.{AppendsPrefix}
use Rattle.tlog_tiles.specs.Bundle.{IsBundle}
use Rattle.log_reader.specs.EdgeRows.{Edge}
use Rattle.log_reader.specs.Ways.{IsShownBundle}
use Rattle.tlog_hash.specs.Rows.{part}
use Rattle.program_copies.specs.Texts.{bundle_width, entries_text}

-- the number "next" is after "at", in the same bundle or at its end, and is at most "to"
pub record IsNext (at to next : ℕ) : Type 0 where
  pub rises : at < next
  pub within : next ≤ to
  pub same : next ≤ 256 * (at / 256) + 256

-- for each list of entries: if the bytes are its bundle with entry "at", the entries of this bundle from "at" up to "next" were
-- written
abbrev pub AppendsFrom : List ℕ → ℕ → ℕ → Bool → Option (List ℕ) → Option (List ℕ) → ℕ → Type 0
AppendsFrom bytes size at base64 old new next =
    (entries : List (List ℕ)) → IsBundle (bundle_width size (at / 256)) bytes entries →
    Appends old new (entries_text base64 (part (at % 256) (next - at) entries))

-- the same, with a prefix of their text
abbrev pub BeginsFrom : List ℕ → ℕ → ℕ → ℕ → Bool → Option (List ℕ) → Option (List ℕ) → Type 0
BeginsFrom bytes size at to base64 old new =
    (entries : List (List ℕ)) → IsBundle (bundle_width size (at / 256)) bytes entries →
    (next : ℕ) × IsNext at to next
    × AppendsPrefix old new (entries_text base64 (part (at % 256) (next - at) entries))

module _ (digest : List ℕ → List ℕ) (edge : Edge) where
  -- the entry of that number: a shown bundle has it at its index
  pub record IsShownEntry (number : ℕ) (entry : List ℕ) : Type 0 where
    pub bytes : List ℕ
    pub shown : IsShownBundle digest edge (number / 256) bytes
    pub width : ℕ
    pub entries : List (List ℕ)
    pub is_bundle : IsBundle width bytes entries
    pub within : number % 256 < length entries
    pub entry_is : get_or entries (number % 256) [] ≡ entry

  -- the entries are those from that number on
  abbrev pub AreShownFrom : ℕ → List (List ℕ) → Type 0
  AreShownFrom from entries =
      (k : ℕ) → k < length entries → IsShownEntry (from + k) (get_or entries k [])

  -- the entries from the first number up to the second were written
  pub record WritesShown (base64 : Bool) (from to : ℕ) (old new : Option (List ℕ)) : Type 0 where
    pub entries : List (List ℕ)
    pub count : from + length entries ≡ to
    pub shown : AreShownFrom from entries
    pub written : Appends old new (entries_text base64 entries)

  -- a prefix of the text of the first of them was written
  pub record WritesSomeShown (base64 : Bool) (from to : ℕ) (old new : Option (List ℕ)) : Type 0 where
    pub entries : List (List ℕ)
    pub within : from + length entries ≤ to
    pub shown : AreShownFrom from entries
    pub written : AppendsPrefix old new (entries_text base64 entries)
