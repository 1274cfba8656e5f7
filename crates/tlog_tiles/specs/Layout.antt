-- The layout of entries in memory: the bytes of their levels, the entries in the form of bundles, and the end of each
-- entry. Contracts see a `LogFiles` as its `entries_in`. Its invariant is `IsLayout`, and `LogFiles::from_rows`
-- requires `AreFullRows`. Only the contracts of private functions cite the other words.
use Rattle.std.specs.Prelude.{◌≡◌, ℕ, ◌+◌, ◌-◌, ◌*◌, ◌/◌, ◌^◌, ◌<◌, ◌≤◌, List, [], ◌∷◌, length}
use Rattle.std.specs.Prelude.{get_or, All}
use Rattle.tlog_hash.specs.Tree.{mth}
use Rattle.tlog_hash.specs.Rows.{part, level_row}
use Rattle.tlog_tiles.specs.Row.{row_text}
use Rattle.tlog_tiles.specs.Bundle.{bundle_text, entry_text}

-- the end of each entry in the bytes of bundles that begin at a place
abbrev pub ends_of : ℕ → List (List ℕ) → List ℕ
ends_of from [] = []
ends_of from (entry ∷ entries) =
    (from + length (entry_text entry)) ∷ ends_of (from + length (entry_text entry)) entries

-- the entries of a text, each after two bytes of length, given the end of each
abbrev pub entries_in : ℕ → List ℕ → List ℕ → List (List ℕ)
entries_in from [] text = []
entries_in from (end ∷ ends) text =
    part (from + 2) (end - (from + 2)) text ∷ entries_in end ends text

-- a row of `len` hashes, or a list of `len` entries, has all hashes or entries of the file with that index and width
pub record HoldsFile (len index width : ℕ) : Type 0 where
  pub some : 1 ≤ width
  pub upto : width ≤ 256
  pub within : 256 * index + width ≤ len

-- for all hashes of a row with these bytes: the row has all hashes of the file, and the bytes are those of the file
abbrev pub IsRowPiece : List ℕ → ℕ → ℕ → List ℕ → Type 0
IsRowPiece row index width bytes =
    (hashes : List (List ℕ)) → All (λ hash. length hash ≡ 32) hashes → row ≡ row_text hashes →
    HoldsFile (length hashes) index width × (bytes ≡ row_text (part (256 * index) width hashes))

-- for all hashes of a row with these bytes: the row does not have all hashes of the file
abbrev pub LacksRowPiece : List ℕ → ℕ → ℕ → Type 0
LacksRowPiece row index width =
    (hashes : List (List ℕ)) → All (λ hash. length hash ≡ 32) hashes → row ≡ row_text hashes →
    HoldsFile (length hashes) index width → ⊥

-- for all entries of a text with these ends: the text has all entries of the file, and the bytes are those of the file
abbrev pub IsTextPiece : List ℕ → List ℕ → ℕ → ℕ → List ℕ → Type 0
IsTextPiece text ends index width bytes =
    (entries : List (List ℕ)) → text ≡ bundle_text entries → ends ≡ ends_of 0 entries →
    HoldsFile (length entries) index width
    × (bytes ≡ bundle_text (part (256 * index) width entries))

-- for all entries with these ends: they do not have all entries of the file
abbrev pub LacksTextPiece : List ℕ → ℕ → ℕ → Type 0
LacksTextPiece ends index width =
    (entries : List (List ℕ)) → ends ≡ ends_of 0 entries →
    HoldsFile (length entries) index width → ⊥

module _ (digest : List ℕ → List ℕ) (entries : List (List ℕ)) where
  -- the hashes of all full ranges of 256^level entries
  abbrev pub full_row : ℕ → List (List ℕ)
  full_row level = level_row digest entries level 0 (length entries / 256 ^ level)

  -- the bytes of the full rows of the first `count` levels, lowest first
  pub record AreFullRows (count : ℕ) (rows : List (List ℕ)) : Type 0 where
    pub count_is : length rows ≡ count
    pub each : (level : ℕ) → level < count → get_or rows level [] ≡ row_text (full_row level)

  -- the root, the rows, the text and the ends are those of the entries
  pub record IsLayout (root : List ℕ) (rows : List (List ℕ)) (text ends : List ℕ) : Type 0 where
    pub root_is : root ≡ mth digest entries
    pub rows_are : AreFullRows 8 rows
    pub text_is : text ≡ bundle_text entries
    pub ends_are : ends ≡ ends_of 0 entries

module _ (digest : List ℕ → List ℕ) where
  -- the root is the tree hash of the entries whose full rows of the lowest two levels are these
  abbrev pub IsRootOver : List (List ℕ) → List (List ℕ) → List ℕ → Type 0
  IsRootOver leaves above root =
      (entries : List (List ℕ)) → leaves ≡ full_row digest entries 0 →
      above ≡ full_row digest entries 1 → root ≡ mth digest entries

  -- the rows are the bytes of the full rows of all levels, for those entries
  abbrev pub AreRowsOver : List (List ℕ) → List (List ℕ) → List (List ℕ) → Type 0
  AreRowsOver leaves above rows =
      (entries : List (List ℕ)) → leaves ≡ full_row digest entries 0 →
      above ≡ full_row digest entries 1 → AreFullRows digest entries 8 rows
