-- Laws of items: the hashes and entries of their bytes agree with the grammars.
use Rattle.std.specs.Prelude.{◌≡◌, ℕ, ◌*◌, List, length}
use Rattle.tlog_tiles.specs.Bundle.{IsBundle}
use Rattle.tlog_tiles.specs.Row.{IsRow}
use Rattle.mirror_model.specs.Item.{row_of, entries_of}

-- bytes of the right length are a row, and row_of gives its hashes
abbrev pub RowOfIsRow : Type 0
RowOfIsRow =
    (width : ℕ) (bytes : List ℕ) → length bytes ≡ 32 * width → IsRow width bytes (row_of bytes)

-- row_of gives the hashes of a row, so bytes are at most one row
abbrev pub RowIsRowOf : Type 0
RowIsRowOf =
    (width : ℕ) (bytes : List ℕ) (row : List (List ℕ)) → IsRow width bytes row → row ≡ row_of bytes

-- entries_of gives the entries of a bundle
abbrev pub BundleIsEntriesOf : Type 0
BundleIsEntriesOf =
    (width : ℕ) (bytes : List ℕ) (entries : List (List ℕ)) → IsBundle width bytes entries →
    entries ≡ entries_of width bytes
