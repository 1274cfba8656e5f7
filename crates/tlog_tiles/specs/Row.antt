-- Rows of hashes (C2SP tlog-tiles, "Merkle Tree"), and the answers of a reader of rows.
use Rattle.std.specs.Prelude.{◌≡◌, ◌≢◌, ℕ, ◌*◌, List, length, Result, Ok, Err, All, ⊤}
use Rattle.std.specs.List.{flat_map}
use Rattle.tlog_tiles.specs.declared.row.RowFault.{RowFault}
use Rattle.tlog_tiles.specs.declared.row.RowFault.TheVariants.{RowLength, OutOfMemory}

-- the hashes of a row, in order
abbrev pub row_text : List (List ℕ) → List ℕ
row_text row = flat_map (λ hash. hash) row

-- the bytes are a row of these hashes of 32 bytes; the width is their number
pub record IsRow (width : ℕ) (bytes : List ℕ) (row : List (List ℕ)) : Type 0 where
  pub count : length row ≡ width
  pub sizes : All (λ hash. length hash ≡ 32) row
  pub text : bytes ≡ row_text row

-- when a reader of rows may return each answer
abbrev pub ReadsRow : ℕ → List ℕ → Result (List (List ℕ)) RowFault → Type 0
ReadsRow width bytes (Ok row) = IsRow width bytes row
ReadsRow width bytes (Err RowLength) = length bytes ≢ 32 * width
ReadsRow width bytes (Err OutOfMemory) = ⊤
