-- The conditions on a full file: its row, or the leaf hashes of its bundle, folds to a hash.
use Rattle.std.specs.Prelude.{◌≡◌, ℕ, List, map}
use Rattle.tlog_hash.specs.Tree.{fold_of, leaf_hash}
use Rattle.tlog_tiles.specs.Bundle.{IsBundle}
use Rattle.tlog_tiles.specs.Row.{IsRow}
use Rattle.log_reader.specs.declared.verify.FullFile.{FullFile}
use Rattle.log_reader.specs.declared.verify.FullFile.TheVariants.{Tile, Bundle}

module _ (digest : List ℕ → List ℕ) where
  -- the bytes are a bundle of that width with these leaf hashes
  pub record HasLeaves (width : ℕ) (bytes : List ℕ) (row : List (List ℕ)) : Type 0 where
    pub entries : List (List ℕ)
    pub is_bundle : IsBundle width bytes entries
    pub row_is : row ≡ map (leaf_hash digest) entries

  -- the row of a full file
  abbrev pub IsRowOf : FullFile → List ℕ → List (List ℕ) → Type 0
  IsRowOf Tile bytes row = IsRow 256 bytes row
  IsRowOf Bundle bytes row = HasLeaves 256 bytes row

  -- the bytes of a full file verify under the hash
  pub record Verifies (kind : FullFile) (hash bytes : List ℕ) (row : List (List ℕ)) : Type 0 where
    pub is_row : IsRowOf kind bytes row
    pub folds : fold_of digest row ≡ hash

  -- the row of a full tile that verifies under the hash
  pub record IsVerifiedRow (hash : List ℕ) (row : List (List ℕ)) : Type 0 where
    pub bytes : List ℕ
    pub verifies : Verifies Tile hash bytes row

  -- the bytes of a full bundle that verifies under the hash
  pub record IsVerifiedBundle (hash bytes : List ℕ) : Type 0 where
    pub row : List (List ℕ)
    pub verifies : Verifies Bundle hash bytes row
