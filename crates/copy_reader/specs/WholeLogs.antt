-- A source that has a whole log under a checkpoint that opens (C2SP tlog-tiles). Only the contracts of private functions cite
-- `IsTrueRow`.
use Rattle.std.specs.Prelude.{◌≡◌, ℕ, ◌+◌, ◌*◌, ◌^◌, ◌≤◌, List, length, Option, Some}
use Rattle.signed_note.specs.Keys.{Key}
use Rattle.tlog_hash.specs.Rows.{level_row}
use Rattle.tlog_hash.specs.Tree.{mth}
use Rattle.tlog_tiles.specs.declared.paths.Path.{Path}
use Rattle.tlog_tiles.specs.declared.paths.Path.TheVariants.{Checkpoint}
use Rattle.mirror_model.specs.Heads.{IsOpenHead}
use Rattle.log_reader.specs.Holding.{IsSourceOf}

-- by its possible answers, the source has the whole log of these entries: its checkpoint is a note that opens under the keys, and
-- it has each file with its true bytes
pub record HasWholeLog (digest : List ℕ → List ℕ) (entries : List (List ℕ)) (origin : List ℕ) (keys : List Key)
    (note : List ℕ) (may : Path → Option (List ℕ) → Type 0) : Type 0 where
  pub is_head : IsOpenHead note origin keys (length entries) (mth digest entries)
  pub checkpoint : (answer : Option (List ℕ)) → may Checkpoint answer → answer ≡ Some note
  pub files : IsSourceOf digest entries may

-- the row has hashes of these entries, from the first entry of the tile on. Each hash covers 256^level entries
pub record IsTrueRow (digest : List ℕ → List ℕ) (entries : List (List ℕ)) (level index : ℕ) (row : List (List ℕ)) : Type 0
  where
    pub within : (256 * index + length row) * 256 ^ level ≤ length entries
    pub row_is : row ≡ level_row digest entries level (256 * index) (length row)
