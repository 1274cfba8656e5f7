-- A source over a list of entries: its model, and its answers.
use Rattle.std.specs.Prelude.{◌≡◌, ℕ, List, length, Contains, Option, Some, None}
use Rattle.signed_note.specs.Keys.{Key}
use Rattle.tlog_tiles.specs.declared.paths.Path.{Path}
use Rattle.tlog_tiles.specs.declared.paths.Path.TheVariants.{Checkpoint, Tile, Entries}
use Rattle.tlog_tiles.specs.Tiles.{IsWithin}
use Rattle.mirror_model.specs.Heads.{IsOpenHead}
use Rattle.mirror_sources.specs.Honest.{true_bytes, IsHonest}

-- a log of these entries with this checkpoint note, and the paths that were requested, oldest first
pub record AskedLog : Type 0 where
  pub entries : List (List ℕ)
  pub note : List ℕ
  pub asked : List Path

-- the note is a checkpoint of that size and root, and opens under any list of keys that has the key
abbrev pub OpensAnywhere : List ℕ → List ℕ → Key → ℕ → List ℕ → Type 0
OpensAnywhere note origin key size root =
    (keys : List Key) → Contains keys key → IsOpenHead note origin keys size root

module _ (digest : List ℕ → List ℕ) (entries : List (List ℕ)) where
  -- the answer for a path within the list is its true bytes, and for any other path None
  abbrev pub IsPartAnswer : Path → Option (List ℕ) → Type 0
  IsPartAnswer path (Some bytes) =
      IsWithin (length entries) path × (bytes ≡ true_bytes digest entries path)
  IsPartAnswer path None = ¬ IsWithin (length entries) path

  -- the answer for the checkpoint is the note; for a tile or bundle it is the true bytes or None
  abbrev pub IsListAnswer : List ℕ → Path → Option (List ℕ) → Type 0
  IsListAnswer note Checkpoint answer = answer ≡ Some note
  IsListAnswer note (Tile level index width) answer = IsPartAnswer (Tile level index width) answer
  IsListAnswer note (Entries index width) answer = IsPartAnswer (Entries index width) answer

  -- the source over the list is honest for the whole list, under any list of keys that has the key
  abbrev pub IsHonestAnywhere : List ℕ → Key → List ℕ → Type 0
  IsHonestAnywhere origin key note =
      (keys : List Key) → Contains keys key →
      IsHonest digest entries origin keys note (length entries) (IsListAnswer note)
