-- The files of a larger tree that a call puts or finds, and that are flushed before the checkpoint is put.
use Rattle.std.specs.Prelude.{◌≡◌, ◌≢◌, ℕ, ◌+◌, ◌-◌, ◌*◌, ◌<◌, ◌≤◌, List, Option}
use Rattle.tlog_shape.specs.Edge.{width_of, edge_index_of}
use Rattle.tlog_tiles.specs.declared.paths.Path.{Path}
use Rattle.tlog_tiles.specs.declared.paths.Path.TheVariants.{Checkpoint, Tile, Entries}
use Rattle.tlog_tiles.specs.Tiles.{IsWithin}
use Rattle.mirror_model.specs.Heads.{IsHead}
use Rattle.mirror_folders.specs.FileLaws.{IsFileOf}
use Rattle.mirror_folders.specs.Flushes.{Flushes, IsFlushedFirst}
use Rattle.copy_follow.specs.Growing.{IsBelow}

-- a tile or a bundle of a log of n entries that the first m entries do not have
pub record IsNewFileOf (m n : ℕ) (path : Path) : Type 0 where
  pub other : path ≢ Checkpoint
  pub file : IsFileOf n path
  pub new : ¬ IsWithin m path

-- a copy of m entries was brought to the note, a checkpoint. Each tile and bundle of its log that the first m entries do not have
-- was put or found in the call, and flushed to the device before the note was put
pub record FlushesNew (origin note : List ℕ) (m : ℕ) (old new : Option Flushes) : Type 0 where
  pub size : ℕ
  pub root : List ℕ
  pub is_head : IsHead note origin size root
  pub flushed : IsFlushedFirst (IsNewFileOf m size) old new

-- ---- the steps. Only the contracts of private functions cite these words

-- a full file of the tile of that level and index, or below it, that the first m entries do not have
abbrev pub IsNewBelow : ℕ → ℕ → ℕ → Path → Type 0
IsNewBelow m level index path = IsBelow level index path × ¬ IsWithin m path

-- such a file below one of the first "count" hashes of the row of a tile
abbrev pub IsNewInRow : ℕ → ℕ → ℕ → ℕ → Path → Type 0
IsNewInRow m level index count path = (k : ℕ) × (k < count) × IsNewBelow m (level - 1) (256 * index + k) path

-- such a file below the edge rows of n entries, of the levels from low on
abbrev pub IsNewInEdge : ℕ → ℕ → ℕ → Path → Type 0
IsNewInEdge m n low path =
    (level : ℕ) × (low ≤ level) × (level ≤ 7) × IsNewInRow m level (edge_index_of n level) (width_of n level) path

-- the partial bundle of n entries
abbrev pub IsLastBundle : ℕ → Path → Type 0
IsLastBundle n path = (1 ≤ width_of n 0) × (path ≡ Entries (edge_index_of n 0) (width_of n 0))

-- the partial tile of a level of n entries, if the first m entries do not have it
abbrev pub IsNewLast : ℕ → ℕ → ℕ → Path → Type 0
IsNewLast m n level path =
    (1 ≤ width_of n level) × (path ≡ Tile level (edge_index_of n level) (width_of n level)) × ¬ IsWithin m path

-- the same for the levels below "below"
abbrev pub IsNewLastBelow : ℕ → ℕ → ℕ → Path → Type 0
IsNewLastBelow m n below path = (level : ℕ) × (level < below) × IsNewLast m n level path
