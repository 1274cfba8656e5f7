-- Honest sources: the answers of a log of some entries (C2SP tlog-tiles, "Merkle Tree", "Log
-- Entries" and "Partial Tiles").
use Rattle.std.specs.Prelude.{◌≡◌, ℕ, ◌<◌, ◌≤◌, List, [], ◌∷◌, length, take, Option, Some, None}
use Rattle.signed_note.specs.Keys.{Key}
use Rattle.tlog_hash.specs.Tree.{mth}
use Rattle.tlog_tiles.specs.declared.paths.Path.{Path}
use Rattle.tlog_tiles.specs.declared.paths.Path.TheVariants.{Checkpoint, Tile, Entries}
use Rattle.tlog_tiles.specs.Tiles.{tile_bytes, bundle_bytes, IsWithin}
use Rattle.mirror_model.specs.Heads.{IsOpenHead}
use Rattle.mirror_model.specs.TrueLaws.{AreShort}
use Rattle.mirror_sources.specs.Files.{full_of, width_named}
use Rattle.mirror_sources.specs.Replies.{Reply, reply}

-- a log may have deleted the file at the path: it is partial, and its full path is within n entries
pub record IsGone (n : ℕ) (path : Path) : Type 0 where
  pub partial : width_named path < 256
  pub full : IsWithin n (full_of path)

-- the replies to the gets of a list of paths, in order, and the paths with a file. Each path is
-- requested. If the answer is None, a log may have deleted the file, and the full path is requested
-- next and has a file; otherwise the full path is not requested
pub data Gets (n : ℕ) : List Path → List Reply → List Path → Type 0 where
  GetsNone : Gets n [] [] []
  GetsFound : (path : Path) (bytes : List ℕ) {paths founds : List Path} {replies : List Reply} →
      Gets n paths replies founds →
      Gets n (path ∷ paths) (reply path (Some bytes) ∷ replies) (path ∷ founds)
  GetsFull : (path : Path) (bytes : List ℕ) {paths founds : List Path} {replies : List Reply} →
      IsGone n path → Gets n paths replies founds →
      Gets n (path ∷ paths) (reply path None ∷ reply (full_of path) (Some bytes) ∷ replies)
      (full_of path ∷ founds)

module _ (digest : List ℕ → List ℕ) (entries : List (List ℕ)) where
  -- the file that a log of the entries serves at a path: tile_bytes or bundle_bytes
  abbrev pub true_bytes : Path → List ℕ
  true_bytes Checkpoint = []
  true_bytes (Tile level index width) = tile_bytes digest entries level index width
  true_bytes (Entries index width) = bundle_bytes entries index width

  -- the answer for a path within the entries is true: its true bytes, or None if a log may have
  -- deleted the file
  abbrev pub IsTrueAnswer : Path → Option (List ℕ) → Type 0
  IsTrueAnswer path (Some bytes) = bytes ≡ true_bytes path
  IsTrueAnswer path None = IsGone (length entries) path

  -- a source with these answers is honest for a log of the entries: its note is a checkpoint of the
  -- first size entries, and each path within the entries has only true answers
  pub record IsHonest (origin : List ℕ) (keys : List Key) (note : List ℕ) (size : ℕ)
      (may : Path → Option (List ℕ) → Type 0) : Type 0 where
    pub short : AreShort entries
    pub within : size ≤ length entries
    pub is_head : IsOpenHead note origin keys size (mth digest (take size entries))
    pub checkpoint : (answer : Option (List ℕ)) → may Checkpoint answer → answer ≡ Some note
    pub parts : (path : Path) → IsWithin (length entries) path → (answer : Option (List ℕ)) →
        may path answer → IsTrueAnswer path answer
