-- The entries that a call has gathered, and the files that it has put.
use Rattle.std.specs.Prelude.{◌≡◌, ℕ, ◌+◌, ◌-◌, ◌*◌, ◌/◌, ◌^◌, ◌<◌, ◌≤◌, max, List, [], ◌++◌, length, take, get_or}
use Rattle.std.specs.Prelude.{All, Option, None, Result, Ok, Err}
use Rattle.tlog_shape.specs.Edge.{width_of, edge_index_of}
use Rattle.tlog_hash.specs.Tree.{mth}
use Rattle.tlog_hash.specs.Rows.{part, level_row}
use Rattle.tlog_tiles.specs.declared.paths.Path.{Path}
use Rattle.tlog_tiles.specs.declared.paths.Path.TheVariants.{Checkpoint, Tile, Entries}
use Rattle.tlog_tiles.specs.Bundle.{bundle_text}
use Rattle.tlog_tiles.specs.Tiles.{IsWithin}
use Rattle.mirror_model.specs.TrueLaws.{AreShort}
use Rattle.mirror_sources.specs.Recorded.{AddsToRecord}
use Rattle.mirror_sources.specs.Honest.{true_bytes}
use Rattle.mirror_folders.specs.Shelf.{Put}
use Rattle.copy_follow.specs.Standing.{RecordsStands}

-- the tip of a copy: its number of entries, the rows of its partial tiles by level, the bytes of its partial bundle, and its
-- checkpoint, if it has one
pub record Tip : Type 0 where
  pub size : ℕ
  pub rows : List (List (List ℕ))
  pub bundle : List ℕ
  pub checkpoint : Option (List ℕ)

-- the tip of a shelf without a checkpoint
abbrev pub empty_tip : Tip
empty_tip = record { size = 0; rows = []; bundle = []; checkpoint = None }

-- the full tile of that level and index, and the full tiles and bundles below it
abbrev pub IsBelow : ℕ → ℕ → Path → Type 0
IsBelow level index Checkpoint = ⊥
IsBelow level index (Tile l i width) = (l ≤ level) × (i / 256 ^ (level - l) ≡ index) × (width ≡ 256)
IsBelow level index (Entries i width) = (i / 256 ^ level ≡ index) × (width ≡ 256)

module _ (digest : List ℕ → List ℕ) where
  -- a file that the first m entries do not have, with its true bytes
  pub record IsNewFile (m : ℕ) (entries : List (List ℕ)) (put : Put) : Type 0 where
    pub new : ¬ IsWithin m put.0
    pub within : IsWithin (length entries) put.0
    pub bytes_are : put.1 ≡ true_bytes digest entries put.0

  -- next begins with the known entries. Only new files of next were put
  pub record Obtains (m : ℕ) (known next : List (List ℕ)) (old new : Option (List Put)) : Type 0 where
    pub more : List (List ℕ)
    pub next_is : next ≡ known ++ more
    pub short : AreShort more
    pub puts : List Put
    pub recorded : AddsToRecord old new puts
    pub are_new : All (IsNewFile m next) puts

  -- the known entries are those of the tip, and all entries up to the start. The tip is theirs
  pub record IsKnown (tip : Tip) (start : ℕ) (known : List (List ℕ)) : Type 0 where
    pub size_is : length known ≡ max tip.size start
    pub short : AreShort known
    pub rows_are : (level : ℕ) → level ≤ 7 → get_or tip.rows level []
        ≡ level_row digest known level (256 * edge_index_of tip.size level) (width_of tip.size level)
    pub bundle_is : tip.bundle
        ≡ bundle_text (part (256 * edge_index_of tip.size 0) (width_of tip.size 0) known)

  -- the files of a tile and below it that the first m entries do not have are on the shelf with true bytes
  abbrev pub HoldsBelow : ℕ → ℕ → ℕ → List (List ℕ) → Option (List Put) → Option (List Put) →
      Type 0
  HoldsBelow m level index entries old new =
      (path : Path) → IsBelow level index path → ¬ IsWithin m path →
      RecordsStands old new path (true_bytes digest entries path)

  -- all entries below the full tile of that level and index were gathered, and its hash is true
  pub record IsBrought (tip : Tip) (level index : ℕ) (hash : List ℕ) (known : List (List ℕ))
      (old new : Option (List Put)) : Type 0 where
    pub next : List (List ℕ)
    pub gathers : Obtains tip.size known next old new
    pub size_is : length next ≡ (index + 1) * 256 ^ (level + 1)
    pub hash_is : hash ≡ mth digest (part (index * 256 ^ (level + 1)) (256 ^ (level + 1)) next)
    pub holds : HoldsBelow tip.size level index next old new

  -- the entries below the first "count" hashes of the row of a tile were gathered, and these hashes are true
  pub record IsRowBrought (tip : Tip) (level index : ℕ) (row known : List (List ℕ))
      (old new : Option (List Put)) (count : ℕ) : Type 0 where
    pub next : List (List ℕ)
    pub gathers : Obtains tip.size known next old new
    pub size_is : length next ≡ max tip.size ((256 * index + count) * 256 ^ level)
    pub row_is : take count row ≡ level_row digest next level (256 * index) count
    pub holds : (k : ℕ) → k < count → HoldsBelow tip.size (level - 1) (256 * index + k) next old new

  -- a call ended early: some more entries were gathered
  pub record IsCutShort (m : ℕ) (known : List (List ℕ)) (old new : Option (List Put)) : Type 0 where
    pub next : List (List ℕ)
    pub gathers : Obtains m known next old new

  -- the result of bringing a tile, for each answer
  abbrev pub BringsTile : {T E : Type 0} → Tip → ℕ → ℕ → List ℕ → List (List ℕ) →
      Option (List Put) → Option (List Put) → Result T E → Type 0
  BringsTile tip level index hash known old new (Ok x) = IsBrought tip level index hash known old new
  BringsTile tip level index hash known old new (Err e) = IsCutShort tip.size known old new

  -- the result of bringing all files below a row, for each answer
  abbrev pub BringsRow : {T E : Type 0} → Tip → ℕ → ℕ → List (List ℕ) → List (List ℕ) →
      Option (List Put) → Option (List Put) → Result T E → Type 0
  BringsRow tip level index row known old new (Ok x) =
      IsRowBrought tip level index row known old new (length row)
  BringsRow tip level index row known old new (Err e) = IsCutShort tip.size known old new
