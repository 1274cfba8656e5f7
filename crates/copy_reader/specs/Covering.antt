-- The files that were read for a range of a log's entries. Only the contracts of private functions cite these.
use Rattle.std.specs.Prelude.{◌≡◌, ℕ, ◌+◌, ◌-◌, ◌*◌, ◌^◌, ◌≤◌, List, [], ◌∷◌, ◌++◌, length, take, Option, Some}
use Rattle.tlog_hash.specs.Tree.{fold_of, mth}
use Rattle.tlog_hash.specs.Rows.{part, level_row}
use Rattle.tlog_tiles.specs.declared.paths.Path.{Path}
use Rattle.tlog_tiles.specs.declared.paths.Path.TheVariants.{Checkpoint, Tile, Entries}
use Rattle.tlog_tiles.specs.Row.{IsRow, row_text}
use Rattle.mirror_model.specs.TrueLaws.{AreShort}
use Rattle.mirror_sources.specs.Honest.{true_bytes}
use Rattle.mirror_sources.specs.Replies.{Reply, reply}
use Rattle.copy_reader.specs.Answering.{AreGiven, IsHad}

-- from index "start" on, the list has these entries
pub record HasAt (start : ℕ) (more entries : List (List ℕ)) : Type 0 where
  pub front : List (List ℕ)
  pub back : List (List ℕ)
  pub start_is : length front ≡ start
  pub list_is : entries ≡ front ++ (more ++ back)

-- the tile of that level and index is full, of level "most" or below, and its entries are within the range
pub record IsBlock (most from to level index width : ℕ) : Type 0 where
  pub low : level ≤ most
  pub starts : from ≤ index * 256 ^ (level + 1)
  pub ends : (index + 1) * 256 ^ (level + 1) ≤ to
  pub full : width ≡ 256

-- a full tile of level "most" or below, or a full bundle, whose entries are within the range
abbrev pub IsFullIn : ℕ → ℕ → ℕ → Path → Type 0
IsFullIn most from to Checkpoint = ⊥
IsFullIn most from to (Tile level index width) = IsBlock most from to level index width
IsFullIn most from to (Entries index width) = IsBlock most from to 0 index width

module _ (digest : List ℕ → List ℕ) where
  -- the files of the range of entries were read. For each list that has these entries there, the claim holds, and the replies for
  -- the files were its true bytes
  pub record Covers (files : Path → Type 0) (from to : ℕ) (may later : Path → Option (List ℕ) → Type 0)
      (old new : Option (List Path)) (claim : List (List ℕ) → Type 0) : Type 0 where
    pub more : List (List ℕ)
    pub replies : List Reply
    pub given : AreGiven may later old new replies
    pub size_is : from + length more ≡ to
    pub short : AreShort more
    pub claims : (entries : List (List ℕ)) → HasAt from more entries → claim entries
    pub holds : (entries : List (List ℕ)) → HasAt from more entries → (path : Path) → files path →
        IsHad replies path (true_bytes digest entries path)

  -- a full tile and all files below it were read, and its hash is true
  abbrev pub CoversTile : ℕ → ℕ → List ℕ → (may later : Path → Option (List ℕ) → Type 0) → Option (List Path) →
      Option (List Path) → Type 0
  CoversTile level index hash may later old new =
      Covers (IsFullIn level (index * 256 ^ (level + 1)) ((index + 1) * 256 ^ (level + 1)))
      (index * 256 ^ (level + 1)) ((index + 1) * 256 ^ (level + 1)) may later old new
      (λ entries. hash ≡ mth digest (part (index * 256 ^ (level + 1)) (256 ^ (level + 1)) entries))

  -- all files below the first "count" hashes of a row were read, and these hashes are true
  abbrev pub CoversRow : ℕ → ℕ → List (List ℕ) → ℕ → (may later : Path → Option (List ℕ) → Type 0) →
      Option (List Path) → Option (List Path) → Type 0
  CoversRow level index row count may later old new =
      Covers (IsFullIn (level - 1) (256 * index * 256 ^ level) ((256 * index + count) * 256 ^ level))
      (256 * index * 256 ^ level) ((256 * index + count) * 256 ^ level) may later old new
      (λ entries. take count row ≡ level_row digest entries level (256 * index) count)

  -- the source gave a full tile whose row folds to the hash
  pub record IsRowFound (path : Path) (hash : List ℕ) (row : List (List ℕ)) (may later : Path → Option (List ℕ) → Type 0)
      (old new : Option (List Path)) : Type 0 where
    pub is_row : IsRow 256 (row_text row) row
    pub folds : fold_of digest row ≡ hash
    pub given : AreGiven may later old new (reply path (Some (row_text row)) ∷ [])
