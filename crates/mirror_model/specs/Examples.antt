-- Small trees under the test digest: its first byte is a sum modulo 256, and 31 zeros follow.
use Rattle.std.specs.FinSet as set
use Rattle.std.specs.Prelude.{length, ◌≡◌, ℕ, List, [], ◌∷◌, ◌++◌, take, replicate}
use Rattle.tlog_hash.specs.Tree.{mth, strings}
use Rattle.tlog_hash.specs.Sum.{sum_digest}
use Rattle.tlog_tiles.specs.declared.paths.Path.{Path}
use Rattle.tlog_tiles.specs.declared.paths.Path.TheVariants.{Tile, Entries}
use Rattle.mirror_model.specs.Front.{IsFront}
use Rattle.mirror_model.specs.Edge.{edge_levels, edge_widths, edge_rows, edge_root, edge_strings}
use Rattle.mirror_model.specs.Forks.{IsPrefix}
use Rattle.mirror_model.specs.declared.items.Item.{Item}
use Rattle.mirror_model.specs.declared.items.Item.TheVariants as item
use Rattle.mirror_model.specs.Item.{row_of, entries_of}
use Rattle.mirror_model.specs.declared.events.Event.TheVariants.{Take, Merge}
use Rattle.mirror_model.specs.Events.{Reaches}

-- the test digest of a string with that sum
abbrev pub sum_hash : ℕ → List ℕ
sum_hash n = n ∷ replicate 31 0

-- three entries: the empty string, the byte 00, the byte 10
abbrev pub three : List (List ℕ)
three = [] ∷ (0 ∷ []) ∷ (16 ∷ []) ∷ []

-- the tree of these entries and its right edge, which is one row of their leaf hashes
pub record TreeOfThree : Type 0 where
  pub root : mth sum_digest three ≡ sum_hash 18
  pub prefix_root : mth sum_digest (take 2 three) ≡ sum_hash 1
  pub rows : edge_rows sum_digest three ≡ (sum_hash 0 ∷ sum_hash 0 ∷ sum_hash 16 ∷ []) ∷ []
  pub edge_root_is :
      edge_root sum_digest ((sum_hash 0 ∷ sum_hash 0 ∷ sum_hash 16 ∷ []) ∷ []) ≡ sum_hash 18
  pub edge_strings_are :
      edge_strings sum_digest ((sum_hash 0 ∷ sum_hash 0 ∷ sum_hash 16 ∷ []) ∷ [])
      ≡ (1 ∷ sum_hash 0 ++ sum_hash 0) ∷ (1 ∷ sum_hash 1 ++ sum_hash 16) ∷ []
  pub strings_are :
      strings sum_digest three ≡ (0 ∷ []) ∷ (0 ∷ 0 ∷ []) ∷ (0 ∷ 16 ∷ [])
      ∷ (1 ∷ sum_hash 0 ++ sum_hash 0) ∷ (1 ∷ sum_hash 1 ++ sum_hash 16) ∷ []

-- the right edges of some sizes
pub record EdgesOfSizes : Type 0 where
  pub none : edge_widths 0 ≡ []
  pub three : edge_widths 3 ≡ 3 ∷ []
  pub full : edge_widths 256 ≡ 1 ∷ []
  pub more : edge_widths 257 ≡ 1 ∷ 1 ∷ []
  pub three_levels : edge_widths 65793 ≡ 1 ∷ 1 ∷ 1 ∷ []
  pub gap : edge_levels 65537 ≡ 0 ∷ 2 ∷ []

-- no rows give the digest of the empty string; a row is folded with the value of the row below
-- after it
pub record RootsOfRows : Type 0 where
  pub none : edge_root sum_digest [] ≡ sum_hash 0
  pub one : edge_root sum_digest ((sum_hash 5 ∷ []) ∷ []) ≡ sum_hash 5
  pub two : edge_root sum_digest ((sum_hash 5 ∷ []) ∷ (sum_hash 7 ∷ []) ∷ []) ≡ sum_hash 13
  pub bare : edge_strings sum_digest ((sum_hash 5 ∷ []) ∷ []) ≡ []
  pub joined :
      edge_strings sum_digest ((sum_hash 5 ∷ []) ∷ (sum_hash 7 ∷ []) ∷ [])
      ≡ (1 ∷ sum_hash 7 ++ sum_hash 5) ∷ []

-- three entries with the same tree hash under the test digest as the first three of large_list
abbrev pub small_list : List (List ℕ)
small_list = (1 ∷ []) ∷ (2 ∷ []) ∷ (57 ∷ []) ∷ []

-- four entries; the first three have the tree hash of small_list under the test digest, but are
-- other entries
abbrev pub large_list : List (List ℕ)
large_list = (20 ∷ []) ∷ (30 ∷ []) ∷ (10 ∷ []) ∷ (100 ∷ []) ∷ []

-- small_list and the first three of large_list have the same test digest, but neither list is a
-- prefix of the other. So a fork is decided by entries, not by hashes of prefixes
pub record HashesDoNotTellForks : Type 0 where
  pub small_root : mth sum_digest small_list ≡ sum_hash 62
  pub large_root : mth sum_digest large_list ≡ sum_hash 163
  pub same_root : mth sum_digest (take 3 large_list) ≡ mth sum_digest small_list
  pub not_prefix : ¬ IsPrefix small_list large_list
  pub not_extension : ¬ IsPrefix large_list small_list

-- the bytes of an empty row, and of a bundle of the first two of the three entries
pub record PartsOfThree : Type 0 where
  pub row : row_of [] ≡ []
  pub bundle : entries_of 2 (0 ∷ 0 ∷ 0 ∷ 1 ∷ 0 ∷ []) ≡ take 2 three

-- any item
abbrev pub some_item : Item
some_item = item.Tile 1 []

-- an item that mirror 0 takes reaches mirror 2 by merges of 0 into 1 and then of 1 into 2. It does
-- not reach it by these merges in the other order, or by a merge before the take
pub record MergesLeadInOrder : Type 0 where
  pub reaches : Reaches some_item 2 (Take 0 some_item ∷ Merge 1 0 ∷ Merge 2 1 ∷ [])
  pub not_back : ¬ Reaches some_item 2 (Take 0 some_item ∷ Merge 2 1 ∷ Merge 1 0 ∷ [])
  pub not_before : ¬ Reaches some_item 1 (Merge 1 0 ∷ Take 0 some_item ∷ [])

-- if nothing is held, the front of three entries is their bundle alone
pub record IsFrontOfThree : Type 0 where
  pub bundle : IsFront sum_digest set.empty three (Entries 0 3)
  pub alone : (path : Path) → IsFront sum_digest set.empty three path → path ≡ Entries 0 3

-- if nothing is held, the front of 300 entries has a tile that is not full in their tree; so the
-- right edge is taken first
abbrev pub HasTileOutside : Type 0
HasTileOutside =
    (digest : List ℕ → List ℕ) (entries : List (List ℕ)) → length entries ≡ 300 →
    IsFront digest set.empty entries (Tile 1 0 256)
