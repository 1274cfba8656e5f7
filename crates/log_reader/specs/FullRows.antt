-- The hashes of a full tile's row and of its nodes, in one list: 256 hashes, then the 128 nodes of height 1, the 64 of height 2, and so
-- on, up to the fold of the row.
use Rattle.std.specs.Prelude.{◌≡◌, ℕ, ◌+◌, ◌-◌, ◌*◌, ◌^◌, ◌<◌, ◌≤◌, List, [], length, get_or, take}
use Rattle.tlog_hash.specs.Rows.{part}
use Rattle.tlog_hash.specs.Tree.{fold_of}

-- the place of the node of that height and index
abbrev pub node_place : ℕ → ℕ → ℕ
node_place height index = 512 - 2 ^ (9 - height) + index

-- the list has the row and its first nodes, "count" hashes in all: the node of each height and index is the fold of its part of the row
pub record HasNodes (digest : List ℕ → List ℕ) (count : ℕ) (hashes : List (List ℕ)) : Type 0 where
  pub long : length hashes ≡ count
  pub nodes : (height index : ℕ) → height ≤ 8 → index < 2 ^ (8 - height) → node_place height index < count →
      get_or hashes (node_place height index) []
      ≡ fold_of digest (part (index * 2 ^ height) (2 ^ height) (take 256 hashes))
