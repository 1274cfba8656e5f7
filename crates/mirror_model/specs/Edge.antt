-- The right edge of a tree: its partial tiles (C2SP tlog-tiles, "Merkle Tree").
--
-- In a tree of n entries, the rightmost tile of level L has floor(n / 256^L) mod 256 hashes. If
-- this is 0, the level has no partial tile. The right edge lists the others, lowest level first.
-- Their rows give the tree hash: the value of the lower levels is put after the row of each level,
-- and the result is folded.
use Rattle.std.specs.Prelude.{ℕ, ◌*◌, List, [], ◌∷◌, ◌++◌, length, map, not, ◌==◌}
use Rattle.std.specs.List.{filter}
use Rattle.tlog_shape.specs.Edge.{width_of, edge_index_of}
use Rattle.tlog_hash.specs.Tree.{fold_of, joins}
use Rattle.tlog_hash.specs.Rows.{level_row}

-- the levels of a log's tiles
abbrev pub all_levels : List ℕ
all_levels = 0 ∷ 1 ∷ 2 ∷ 3 ∷ 4 ∷ 5 ∷ 6 ∷ 7 ∷ []

-- the levels with a partial tile, lowest first
unfoldable pub edge_levels : ℕ → List ℕ
edge_levels size = filter (λ level. not (width_of size level == 0)) all_levels

-- the widths of the partial tiles of a size, lowest level first: 112, 17 and 1 for 70,000 entries
abbrev pub edge_widths : ℕ → List ℕ
edge_widths size = map (width_of size) (edge_levels size)

module _ (digest : List ℕ → List ℕ) where
  -- the hashes of the partial tile of a level
  abbrev pub edge_row : List (List ℕ) → ℕ → List (List ℕ)
  edge_row entries level =
      level_row digest entries level (256 * edge_index_of (length entries) level)
      (width_of (length entries) level)

  -- the true edge rows of a list of entries, lowest level first
  abbrev pub edge_rows : List (List ℕ) → List (List (List ℕ))
  edge_rows entries = map (edge_row entries) (edge_levels (length entries))

  -- the value that the rows lead to, from the value of the lower levels
  abbrev pub root_from : List ℕ → List (List (List ℕ)) → List ℕ
  root_from value [] = value
  root_from value (row ∷ rows) = root_from (fold_of digest (row ++ value ∷ [])) rows

  -- the root that edge rows lead to, lowest level first; without rows, the digest of the empty
  -- string
  abbrev pub edge_root : List (List (List ℕ)) → List ℕ
  edge_root [] = digest []
  edge_root (row ∷ rows) = root_from (fold_of digest row) rows

  -- the strings that root_from hashes for a value and rows
  abbrev pub strings_from : List ℕ → List (List (List ℕ)) → List (List ℕ)
  strings_from value [] = []
  strings_from value (row ∷ rows) =
      joins digest (row ++ value ∷ []) ++ strings_from (fold_of digest (row ++ value ∷ [])) rows

  -- the strings that edge_root hashes: for each row, the joins of the row with the value of the
  -- lower rows after it
  abbrev pub edge_strings : List (List (List ℕ)) → List (List ℕ)
  edge_strings [] = []
  edge_strings (row ∷ rows) = joins digest row ++ strings_from (fold_of digest row) rows
