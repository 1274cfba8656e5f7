-- The edge of a tree that was read: its rows by level, and the root that they lead to (C2SP tlog-tiles).
use Rattle.std.specs.Prelude.{◌≡◌, ◌≢◌, ℕ, ◌*◌, ◌≤◌, List, [], length, get_or, map, Option, Some, None}
use Rattle.tlog_shape.specs.Edge.{width_of, edge_index_of}
use Rattle.tlog_hash.specs.Rows.{level_row}
use Rattle.tlog_tiles.specs.declared.paths.Path.{Path}
use Rattle.tlog_tiles.specs.declared.paths.Path.TheVariants.{Tile}
use Rattle.mirror_model.specs.Edge.{edge_levels, edge_root}

-- the edge of a tree: its size, and the rows of its partial tiles by level
pub record Edge : Type 0 where
  pub size : ℕ
  pub rows : List (List (List ℕ))

-- the row of a level
abbrev pub row_at : Edge → ℕ → List (List ℕ)
row_at edge level = get_or edge.rows level []

-- each row has the width of its level
abbrev pub HasWidths : Edge → Type 0
HasWidths edge = (level : ℕ) → level ≤ 7 → length (row_at edge level) ≡ width_of edge.size level

-- the rows have the widths of the edge of n entries
pub record IsEdgeOf (n : ℕ) (edge : Edge) : Type 0 where
  pub size_is : edge.size ≡ n
  pub widths : HasWidths edge

-- the path of the partial tile of a level
abbrev pub edge_tile : Edge → ℕ → Path
edge_tile edge level = Tile level (edge_index_of edge.size level) (width_of edge.size level)

module _ (digest : List ℕ → List ℕ) where
  -- the row of a level is true of the entries
  abbrev pub RowIsTrue : Edge → List (List ℕ) → ℕ → Type 0
  RowIsTrue edge entries level = row_at edge level
      ≡ level_row digest entries level (256 * edge_index_of edge.size level) (width_of edge.size level)

  -- the hash that the rows of an edge lead to
  abbrev pub hash_of_edge : Edge → List ℕ
  hash_of_edge edge = edge_root digest (map (row_at edge) (edge_levels edge.size))

  -- the hash that some rows lead to, the lowest level first. None if there are no rows
  abbrev pub IsHashOfRows : List (List (List ℕ)) → Option (List ℕ) → Type 0
  IsHashOfRows rows None = rows ≡ []
  IsHashOfRows rows (Some hash) = (rows ≢ []) × (edge_root digest rows ≡ hash)

  -- the rows are an edge of n entries that leads to the root
  pub record LeadsTo (n : ℕ) (root : List ℕ) (edge : Edge) : Type 0 where
    pub is_edge : IsEdgeOf n edge
    pub root_is : hash_of_edge edge ≡ root
