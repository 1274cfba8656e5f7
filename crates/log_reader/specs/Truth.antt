-- The reads of a tree are true of each list of entries of its size and root, if no hashed strings clash.
use Rattle.std.specs.Prelude.{◌≡◌, ℕ, ◌*◌, ◌^◌, ◌<◌, ◌≤◌, List, [], ◌++◌, length, map, take}
use Rattle.std.specs.FinSet as set
use Rattle.tlog_shape.specs.Edge.{width_of}
use Rattle.tlog_hash.specs.Tree.{mth, strings}
use Rattle.tlog_hash.specs.Rows.{level_row, part}
use Rattle.tlog_tiles.specs.Bundle.{IsBundle}
use Rattle.node_store.specs.Strings.{NoClash}
use Rattle.mirror_model.specs.Edge.{edge_levels, edge_strings}
use Rattle.mirror_model.specs.Strings.{IsDigest}
use Rattle.log_reader.specs.EdgeRows.{Edge, hash_of_edge, row_at}
use Rattle.log_reader.specs.Holding.{row_width}
use Rattle.log_reader.specs.Ways.{HasEdgeHashes, IsEndBundle, IsFullBundle, IsShownEdge, IsWay, row_of_way, way_strings}

module _ (digest : List ℕ → List ℕ) where
  -- the strings that are hashed in the folding of the rows of an edge and of a way
  abbrev pub read_strings : Edge → List (List (List ℕ)) → List (List ℕ)
  read_strings edge way = edge_strings digest (map (row_at edge) (edge_levels edge.size)) ++ way_strings digest way

  -- the entries have the edge's size, and the root to which it leads. No two different strings of their tree and of the rows that
  -- were read share a digest
  pub record IsListClear (edge : Edge) (way : List (List (List ℕ))) (entries : List (List ℕ)) : Type 0 where
    pub size_is : length entries ≡ edge.size
    pub root_is : mth digest entries ≡ hash_of_edge digest edge
    pub clear : NoClash digest (set.from_list (strings digest entries ++ read_strings edge way))

  -- the same, also with the strings of the tree of the bundle's entries
  pub record IsBundleClear (edge : Edge) (way : List (List (List ℕ))) (found entries : List (List ℕ)) : Type 0 where
    pub size_is : length entries ≡ edge.size
    pub root_is : mth digest entries ≡ hash_of_edge digest edge
    pub clear : NoClash digest (set.from_list
        (strings digest entries ++ (read_strings edge way ++ strings digest found)))

-- a row from which a way leads up to the edge is the true row
abbrev pub ShownRowsAreTrue : Type 0
ShownRowsAreTrue =
    (digest : List ℕ → List ℕ) → IsDigest digest → (edge : Edge) → HasEdgeHashes edge → edge.size < 2 ^ 64 →
    (level index : ℕ) (way : List (List (List ℕ))) → IsWay digest edge level index way →
    (entries : List (List ℕ)) → IsListClear digest edge way entries →
    row_of_way edge level way ≡ level_row digest entries level (256 * index) (length (row_of_way edge level way))

-- the bytes are the true bundle of that index, partial or full
abbrev pub IsTrueBundle : List (List ℕ) → ℕ → List ℕ → Type 0
IsTrueBundle entries index bytes =
    IsBundle (row_width (length entries) 0 index) bytes
    (part (256 * index) (row_width (length entries) 0 index) entries)

-- a shown bundle, at the end of the tree or full, is the true bundle
abbrev pub ShownBundlesAreTrue : Type 0
ShownBundlesAreTrue =
    (digest : List ℕ → List ℕ) → IsDigest digest → (edge : Edge) → HasEdgeHashes edge → edge.size < 2 ^ 64 →
    (index : ℕ) (bytes : List ℕ) (entries : List (List ℕ)) →
    ((end : IsEndBundle digest edge index bytes) → IsBundleClear digest edge [] end.has_leaves.entries entries →
    IsTrueBundle entries index bytes)
    × ((full : IsFullBundle digest edge index bytes) →
    IsBundleClear digest edge full.shown.way full.has_leaves.entries entries → IsTrueBundle entries index bytes)

-- a smaller edge that is shown leads to the tree hash of the first entries
abbrev pub ShownPrefixesAreTrue : Type 0
ShownPrefixesAreTrue =
    (digest : List ℕ → List ℕ) → IsDigest digest → (edge first : Edge) → HasEdgeHashes edge → edge.size < 2 ^ 64 →
    first.size ≤ edge.size → (shown : IsShownEdge digest edge first) → (entries : List (List ℕ)) →
    length entries ≡ edge.size →
    ((level : ℕ) (low : level ≤ 7) (some : 1 ≤ width_of first.size level) →
    IsListClear digest edge ((shown level low).shown some).shown.way entries) →
    hash_of_edge digest first ≡ mth digest (take first.size entries)
