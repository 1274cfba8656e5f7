-- The way from a tile up to the edge of a tree. Each row folds to a hash of the row above it, the last to one of the edge.
use Rattle.std.specs.Prelude.{◌≡◌, ◌⊎◌, ℕ, ◌+◌, ◌/◌, ◌%◌, ◌<◌, ◌≤◌, All, List, [], ◌∷◌, ◌++◌, length, get_or, take}
use Rattle.tlog_shape.specs.Edge.{width_of, edge_index_of}
use Rattle.tlog_hash.specs.Tree.{fold_of, joins}
use Rattle.log_reader.specs.EdgeRows.{Edge, hash_of_edge, row_at}
use Rattle.log_reader.specs.Verified.{HasLeaves}

-- the row at the low end of a way, which has the lowest row first. For an empty way, the row of the edge
abbrev pub row_of_way : Edge → ℕ → List (List (List ℕ)) → List (List ℕ)
row_of_way edge level [] = row_at edge level
row_of_way edge level (row ∷ above) = row

-- the row has "width" hashes, of 32 bytes each
pub record AreHashesOf (width : ℕ) (row : List (List ℕ)) : Type 0 where
  pub count : length row ≡ width
  pub sizes : All (λ hash. length hash ≡ 32) row

-- each row of an edge has the width of its level, and hashes of 32 bytes
abbrev pub HasEdgeHashes : Edge → Type 0
HasEdgeHashes edge = (level : ℕ) → level ≤ 7 → AreHashesOf (width_of edge.size level) (row_at edge level)

-- the state of a reader: the edge and the root of the tree, and the way from one of its tiles up
pub record Reader : Type 0 where
  pub edge : Edge
  pub root : List ℕ
  pub level : ℕ
  pub index : ℕ
  pub way : List (List (List ℕ))

module _ (digest : List ℕ → List ℕ) where
  -- the row has 256 hashes, and folds to the hash of that index in the row above
  pub record IsRowUnder (above : List (List ℕ)) (index : ℕ) (row : List (List ℕ)) : Type 0 where
    pub hashes : AreHashesOf 256 row
    pub within : index < length above
    pub folds : fold_of digest row ≡ get_or above index []

  -- the rows are those of a tile and of the tiles above it, up to the edge
  abbrev pub IsWay : Edge → ℕ → ℕ → List (List (List ℕ)) → Type 0
  IsWay edge level index [] = (level ≤ 7) × (index ≡ edge_index_of edge.size level)
  IsWay edge level index (row ∷ above) =
      IsRowUnder (row_of_way edge (level + 1) above) (index % 256) row
      × IsWay edge (level + 1) (index / 256) above

  -- the strings that are hashed in the folding of the rows of a way
  abbrev pub way_strings : List (List (List ℕ)) → List (List ℕ)
  way_strings [] = []
  way_strings (row ∷ above) = joins digest row ++ way_strings above

  -- the row is that of a tile, and some way leads from it to the edge
  pub record IsShownRow (edge : Edge) (level index : ℕ) (row : List (List ℕ)) : Type 0 where
    pub way : List (List (List ℕ))
    pub is_way : IsWay edge level index way
    pub row_is : row ≡ row_of_way edge level way

  -- the hash is that of an entry in a shown row of leaf hashes
  pub record IsShownLeaf (edge : Edge) (index : ℕ) (hash : List ℕ) : Type 0 where
    pub row : List (List ℕ)
    pub shown : IsShownRow edge 0 (index / 256) row
    pub within : index % 256 < length row
    pub hash_is : hash ≡ get_or row (index % 256) []

  -- the bytes are the bundle at the end of the tree, with the leaf hashes of the edge
  pub record IsEndBundle (edge : Edge) (index : ℕ) (bytes : List ℕ) : Type 0 where
    pub index_is : index ≡ edge_index_of edge.size 0
    pub has_leaves : HasLeaves digest (width_of edge.size 0) bytes (row_at edge 0)

  -- the bytes are a full bundle, whose leaf hashes fold to their hash in a shown row
  pub record IsFullBundle (edge : Edge) (index : ℕ) (bytes : List ℕ) : Type 0 where
    pub above : List (List ℕ)
    pub shown : IsShownRow edge 1 (index / 256) above
    pub within : index % 256 < length above
    pub row : List (List ℕ)
    pub has_leaves : HasLeaves digest 256 bytes row
    pub folds : fold_of digest row ≡ get_or above (index % 256) []

  -- the bytes are a bundle of the tree, shown by its way up to the edge
  abbrev pub IsShownBundle : Edge → ℕ → List ℕ → Type 0
  IsShownBundle edge index bytes = IsEndBundle edge index bytes ⊎ IsFullBundle edge index bytes

  -- the hashes are the first of a shown row
  pub record IsShownStart (edge : Edge) (level index width : ℕ) (start : List (List ℕ)) : Type 0 where
    pub row : List (List ℕ)
    pub shown : IsShownRow edge level index row
    pub start_is : start ≡ take width row

  -- the row of a level of the edge of the first entries. If the level has one, it has the first hashes of a shown row
  pub record IsShownPart (edge : Edge) (size level : ℕ) (part : List (List ℕ)) : Type 0 where
    pub hashes : AreHashesOf (width_of size level) part
    pub shown : 1 ≤ width_of size level →
        IsShownStart edge level (edge_index_of size level) (width_of size level) part

  -- each row of the edge of the first entries is such a row
  abbrev pub IsShownEdge : Edge → Edge → Type 0
  IsShownEdge edge first =
      (level : ℕ) → level ≤ 7 → IsShownPart edge first.size level (row_at first level)

  -- the edge leads to the root, and the way to the edge
  pub record IsReader (reader : Reader) : Type 0 where
    pub hashes : HasEdgeHashes reader.edge
    pub root_is : hash_of_edge digest reader.edge ≡ reader.root
    pub is_way : IsWay reader.edge reader.level reader.index reader.way
