-- The files that a read requests: for the hashes of a proof, the full tiles in which the smaller tree ends (RFC 6962, section 2.1.2).
use Rattle.std.specs.Prelude.{◌≡◌, ◌⊎◌, ℕ, ◌+◌, ◌*◌, ◌%◌, ◌^◌, ◌<◌, ◌≤◌, List, Contains, Option, Some, None, ⊤}
use Rattle.tlog_shape.specs.Edge.{edge_index_of, width_of}
use Rattle.tlog_shape.specs.Split.{IsPowerOfTwo}
use Rattle.tlog_tiles.specs.declared.paths.Path.{Path}
use Rattle.tlog_tiles.specs.declared.paths.Path.TheVariants.{Checkpoint, Tile, Entries}

-- the path is among the requests of a record. A record that is not known may have each path
abbrev pub IsRequested : Option (List Path) → Path → Type 0
IsRequested None path = ⊤
IsRequested (Some paths) path = Contains paths path

-- from the one record to the other, only such paths were requested
pub record RequestsOnly (old new : Option (List Path)) (wanted : Path → Type 0) : Type 0 where
  pub before : (path : Path) → ¬ wanted path → IsRequested new path → IsRequested old path

-- the path is that of a full tile of n entries, which has that entry, and has its level or a greater one
abbrev pub IsTileOver : (n at level : ℕ) → Path → Type 0
IsTileOver n at level Checkpoint = ⊥
IsTileOver n at level (Tile l index width) =
    (level ≤ l) × (index ≡ edge_index_of at l) × (index < edge_index_of n l) × (width ≡ 256)
IsTileOver n at level (Entries index width) = ⊥

-- the path is that of a full tile of n entries. It has the entry "at", and more than "len" entries
abbrev pub IsTileOverNode : (n at len : ℕ) → Path → Type 0
IsTileOverNode n at len Checkpoint = ⊥
IsTileOverNode n at len (Tile l index width) =
    (len < 256 ^ (l + 1)) × (index ≡ edge_index_of at l) × (index < edge_index_of n l) × (width ≡ 256)
IsTileOverNode n at len (Entries index width) = ⊥

-- the first entries end inside the full tile of that level in which they end
abbrev pub EndsInside : (first level : ℕ) → Type 0
EndsInside first level = (below : ℕ) × (below ≤ level) × (1 ≤ width_of first below)

-- a proof from the first entries to all n may need the full tile of the path: the first entries end inside it
abbrev pub IsProofTile : (n first : ℕ) → Path → Type 0
IsProofTile n first Checkpoint = ⊥
IsProofTile n first (Tile l index width) =
    (index ≡ edge_index_of first l) × (index < edge_index_of n l) × EndsInside first l × (width ≡ 256)
IsProofTile n first (Entries index width) = ⊥

-- the node is the whole tree of n entries. Or its number of entries is a power of two, and it is the left half of a node that is aligned
abbrev pub IsWholeOrLeft : (n start len : ℕ) → Type 0
IsWholeOrLeft n start len = ((start ≡ 0) × (len ≡ n)) ⊎ (IsPowerOfTwo len × (start % (2 * len) ≡ 0))
