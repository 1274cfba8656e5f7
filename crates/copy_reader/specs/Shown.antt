-- The roots of a copy at smaller sizes, shown by verified rows.
use Rattle.std.specs.Prelude.{◌≡◌, ◌⊎◌, ℕ, List}
use Rattle.log_reader.specs.EdgeRows.{Edge, hash_of_edge}
use Rattle.log_reader.specs.Ways.{HasEdgeHashes, IsShownEdge}

module _ (digest : List ℕ → List ℕ) (size : ℕ) (root : List ℕ) where
  -- an edge of that size leads to the root. It shows the edge of the first entries, which leads to their root. By
  -- `shown_prefixes_law` of log_reader this is the tree hash of the first entries of each list of that size and root, if nothing
  -- clashes
  pub record IsShownRoot (first : ℕ) (first_root : List ℕ) : Type 0 where
    pub edge : Edge
    pub hashes : HasEdgeHashes edge
    pub size_is : edge.size ≡ size
    pub leads : hash_of_edge digest edge ≡ root
    pub start : Edge
    pub shown : IsShownEdge digest edge start
    pub first_is : start.size ≡ first
    pub first_leads : hash_of_edge digest start ≡ first_root

  -- the root of the first entries, or of all
  abbrev pub IsRootOf : ℕ → List ℕ → Type 0
  IsRootOf first first_root = ((first ≡ size) × (first_root ≡ root)) ⊎ IsShownRoot first first_root
