-- The reasons why a shelf does not have a copy of a log of the origin.
use Rattle.std.specs.Prelude.{◌≡◌, ◌≢◌, ℕ, ◌≤◌, List, Option, Some, IfSome}
use Rattle.tlog_shape.specs.Edge.{edge_index_of, width_of}
use Rattle.tlog_tiles.specs.declared.paths.Path.TheVariants.{Checkpoint, Tile, Entries}
use Rattle.tlog_tiles.specs.Row.{IsRow}
use Rattle.mirror_folders.specs.Partial.{IsReadPartial}
use Rattle.mirror_folders.specs.Shelf.{HasPut, Put, RecordsRead}
use Rattle.mirror_model.specs.Heads.{IsHead}
use Rattle.log_reader.specs.EdgeRows.{Edge, LeadsTo, hash_of_edge, row_at}
use Rattle.log_reader.specs.Verified.{HasLeaves}
use Rattle.copy_follow.specs.Copies.{IsCopy}
use Rattle.copy_follow.specs.Found.{IsEdgeRead}
use Rattle.copy_follow.specs.Pruned.{IsPrunedCopy}

module _ (puts : Option (List Put)) (n : ℕ) where
  -- the partial tile of a level of the edge of n entries is missing, or is not a row of its width
  pub record IsRowWrong (level : ℕ) : Type 0 where
    pub upto : level ≤ 7
    pub some : 1 ≤ width_of n level
    pub found : Option (List ℕ)
    pub found_is : IsReadPartial puts (Tile level (edge_index_of n level) (width_of n level)) found
    pub no_row : IfSome found (λ bytes. (row : List (List ℕ)) → ¬ IsRow (width_of n level) bytes row)

  module _ (digest : List ℕ → List ℕ) (root : List ℕ) where
    -- such a tile is wrong, or the rows on the shelf lead to another root
    pub data IsEdgeWrong : Type 0 where
      HasWrongRow : (level : ℕ) → IsRowWrong level → IsEdgeWrong
      HasOtherRoot : (edge : Edge) → IsEdgeRead puts n edge → hash_of_edge digest edge ≢ root → IsEdgeWrong

-- the partial bundle at the right edge is missing, or its leaf hashes differ from the lowest row
pub record IsBundleWrong (digest : List ℕ → List ℕ) (puts : Option (List Put)) (edge : Edge) : Type 0 where
  pub some : 1 ≤ width_of edge.size 0
  pub found : Option (List ℕ)
  pub found_is : IsReadPartial puts (Entries (edge_index_of edge.size 0) (width_of edge.size 0)) found
  pub no_leaves : IfSome found (λ bytes. ¬ HasLeaves digest (width_of edge.size 0) bytes (row_at edge 0))

module _ (digest : List ℕ → List ℕ) (origin : List ℕ) (puts : Option (List Put)) where
  -- the shelf has a checkpoint, but it is not a note of the origin, or the edge of its size and root or the bundle there is wrong
  pub data IsTipWrong : Type 0 where
    IsNoHead :
        (note : List ℕ) → RecordsRead puts Checkpoint (Some note) →
        ((size : ℕ) (root : List ℕ) → ¬ IsHead note origin size root) → IsTipWrong
    HasWrongEdge :
        (note : List ℕ) → RecordsRead puts Checkpoint (Some note) → (size : ℕ) (root : List ℕ) →
        IsHead note origin size root → IsEdgeWrong puts size digest root → IsTipWrong
    HasWrongBundle :
        (note : List ℕ) → RecordsRead puts Checkpoint (Some note) → (size : ℕ) (root : List ℕ) →
        IsHead note origin size root → (edge : Edge) → IsEdgeRead puts size edge → LeadsTo digest size root edge →
        IsBundleWrong digest puts edge → IsTipWrong

  -- a shelf that records its puts then has a checkpoint, but no copy, not even a copy whose partial files were replaced
  pub record IsDamaged : Type 0 where
    pub reason : IsTipWrong
    pub no_copy : (held : List Put) → puts ≡ Some held → (note : List ℕ) (entries : List (List ℕ)) →
        ¬ IsCopy digest origin note entries held
    pub no_pruned : (held : List Put) → puts ≡ Some held → (note : List ℕ) (entries : List (List ℕ)) →
        ¬ IsPrunedCopy digest origin note entries held
    pub not_none : (held : List Put) → puts ≡ Some held → ¬ ¬ HasPut held Checkpoint
