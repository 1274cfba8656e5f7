-- The files of a copy's edge that were read. Of these a public clause cites only IsTipRead.
use Rattle.std.specs.Prelude.{◌≡◌, ℕ, ◌≤◌, List, [], Option, Some, None, Result, IfErr, OnOk}
use Rattle.tlog_shape.specs.Edge.{width_of, edge_index_of}
use Rattle.tlog_tiles.specs.declared.paths.Path.TheVariants.{Checkpoint, Tile, Entries}
use Rattle.tlog_tiles.specs.Row.{IsRow}
use Rattle.mirror_sources.specs.Recorded.{KeepsRecord}
use Rattle.mirror_folders.specs.Partial.{IsReadPartial}
use Rattle.mirror_folders.specs.Shelf.{Put}
use Rattle.copy_follow.specs.Copies.{IsCopy}
use Rattle.log_reader.specs.EdgeRows.{Edge, row_at}
use Rattle.copy_follow.specs.Growing.{IsKnown, Tip}
use Rattle.copy_follow.specs.Moments.{CopyStays, IsBroughtTo, KeepsCopy}
use Rattle.copy_follow.specs.Pruned.{IsPrunedCopy, LeavesPruned}
use Rattle.copy_places.specs.Giving.{PartOf}
use Rattle.copy_follow.specs.Taken.{WasPut}
use Rattle.mirror_folders.specs.Shelf.{RecordsRead}

-- the row of a level of the edge of n entries is the shelf's, if the level has one
pub record IsRowRead (puts : Option (List Put)) (n level : ℕ) (row : List (List ℕ)) : Type 0 where
  pub bytes : List ℕ
  pub is_row : IsRow (width_of n level) bytes row
  pub stands : 1 ≤ width_of n level →
      IsReadPartial puts (Tile level (edge_index_of n level) (width_of n level)) (Some bytes)
  pub taken : 1 ≤ width_of n level →
      PartOf (WasPut puts) (Tile level (edge_index_of n level) (width_of n level)) bytes

-- the rows are those of the edge of n entries, as they are on the shelf
pub record IsEdgeRead (puts : Option (List Put)) (n : ℕ) (edge : Edge) : Type 0 where
  pub size_is : edge.size ≡ n
  pub rows_are : (level : ℕ) → level ≤ 7 → IsRowRead puts n level (row_at edge level)

-- the bytes are the partial bundle at the edge of n entries, as it is on the shelf. Without such a bundle there are no bytes
pub record IsBundleRead (puts : Option (List Put)) (n : ℕ) (bytes : List ℕ) : Type 0 where
  pub none : width_of n 0 ≡ 0 → bytes ≡ []
  pub stands : 1 ≤ width_of n 0 → IsReadPartial puts (Entries (edge_index_of n 0) (width_of n 0)) (Some bytes)

module _ (digest : List ℕ → List ℕ) where
  -- the tip is read from the shelf: it is the tip of each copy that is there
  pub record IsTipRead (origin : List ℕ) (puts : Option (List Put)) (tip : Tip) : Type 0 where
    pub checkpoint : RecordsRead puts Checkpoint tip.checkpoint
    pub copy : (held : List Put) → puts ≡ Some held → (note : List ℕ) (entries : List (List ℕ)) →
        IsCopy digest origin note entries held → IsKnown digest tip 0 entries
    pub pruned : (held : List Put) → puts ≡ Some held → (note : List ℕ) (entries : List (List ℕ)) →
        IsPrunedCopy digest origin note entries held → IsKnown digest tip 0 entries
    pub empty : tip.checkpoint ≡ None → tip.size ≡ 0
    pub known : tip.checkpoint ≡ None → IsKnown digest tip 0 []

  -- the result of a call that continues from a tip, for each answer. It holds for each shelf state from which the tip was read, if
  -- its puts were kept
  abbrev pub BringsFromTip : {T E : Type 0} → List ℕ → List ℕ → Tip → Option (List Put) → Option (List Put) →
      Result T E → Type 0
  BringsFromTip origin note tip old new result =
      (before : Option (List Put)) → KeepsRecord before old → IsTipRead origin before tip →
      KeepsCopy digest origin note before new × OnOk result (IsBroughtTo digest origin note before new)
      × IfErr result (λ e. CopyStays digest origin before new) × LeavesPruned digest origin note before new result
