-- A copy brought to the right edge of a larger tree.
use Rattle.std.specs.Prelude.{◌≡◌, ◌≢◌, ℕ, ◌+◌, ◌-◌, ◌*◌, ◌^◌, ◌<◌, ◌≤◌, max, List, [], ◌∷◌, length, Option, Result, Ok, Err}
use Rattle.tlog_shape.specs.Edge.{width_of, edge_index_of}
use Rattle.tlog_tiles.specs.declared.paths.Path.{Path}
use Rattle.tlog_tiles.specs.declared.paths.Path.TheVariants.{Checkpoint, Entries}
use Rattle.tlog_tiles.specs.Tiles.{IsWithin}
use Rattle.log_reader.specs.EdgeRows.{Edge, RowIsTrue, edge_tile}
use Rattle.mirror_sources.specs.Recorded.{AddsToRecord, KeepsRecord}
use Rattle.mirror_sources.specs.Honest.{true_bytes}
use Rattle.mirror_folders.specs.Shelf.{Put, RecordsRead}
use Rattle.mirror_folders.specs.FileLaws.{IsFileOf}
use Rattle.copy_follow.specs.Standing.{RecordsStands}
use Rattle.copy_follow.specs.Growing.{Tip, Obtains, HoldsBelow, IsCutShort}

-- the note was put while the shelf still had the checkpoint that was found, or still none
pub record IsNotePut (old new : Option (List Put)) (found : Option (List ℕ)) (note : List ℕ) : Type 0 where
  pub stood : RecordsRead old Checkpoint found
  pub recorded : AddsToRecord old new ((Checkpoint, note) ∷ [])

-- the result of putting a note in place of the checkpoint that was found, for each answer
abbrev pub PutsNote : {T E : Type 0} → Option (List Put) → Option (List Put) → Option (List ℕ) → List ℕ → Result T E → Type 0
PutsNote old new found note (Ok x) = IsNotePut old new found note
PutsNote old new found note (Err e) = KeepsRecord old new

module _ (digest : List ℕ → List ℕ) where
  -- all files below the rows of the levels from low on were brought, and these rows are true
  pub record IsEdgeBrought (tip : Tip) (edge : Edge) (known : List (List ℕ)) (low : ℕ)
      (old new : Option (List Put)) : Type 0 where
    pub next : List (List ℕ)
    pub gathers : Obtains digest tip.size known next old new
    pub size_is : length next ≡ max tip.size (edge_index_of edge.size (low - 1) * 256 ^ (low - 1 + 1))
    pub rows_are : (level : ℕ) → low ≤ level → level ≤ 7 → RowIsTrue digest edge next level
    pub holds : (level : ℕ) → low ≤ level → level ≤ 7 → (k : ℕ) → k < width_of edge.size level →
        HoldsBelow digest tip.size (level - 1) (256 * edge_index_of edge.size level + k) next old new

  -- the result of bringing all files below the edge, for each answer
  abbrev pub BringsEdge : {T E : Type 0} → Tip → Edge → List (List ℕ) →
      Option (List Put) → Option (List Put) → Result T E → Type 0
  BringsEdge tip edge known old new (Ok x) = IsEdgeBrought tip edge known 1 old new
  BringsEdge tip edge known old new (Err e) = IsCutShort digest tip.size known old new

  -- the partial bundle was brought, if there is one: all entries were gathered, and the lowest row is true
  pub record IsEdgeBundleBrought (m : ℕ) (edge : Edge) (known : List (List ℕ)) (old new : Option (List Put))
      : Type 0 where
    pub next : List (List ℕ)
    pub gathers : Obtains digest m known next old new
    pub size_is : length next ≡ edge.size
    pub row_is : RowIsTrue digest edge next 0
    pub holds :
        1 ≤ width_of edge.size 0 → let path =
        Entries (edge_index_of edge.size 0) (width_of edge.size 0) in
        RecordsStands old new path (true_bytes digest next path)

  -- the result of bringing the partial bundle, for each answer
  abbrev pub BringsEdgeBundle : {T E : Type 0} → ℕ → Edge → List (List ℕ) →
      Option (List Put) → Option (List Put) → Result T E → Type 0
  BringsEdgeBundle m edge known old new (Ok x) = IsEdgeBundleBrought m edge known old new
  BringsEdgeBundle m edge known old new (Err e) = IsCutShort digest m known old new

  -- the partial tiles of the levels below "below" are on the shelf with true bytes, except those of the first m entries
  pub record AreEdgeTilesPut (m : ℕ) (edge : Edge) (entries : List (List ℕ)) (old new : Option (List Put))
      (below : ℕ) : Type 0 where
    pub gathers : Obtains digest m entries entries old new
    pub holds :
        (level : ℕ) → level < below → 1 ≤ width_of edge.size level →
        ¬ IsWithin m (edge_tile edge level) →
        RecordsStands old new (edge_tile edge level) (true_bytes digest entries (edge_tile edge level))

  -- the partial tile of a level is on the shelf with true bytes, if there is one and the first m entries do not have it
  pub record IsEdgeTilePut (m : ℕ) (edge : Edge) (entries : List (List ℕ)) (old new : Option (List Put))
      (level : ℕ) : Type 0 where
    pub gathers : Obtains digest m entries entries old new
    pub holds :
        1 ≤ width_of edge.size level → ¬ IsWithin m (edge_tile edge level) →
        RecordsStands old new (edge_tile edge level) (true_bytes digest entries (edge_tile edge level))

  -- the result of putting a partial tile, for each answer
  abbrev pub PutsEdgeTile : {T E : Type 0} → ℕ → Edge → List (List ℕ) → Option (List Put) → Option (List Put) → ℕ →
      Result T E → Type 0
  PutsEdgeTile m edge entries old new level (Ok x) = IsEdgeTilePut m edge entries old new level
  PutsEdgeTile m edge entries old new level (Err e) = Obtains digest m entries entries old new

  -- the result of putting the partial tiles, for each answer
  abbrev pub PutsEdgeTiles : {T E : Type 0} → ℕ → Edge → List (List ℕ) → Option (List Put) → Option (List Put) →
      Result T E → Type 0
  PutsEdgeTiles m edge entries old new (Ok x) = AreEdgeTilesPut m edge entries old new 8
  PutsEdgeTiles m edge entries old new (Err e) = Obtains digest m entries entries old new

  -- a copy was brought to the edge. All its entries were gathered. Before the note was put, the shelf had all its files that the
  -- first m entries do not have
  pub record IsCopyBrought (tip : Tip) (edge : Edge) (note : List ℕ) (known : List (List ℕ))
      (old new : Option (List Put)) : Type 0 where
    pub next : List (List ℕ)
    pub before : Option (List Put)
    pub gathers : Obtains digest tip.size known next old before
    pub last : AddsToRecord before new ((Checkpoint, note) ∷ [])
    pub size_is : length next ≡ edge.size
    pub rows_are : (level : ℕ) → level ≤ 7 → RowIsTrue digest edge next level
    pub holds : (path : Path) → path ≢ Checkpoint → IsFileOf edge.size path → ¬ IsWithin tip.size path →
        RecordsStands old before path (true_bytes digest next path)

  -- the result of bringing a copy, for each answer
  abbrev pub BringsToEdge : {T E : Type 0} → Tip → Edge → List ℕ → List (List ℕ) →
      Option (List Put) → Option (List Put) → Result T E → Type 0
  BringsToEdge tip edge note known old new (Ok x) = IsCopyBrought tip edge note known old new
  BringsToEdge tip edge note known old new (Err e) = IsCutShort digest tip.size known old new
