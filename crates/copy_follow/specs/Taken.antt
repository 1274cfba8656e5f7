-- The files that a call may take from its places and its shelf, and when their strings do not clash with those of a log.
use Rattle.std.specs.Prelude.{◌≡◌, ◌⊎◌, ℕ, ◌≤◌, All, Contains, List, ◌++◌, length, map, Option, Some, None, ⊤}
use Rattle.std.specs.FinSet as set
use Rattle.tlog_hash.specs.Tree.{joins, strings}
use Rattle.tlog_tiles.specs.declared.paths.Path.{Path}
use Rattle.tlog_tiles.specs.declared.paths.Path.TheVariants.{Checkpoint, Tile, Entries}
use Rattle.tlog_tiles.specs.Bundle.{IsBundle}
use Rattle.tlog_tiles.specs.Row.{IsRow}
use Rattle.node_store.specs.Strings.{NoClash}
use Rattle.mirror_model.specs.Edge.{edge_levels, edge_strings}
use Rattle.mirror_sources.specs.Recorded.{AddsToRecord}
use Rattle.mirror_folders.specs.Shelf.{Put}
use Rattle.log_reader.specs.EdgeRows.{Edge, row_at}
use Rattle.copy_places.specs.Giving.{IsEdgeFrom, MayGive, PartOf}
use Rattle.copy_places.specs.declared.places.Places.{Places}

-- the bytes were put at the path. It always holds for a shelf that does not record its puts
abbrev pub WasPut : Option (List Put) → Path → List ℕ → Type 0
WasPut None path bytes = ⊤
WasPut (Some puts) path bytes = Contains puts (path, bytes)

-- a tile of level 0, which is made from a bundle
abbrev pub IsLeafTile : Path → Type 0
IsLeafTile Checkpoint = ⊥
IsLeafTile (Tile level index width) = level ≡ 0
IsLeafTile (Entries index width) = ⊥

module _ {S : Type 0} (may : S → Path → Option (List ℕ) → Type 0) where
  -- the bytes at the path may be taken: they were put there, or a place may give them
  abbrev pub MayTake : Places S → Option (List Put) → Path → List ℕ → Type 0
  MayTake places puts path bytes = WasPut puts path bytes ⊎ MayGive may places path bytes

  -- each put is a tile of level 0, or a file that might be taken
  pub record PutsTaken (places : Places S) (old new : Option (List Put)) : Type 0 where
    pub puts : List Put
    pub recorded : AddsToRecord old new puts
    pub are_taken : All (λ put. IsLeafTile put.0 ⊎ MayTake places old put.0 put.1) puts

module _ (digest : List ℕ → List ℕ) (log : List (List ℕ)) where
  -- no two different strings of the log's tree and of the folding of the row share a digest
  abbrev pub IsRowClear : List (List ℕ) → Type 0
  IsRowClear row = NoClash digest (set.from_list (strings digest log ++ joins digest row))

  -- the same for the tree of some entries
  abbrev pub AreEntriesClear : List (List ℕ) → Type 0
  AreEntriesClear entries = NoClash digest (set.from_list (strings digest log ++ strings digest entries))

  -- this holds for each full tile of level 1 or above and for each bundle that may be taken
  pub record FilesAreClear (take : Path → List ℕ → Type 0) : Type 0 where
    pub tile : (level index : ℕ) → 1 ≤ level → (bytes : List ℕ) (row : List (List ℕ)) →
        take (Tile level index 256) bytes → IsRow 256 bytes row → IsRowClear row
    pub bundle : (index width : ℕ) (bytes : List ℕ) (entries : List (List ℕ)) →
        PartOf take (Entries index width) bytes → IsBundle width bytes entries → AreEntriesClear entries

  -- the same for the folding of the rows of an edge to their root
  abbrev pub IsEdgeClear : Edge → Type 0
  IsEdgeClear edge = NoClash digest
      (set.from_list (strings digest log ++ edge_strings digest (map (row_at edge) (edge_levels edge.size))))

  -- this holds for each edge of the log's size whose rows may be taken
  abbrev pub EdgesAreClear : (Path → List ℕ → Type 0) → Type 0
  EdgesAreClear take = (edge : Edge) → IsEdgeFrom take (length log) edge → IsEdgeClear edge
