-- What is read of a copy when it is opened to be used: the rows of its edge, and the bundle at the end of the log, if that is partial.
use Rattle.std.specs.Prelude.{◌≡◌, ℕ, ◌/◌, ◌%◌, ◌<◌, List, Option}
use Rattle.tlog_tiles.specs.declared.paths.Path.TheVariants.{Entries}
use Rattle.mirror_folders.specs.Shelf.{Put, RecordsRead}
use Rattle.log_reader.specs.EdgeRows.{Edge, hash_of_edge}
use Rattle.log_reader.specs.FalseEdges.{IsEdgeGiven}
use Rattle.log_reader.specs.Parts.{IsPartGiven}
use Rattle.log_reader.specs.Ways.{HasEdgeHashes, IsShownBundle}

-- the shelf's bytes of the bundle at the end, if the log ends in a partial one, lead up to the edge. They stand at its path, or
-- nothing does and they are cut from the full bundle
abbrev pub IsEndShown : (List ℕ → List ℕ) → Option (List Put) → Edge → Type 0
IsEndShown digest held edge =
    0 < edge.size % 256 → (bytes : List ℕ)
    × IsPartGiven (RecordsRead held) (Entries (edge.size / 256) (edge.size % 256)) bytes
    × IsShownBundle digest edge (edge.size / 256) bytes

-- the shelf's rows of the edge lead to the root, and its bundle at the end leads up to them
pub record IsReadAtEnd (digest : List ℕ → List ℕ) (held : Option (List Put)) (size : ℕ) (root : List ℕ) : Type 0 where
  pub edge : Edge
  pub hashes : HasEdgeHashes edge
  pub size_is : edge.size ≡ size
  pub leads : hash_of_edge digest edge ≡ root
  pub given : IsEdgeGiven (RecordsRead held) size edge
  pub end : IsEndShown digest held edge
