-- What is read of a copy when it is opened.
use Rattle.std.proofs.Common.{ℕ, ◌/◌, ◌%◌, List, Option}
use Rattle.mirror_folders.specs.Shelf.{Put}
use Rattle.mirror_sources.specs.Recorded.{KeepsRecord}
use Rattle.log_reader.specs.EdgeRows.{Edge}
use Rattle.copy_reader.specs.Ends.{IsEndShown, IsReadAtEnd}
use Rattle.copy_reader.proofs.Damage.{bundle_before, edge_before}

-- a bundle at the end that was read after the puts were kept could be read before
pub end_before : (digest : List ℕ → List ℕ) (held after : Option (List Put)) → KeepsRecord held after → (edge : Edge) →
    IsEndShown digest after edge → IsEndShown digest held edge
end_before digest held after kept edge end some =
    let found = end some in
    (found.0, bundle_before held after kept (edge.size / 256) (edge.size % 256) found.0 found.1, found.2)

-- what was read after the puts were kept could be read before
pub read_before : (digest : List ℕ → List ℕ) (held after : Option (List Put)) → KeepsRecord held after → (size : ℕ)
    (root : List ℕ) → IsReadAtEnd digest after size root → IsReadAtEnd digest held size root
read_before digest held after kept size root is = record {
  edge = is.edge;
  hashes = is.hashes;
  size_is = is.size_is;
  leads = is.leads;
  given = edge_before held after kept size is.edge is.given;
  end = end_before digest held after kept is.edge is.end;
}
