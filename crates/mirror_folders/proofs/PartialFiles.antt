-- Partial files on a shelf, which stayed as it was.
use Rattle.std.proofs.Common.{ℕ, List, Option, Some, None, subst}
use Rattle.tlog_tiles.specs.Cut.{full_of}
use Rattle.tlog_tiles.specs.declared.paths.Path.{Path}
use Rattle.mirror_sources.specs.Recorded.{KeepsRecord}
use Rattle.mirror_folders.specs.Partial.{IsOfRead, IsReadCut, IsReadPartial}
use Rattle.mirror_folders.specs.Shelf.{Put, RecordsRead}

-- a file that is read later was there before
pub record_before : (old new : Option (List Put)) → KeepsRecord old new → (path : Path) (found : Option (List ℕ)) →
    RecordsRead new path found → RecordsRead old path found
record_before None new kept path None read = tt
record_before None new kept path (Some bytes) read = tt
record_before (Some xs) None kept path found read = absurd kept
record_before (Some xs) (Some ys) kept path found read = subst (λ (puts : List Put). RecordsRead (Some puts) path found) kept read

module _ (old new : Option (List Put)) (kept : KeepsRecord old new) (path : Path) (found : Option (List ℕ)) where
  pub cut_before : IsReadCut new path found → IsReadCut old path found
  cut_before h = record {
    full = h.full;
    read = record_before old new kept (full_of path) h.full h.read;
    gives = h.gives;
  }

  of_before : (own : Option (List ℕ)) → IsOfRead new path own found → IsOfRead old path own found
  of_before None h = cut_before h
  of_before (Some bytes) h = h

  pub partial_before : IsReadPartial new path found → IsReadPartial old path found
  partial_before h = record {
    own = h.own;
    read = record_before old new kept path h.own h.read;
    gives = of_before h.own h.gives;
  }
