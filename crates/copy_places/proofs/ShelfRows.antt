-- The edge rows on a shelf, which stayed as it was.
use Rattle.std.proofs.Common.{ℕ, List, Option}
use Rattle.mirror_sources.specs.Recorded.{KeepsRecord}
use Rattle.mirror_folders.specs.Partial.{IsReadPartial}
use Rattle.mirror_folders.specs.Shelf.{Put}
use Rattle.mirror_folders.proofs.PartialFiles.{partial_before}
use Rattle.copy_places.specs.FoundRows.{IsFoundRow}
use Rattle.copy_places.proofs.FoundRows.{row_weaker}

pub shelf_row_before : (old new : Option (List Put)) → KeepsRecord old new → (n level : ℕ) (row : Option (List (List ℕ))) →
    IsFoundRow (IsReadPartial new) n level row → IsFoundRow (IsReadPartial old) n level row
shelf_row_before old new kept n level row h =
    row_weaker (IsReadPartial new) (IsReadPartial old) (partial_before old new kept) n level row h
