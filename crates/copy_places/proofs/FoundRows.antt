-- Edge rows in partial tiles that are found elsewhere too.
use Rattle.std.proofs.Common.{ℕ, List, Option}
use Rattle.tlog_shape.specs.Edge.{edge_index_of, width_of}
use Rattle.tlog_tiles.specs.declared.paths.Path.{Path}
use Rattle.tlog_tiles.specs.declared.paths.Path.TheVariants.{Tile}
use Rattle.copy_places.specs.FoundRows.{IsFoundRow}

pub row_weaker : (finds also : Path → Option (List ℕ) → Type 0) →
    ((path : Path) (found : Option (List ℕ)) → finds path found → also path found) → (n level : ℕ) (row : Option (List (List ℕ))) →
    IsFoundRow finds n level row → IsFoundRow also n level row
row_weaker finds also more n level row h = record {
  empty = h.empty;
  some = λ some.
      let of = h.some some in
      record {
        found = of.found;
        tile = more (Tile level (edge_index_of n level) (width_of n level)) of.found of.tile;
        is_row = of.is_row;
      };
}
