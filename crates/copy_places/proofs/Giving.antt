-- The files that places may give, call after call.
use Rattle.std.proofs.Common.{inl, inr, ℕ, List, Option, Some, arith}
use Rattle.tlog_tiles.specs.declared.paths.Path.{Path}
use Rattle.mirror_sources.specs.Files.{full_of}
use Rattle.log_reader.specs.EdgeRows.{Edge, row_at}
use Rattle.copy_places.specs.Giving.{IsEdgeFrom, IsRowFrom, MayGive, PartOf}
use Rattle.copy_places.specs.PlaceGets.{AsksPlaces}
use Rattle.copy_places.specs.declared.places.Places.{Places}

module _ {S : Type 0} (may : S → Path → Option (List ℕ) → Type 0) (failed : S → ℕ) (asked : S → Option (List Path)) where
  pub given_before : (so : Path → Type 0) (x y : Places S) (path : Path) (bytes : List ℕ) → AsksPlaces may failed asked so x y →
      MayGive may y path bytes → MayGive may x path bytes
  given_before so x y path bytes p g = record {
    index = g.index;
    listed = let lt = g.listed in omega (arith, lt, p.count);
    may_be = λ d. (p.each g.index d).later.stays path (Some bytes) (g.may_be d);
  }

pub part_weaker : (take also : Path → List ℕ → Type 0) → ((path : Path) (bytes : List ℕ) → take path bytes → also path bytes) →
    (path : Path) (bytes : List ℕ) → PartOf take path bytes → PartOf also path bytes
part_weaker take also f path bytes (inl h) = inl (f path bytes h)
part_weaker take also f path bytes (inr h) = inr (h.0, f (full_of path) h.0 h.1, h.2)

module _ (take also : Path → List ℕ → Type 0) (f : (path : Path) (bytes : List ℕ) → take path bytes → also path bytes) where
  pub row_weaker : (n level : ℕ) (row : List (List ℕ)) → IsRowFrom take n level row → IsRowFrom also n level row
  row_weaker n level row h = record {
    bytes = h.bytes;
    is_row = h.is_row;
    taken = λ some. part_weaker take also f _ h.bytes (h.taken some);
  }

  pub edge_weaker : (n : ℕ) (edge : Edge) → IsEdgeFrom take n edge → IsEdgeFrom also n edge
  edge_weaker n edge h = record {
    size_is = h.size_is;
    rows_are = λ level upto. row_weaker n level (row_at edge level) (h.rows_are level upto);
  }
