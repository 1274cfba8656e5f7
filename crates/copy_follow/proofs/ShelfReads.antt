-- Reads of a shelf, before and after calls that put nothing.
use Rattle.std.proofs.Common.{◌≡◌, ℕ, List, Option, Some, None, inl, inr, sym, subst}
use Rattle.tlog_tiles.specs.declared.paths.Path.{Path}
use Rattle.mirror_sources.specs.Files.{full_of}
use Rattle.mirror_sources.specs.Recorded.{KeepsRecord}
use Rattle.mirror_folders.specs.Partial.{IsCutOfRead, IsOfRead, IsReadCut, IsReadPartial}
use Rattle.mirror_folders.specs.Shelf.{Put, RecordsRead}
use Rattle.mirror_folders.proofs.PartialFiles.{partial_before}
use Rattle.log_reader.specs.EdgeRows.{Edge, row_at}
use Rattle.copy_places.specs.Giving.{PartOf}
use Rattle.copy_places.proofs.Giving.{part_weaker}
use Rattle.copy_follow.specs.Found.{IsEdgeRead, IsRowRead}
use Rattle.copy_follow.specs.Taken.{WasPut}
use Rattle.copy_follow.proofs.OnePlace.{put_before, put_read}

-- the bytes that were read were put there, or they are cut from a full file that was put
pub part_put : (x : Option (List Put)) (path : Path) (bytes : List ℕ) → RecordsRead x path (Some bytes) → PartOf (WasPut x) path bytes
part_put x path bytes h = inl (put_read x path bytes h)

module _ (x : Option (List Put)) (path : Path) (bytes : List ℕ) where
  pub cut_put : IsReadCut x path (Some bytes) → PartOf (WasPut x) path bytes
  cut_put h = by h.full h.read h.gives
    where
      by : (full : Option (List ℕ)) → RecordsRead x (full_of path) full → IsCutOfRead x path full (Some bytes) →
          PartOf (WasPut x) path bytes
      by None read gives = absurd (cc gives)
      by (Some full) read gives = inr (full, put_read x (full_of path) full read, gives)

  pub partial_put : IsReadPartial x path (Some bytes) → PartOf (WasPut x) path bytes
  partial_put h = by h.own h.read h.gives
    where
      by : (own : Option (List ℕ)) → RecordsRead x path own → IsOfRead x path own (Some bytes) → PartOf (WasPut x) path bytes
      by None read gives = cut_put gives
      by (Some own) read gives =
          let same : bytes ≡ own = cc gives in part_put x path bytes (subst (λ (b : List ℕ). RecordsRead x path (Some b)) (sym same) read)

pub row_before : (x y : Option (List Put)) (n level : ℕ) (row : List (List ℕ)) → KeepsRecord x y →
    IsRowRead y n level row → IsRowRead x n level row
row_before x y n level row k h = record {
  bytes = h.bytes;
  is_row = h.is_row;
  stands = λ some. partial_before x y k _ (Some h.bytes) (h.stands some);
  taken = λ some. part_weaker (WasPut y) (WasPut x) (λ path bytes put. put_before x y k path bytes put) _ h.bytes (h.taken some);
}

pub edge_before : (x y : Option (List Put)) (n : ℕ) (edge : Edge) → KeepsRecord x y → IsEdgeRead y n edge → IsEdgeRead x n edge
edge_before x y n edge k h = record {
  size_is = h.size_is;
  rows_are = λ level upto. row_before x y n level (row_at edge level) k (h.rows_are level upto);
}
