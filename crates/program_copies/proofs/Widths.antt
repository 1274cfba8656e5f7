-- The tiles within a tree, by the widest of their level and index.
use Rattle.std.proofs.Common.{◌≡◌, ℕ, ◌<◌, ◌≤◌, Option, inl, inr, arith}
use Rattle.std.specs.Option.{unwrap_or}
use Rattle.std.specs.Prelude.{IfSome, IfNone}
use Rattle.std.proofs.lemmas.Bool.{cases_lt}
use Rattle.std.proofs.lemmas.Bool.Decides.{eqb_tells}
use Rattle.tlog_shape.specs.Edge.{width_of, edge_index_of, IsTile}
use Rattle.tlog_tiles.specs.Tiles.{IsTileWithin}
use Rattle.tlog_tiles.proofs.EdgeLemmas.{hashes_of}
use Rattle.mirror_folders.specs.Since.{width_at}
use Rattle.mirror_folders.proofs.AllFiles.{upto_hashes}
use Rattle.mirror_folders.proofs.FilePaths.{tile_within}
use Rattle.log_reader.specs.Holding.{row_width}
use Rattle.mirror_folders.proofs.PlaceWidths.{width_edge, width_found, width_full, width_none}

pub within_upto : (n level index width : ℕ) → IsTileWithin n level index width → width ≤ width_at n level index
within_upto n level index width h =
    let e = edge_index_of n level in
    let upto = h.upto in
    let some = h.some in
    elim (cases_lt index e) [
      | inl before ↦ (let is : width_at n level index ≡ 256 = width_full n level index before in omega (arith, is, upto))
      | inr after ↦
          let hashes = hashes_of n level in
          let top = upto_hashes n level index width h in
          let few : width_of n level < 256 = omega arith in
          let same : index ≡ e = omega (arith, hashes, top, few, some, after) in
          let is : width_at n level index ≡ width_of n level = width_edge n level index same in
          omega (arith, is, hashes, top, same)
    ]

pub within_from : (n level index width : ℕ) → level ≤ 7 → 1 ≤ width → width ≤ width_at n level index →
    IsTileWithin n level index width
within_from n level index width fits some upto =
    let e = edge_index_of n level in
    let hashes = hashes_of n level in
    elim (cases_lt index e) [
      | inl before ↦
          let is : width_at n level index ≡ 256 = width_full n level index before in
          tile_within n level index width fits (omega arith) (omega (arith, is, upto)) (omega (arith, is, upto, hashes, before))
      | inr after ↦ elim (eqb_tells index e) [
        | inl same ↦
            let is : width_at n level index ≡ width_of n level = width_edge n level index same.1 in
            let few : width_of n level < 256 = omega arith in
            let at : index ≡ e = same.1 in
            tile_within n level index width fits (omega arith) (omega (arith, is, upto, few))
            (omega (arith, is, upto, hashes, at))
        | inr other ↦
            let is : width_at n level index ≡ 0 = width_none n level index after other.0 in
            absurd (omega (arith, is, upto, some))
      ]
    ]

-- the tile is at most at the edge
pub index_within : (n level index width : ℕ) → IsTileWithin n level index width → index ≤ edge_index_of n level
index_within n level index width h =
    let top = upto_hashes n level index width h in
    let hashes = hashes_of n level in
    let few : width_of n level < 256 = omega arith in
    omega (arith, top, hashes, few, h.some)

-- the tile's row has its hashes
pub row_reaches : (n level index width : ℕ) → IsTileWithin n level index width → width ≤ row_width n level index
row_reaches n level index width h =
    let top = upto_hashes n level index width h in
    let upto = h.upto in
    omega (arith, top, upto)

-- so the tree has the tile with all hashes of its row
pub row_within : (n level index width : ℕ) → IsTileWithin n level index width →
    IsTileWithin n level index (row_width n level index)
row_within n level index width h =
    let top = upto_hashes n level index width h in
    let some : 1 ≤ row_width n level index = omega (arith, row_reaches n level index width h, h.some) in
    tile_within n level index (row_width n level index) h.level_fits some (omega arith) (omega (arith, top))

-- the answer of the search for a width
pub widest_found : (n level index : ℕ) (found : Option ℕ) → IfSome found (λ width. IsTile n level index width) →
    IfNone found ((width : ℕ) → IsTile n level index width → ⊥) → unwrap_or found 0 ≡ width_at n level index
widest_found n level index found some none = width_found n level index found some none
