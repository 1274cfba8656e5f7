-- A source that has the files of a log has its full tiles, and those of its first entries.
use Rattle.std.proofs.Common.{◌≡◌, ℕ, ◌+◌, ◌*◌, ◌^◌, ◌≤◌, List, length, map, take, Option, Some, None, Result, sym, ap, ◌∙◌, arith}
use Rattle.std.proofs.lemmas.List.{length-take-le}
use Rattle.tlog_hash.specs.Tree.{mth}
use Rattle.tlog_tiles.specs.Row.{row_text}
use Rattle.tlog_tiles.specs.Tiles.{tile_bytes}
use Rattle.tlog_tiles.specs.declared.paths.Path.{Path}
use Rattle.tlog_tiles.specs.declared.paths.Path.TheVariants.{Tile}
use Rattle.mirror_model.proofs.TrueItems.{tile_end}
use Rattle.log_reader.specs.Holding.{HasFirstTiles, HasFullTiles, IsHeldAnswer, IsSourceOf, ReadsOf, ReadsTilesOf}
use Rattle.log_reader.specs.Ways.{Reader}
use Rattle.log_reader.specs.declared.fault.ReadFault.{ReadFault}
use Rattle.log_reader.proofs.Prefixes.{ranges_within}
use Rattle.log_reader.proofs.TrueReads.{full_tile}

module _ (digest : List ℕ → List ℕ) (entries : List (List ℕ)) (may : Path → Option (List ℕ) → Type 0) where
  given : (level index : ℕ) (answer : Option (List ℕ)) → IsHeldAnswer digest entries may (Tile level index 256) answer →
      answer ≡ Some (tile_bytes digest entries level index 256)
  given level index (Some bytes) h = ap Some h
  given level index None h = absurd (omega (arith, h.partial))

  pub source_tiles : IsSourceOf digest entries may → HasFullTiles digest entries may
  source_tiles s = record {
    tiles = λ level index low fits answer m.
        given level index answer
        (s.files (Tile level index 256) (full_tile (length entries) level index low fits) answer m);
  }

  -- a full tile of the first entries is a full tile of all entries
  first_tile : (size level index : ℕ) → (index + 1) * 256 ^ (level + 1) ≤ size →
      tile_bytes digest (take size entries) level index 256 ≡ tile_bytes digest entries level index 256
  first_tile size level index fits =
      let end : (256 * index + 256) * 256 ^ level ≡ (index + 1) * 256 ^ (level + 1) = tile_end level index in
      let within : (256 * index + 256) * 256 ^ level ≤ size = omega (arith, end, fits) in
      ap (λ (rs : List (List (List ℕ))). row_text (map (mth digest) rs))
      (ranges_within (256 ^ level) (256 * index) 256 size entries within)

  pub first_tiles : (size : ℕ) → size ≤ length entries → HasFullTiles digest entries may →
      HasFullTiles digest (take size entries) may
  first_tiles size within h = record {
    tiles = λ level index low fits answer m.
        let long = length-take-le size entries within in
        let upto : (index + 1) * 256 ^ (level + 1) ≤ size = omega (arith, long, fits) in
        h.tiles level index low (omega (arith, upto, within)) answer m ∙ ap Some (sym (first_tile size level index upto));
  }

pub has_first_tiles : (digest : List ℕ → List ℕ) (may : Path → Option (List ℕ) → Type 0) → HasFirstTiles digest may
has_first_tiles digest may entries s size within =
    first_tiles digest entries may size within (source_tiles digest entries may s)

-- a read that is true if the source has the full tiles is true if it has all files
pub reads_of_source : {T : Type 0} (digest : List ℕ → List ℕ) (old new : Reader) (may : Path → Option (List ℕ) → Type 0)
    (result : Result T ReadFault) (claim : List (List ℕ) → T → Type 0) → ReadsTilesOf digest old new may result claim →
    ReadsOf digest old new may result claim
reads_of_source digest old new may result claim reads entries reader s = reads entries reader (source_tiles digest entries may s)
