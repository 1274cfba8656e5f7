-- The place of a file within a list of entries.
use Rattle.std.proofs.Common.{ℕ, ◌+◌, ◌*◌, ◌/◌, ◌^◌, ◌≤◌, arith}
use Rattle.std.proofs.Math.Nat.{div-mul-le_self}
use Rattle.std.proofs.lemmas.Nat.{le-div, mul-le}
use Rattle.tlog_shape.proofs.Levels.{level_positive}
use Rattle.tlog_tiles.specs.Tiles.{IsTileWithin}
use Rattle.tlog_tiles.specs.Layout.{HoldsFile}

-- a tile is within n entries if its level has all its hashes
pub tile_of_file : (n level index width : ℕ) → level ≤ 7 → HoldsFile (n / 256 ^ level) index width →
    IsTileWithin n level index width
tile_of_file n level index width low h = record {
  level_fits = low;
  some = h.some;
  upto = h.upto;
  within =
      let fits : (256 * index + width) * 256 ^ level ≤ n / 256 ^ level * 256 ^ level =
      mul-le (256 * index + width) (256 ^ level) (n / 256 ^ level) (256 ^ level) h.within (omega arith) in
      omega (arith, fits, div-mul-le_self n (256 ^ level));
}

pub file_of_tile : (n level index width : ℕ) → IsTileWithin n level index width →
    HoldsFile (n / 256 ^ level) index width
file_of_tile n level index width h = record {
  some = h.some;
  upto = h.upto;
  within = le-div (256 * index + width) n (256 ^ level) (level_positive level) h.within;
}

-- a bundle is within n entries if the list has all its entries
pub tile_of_bundle : (n index width : ℕ) → HoldsFile n index width → IsTileWithin n 0 index width
tile_of_bundle n index width h = record {
  level_fits = omega arith;
  some = h.some;
  upto = h.upto;
  within = let fits = h.within in omega (arith, fits);
}

pub bundle_of_tile : (n index width : ℕ) → IsTileWithin n 0 index width → HoldsFile n index width
bundle_of_tile n index width h = record {
  some = h.some;
  upto = h.upto;
  within = let fits : (256 * index + width) * 1 ≤ n = h.within in omega (arith, fits);
}
