-- Files of a list of entries, for all answers of a source.
use Rattle.std.proofs.Common.{◌≡◌, inr, ℕ, ◌*◌, ◌<◌, List, length, Option, sym, ap, ◌∙◌}
use Rattle.tlog_shape.specs.Edge.{edge_index_of, width_of}
use Rattle.tlog_tiles.specs.Tiles.{bundle_bytes}
use Rattle.tlog_hash.specs.Rows.{level_row}
use Rattle.tlog_tiles.specs.declared.paths.Path.{Path}
use Rattle.tlog_tiles.specs.declared.paths.Path.TheVariants.{Entries, Tile}
use Rattle.tlog_tiles.specs.Row.{IsRow, row_text}
use Rattle.tlog_tiles.specs.Tiles.{tile_bytes}
use Rattle.mirror_model.specs.Strings.{IsDigest}
use Rattle.mirror_model.specs.TrueLaws.{AreShort}
use Rattle.log_reader.specs.Holding.{IsSourceOf, IsTileHash, IsTreeFile}
use Rattle.log_reader.specs.Verified.{Verifies}
use Rattle.log_reader.specs.declared.verify.FullFile.TheVariants.{Bundle}
use Rattle.log_reader.proofs.TrueBundles.{bundle_verifies}
use Rattle.log_reader.proofs.TrueReads.{full_folds, row_is_true}
use Rattle.copy_reader.proofs.WholeLogs.{tile_row_true}
use Rattle.tlog_hash.specs.Tree.{fold_of}
use Rattle.copy_reader.specs.Found.{FullBundle, FullTile, Here, IsVerified}
use Rattle.copy_reader.specs.Stops.{HasRow, HasTile}

module _ (digest : List ℕ → List ℕ) (hash : IsDigest digest) (entries : List (List ℕ)) where
  abbrev no_answer : Path → Option (List ℕ) → Type 0
  no_answer path answer = ⊥

  silent : AreShort entries → IsSourceOf digest entries no_answer
  silent short = record { short = short; files = λ path file answer h. absurd h }

  -- the true bytes of a full bundle verify
  pub short_verifies : AreShort entries → (index : ℕ) (h : List ℕ) → IsTileHash digest entries 0 index h → (bytes : List ℕ) →
      bytes ≡ bundle_bytes entries index 256 → Verifies digest Bundle h bytes (level_row digest entries 0 (256 * index) 256)
  short_verifies short index h t bytes is =
      bundle_verifies digest hash entries no_answer (silent short) index h t bytes is

  -- a full tile with its true bytes has a true row
  pub row_of_tile : (level index : ℕ) (h : List ℕ) (row : List (List ℕ)) → HasTile digest level index h entries →
      IsRow 256 (row_text row) row → row_text row ≡ tile_bytes digest entries level index 256 → HasRow digest level index row entries
  row_of_tile level index h row t is same = record {
    short = t.short;
    is_row = tile_row_true digest entries level index h row t.is_hash
        (row_is_true digest hash entries level index 256 (row_text row) row same is) is.count;
  }

  -- a full bundle that was read verifies
  pub bundle_verified : (index : ℕ) (h bytes : List ℕ) (row : List (List ℕ)) → HasTile digest 0 index h entries →
      Verifies digest Bundle h bytes row → IsVerified digest entries (Entries index 256) (Here bytes)
  bundle_verified index h bytes row t v =
      FullBundle index bytes row v.is_row (v.folds ∙ sym (full_folds digest hash entries 0 index h t.is_hash))

  pub tile_verified : (level index : ℕ) (h : List ℕ) (row : List (List ℕ)) → HasTile digest level index h entries →
      IsRow 256 (row_text row) row → fold_of digest row ≡ h →
      IsVerified digest entries (Tile level index 256) (Here (row_text row))
  tile_verified level index h row t is folds =
      FullTile level index (row_text row) row is (folds ∙ sym (full_folds digest hash entries level index h t.is_hash))

-- the partial bundle of some entries is one of their files
pub end_file : (n : ℕ) (entries : List (List ℕ)) (index width : ℕ) → n ≡ length entries → index ≡ edge_index_of n 0 →
    width ≡ width_of n 0 → 0 < width → IsTreeFile (length entries) (Entries index width)
end_file n entries index width size at wide some = inr (record {
  index_is = at ∙ ap (λ m. edge_index_of m 0) size;
  width_is = wide ∙ ap (λ m. width_of m 0) size;
  some = some;
})
