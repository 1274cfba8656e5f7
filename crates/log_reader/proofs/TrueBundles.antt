-- Bundles of a source that has the files of a log.
use Rattle.std.proofs.Common.{◌≡◌, ℕ, ◌+◌, ◌*◌, ◌^◌, ◌<◌, ◌≤◌, List, length, drop, Option, Some, None, inl, inr, refl, sym, ap, subst, ◌∙◌, arith}
use Rattle.std.proofs.lemmas.List.{length-map}
use Rattle.std.proofs.lemmas.List.Elements.{All-drop, All-take}
use Rattle.tlog_shape.specs.Edge.{edge_index_of, width_of}
use Rattle.tlog_hash.specs.Tree.{mth}
use Rattle.tlog_hash.specs.Rows.{level_row, part, ranges}
use Rattle.tlog_hash.proofs.Folds.{length-ranges}
use Rattle.tlog_hash.proofs.LeafRanges.{rows_of_leaves}
use Rattle.tlog_tiles.specs.Tiles.{bundle_bytes}
use Rattle.tlog_tiles.specs.declared.paths.Path.{Path}
use Rattle.tlog_tiles.specs.declared.paths.Path.TheVariants.{Entries}
use Rattle.tlog_tiles.proofs.EdgeLemmas.{hashes_of}
use Rattle.tlog_tiles.proofs.TileLemmas.{length-part}
use Rattle.mirror_model.specs.Strings.{IsDigest}
use Rattle.mirror_model.specs.TrueLaws.{AreShort}
use Rattle.log_reader.specs.Holding.{IsEndRow, IsSourceOf, IsTileHash, IsTreeFile}
use Rattle.log_reader.specs.Verified.{HasLeaves, Verifies}
use Rattle.log_reader.specs.declared.verify.FullFile.TheVariants as full
use Rattle.log_reader.proofs.TrueReads.{full_folds}

abbrev IsShort : List ℕ → Type 0
IsShort e = length e < 2 ^ 16

-- ---- bundles of a log

pub end_file : (digest : List ℕ → List ℕ) (entries : List (List ℕ)) (index : ℕ) (row : List (List ℕ)) →
    IsEndRow digest entries index row → IsTreeFile (length entries) (Entries index (length row))
end_file digest entries index row e = inr e.end.is_tile

module _ (digest : List ℕ → List ℕ) (hash : IsDigest digest) (entries : List (List ℕ)) where
  abbrev n : ℕ
  n = length entries

  -- the true bytes of a bundle have true leaf hashes
  pub bundle_leaves : (index width : ℕ) (bytes : List ℕ) → 256 * index + width ≤ n → AreShort entries →
      bytes ≡ bundle_bytes entries index width → HasLeaves digest width bytes (level_row digest entries 0 (256 * index) width)
  bundle_leaves index width bytes within short is = record {
    entries = part (256 * index) width entries;
    is_bundle = record {
      count = length-part entries (256 * index) width within;
      fits = All-take IsShort width (drop (256 * index) entries) (All-drop IsShort (256 * index) entries short);
      text = is;
    };
    row_is = rows_of_leaves digest width (256 * index) entries within;
  }

  module _ (may : Path → Option (List ℕ) → Type 0) (s : IsSourceOf digest entries may) (index : ℕ) (h : List ℕ)
      (t : IsTileHash digest entries 0 index h) where
    full_bundle : IsTreeFile n (Entries index 256)
    full_bundle = inl (record { fits = t.fits; width_is = refl })

    pub bundle_given : (bytes : List ℕ) → may (Entries index 256) (Some bytes) → bytes ≡ bundle_bytes entries index 256
    bundle_given bytes m = s.files (Entries index 256) full_bundle (Some bytes) m

    pub bundle_there : may (Entries index 256) None → ⊥
    bundle_there m = let way = s.files (Entries index 256) full_bundle None m in absurd (omega (arith, way.partial))

    pub bundle_verifies : (bytes : List ℕ) → bytes ≡ bundle_bytes entries index 256 →
        Verifies digest full.Bundle h bytes (level_row digest entries 0 (256 * index) 256)
    bundle_verifies bytes is = record {
      is_row = bundle_leaves index 256 bytes (let fits : (index + 1) * 256 ≤ n = t.fits in omega arith) s.short is;
      folds = full_folds digest hash entries 0 index h t;
    }

  -- ---- the partial bundle

  pub end_leaves : (index : ℕ) (row : List (List ℕ)) → IsEndRow digest entries index row → (bytes : List ℕ) →
      AreShort entries → bytes ≡ bundle_bytes entries index (length row) → HasLeaves digest (length row) bytes row
  end_leaves index row e bytes short is =
      subst (HasLeaves digest (length row) bytes) (sym e.row_is)
      (bundle_leaves index (length row) bytes (omega (arith, e.end.sum)) short is)

  -- the row of the edge has the leaf hashes of the partial bundle
  pub end_row : (index : ℕ) (row : List (List ℕ)) → 256 * index < n → index ≡ edge_index_of n 0 →
      row ≡ level_row digest entries 0 (256 * edge_index_of n 0) (width_of n 0) → IsEndRow digest entries index row
  end_row index row before at is =
      let w = width_of n 0 in
      let wide : length row ≡ w =
      ap length is ∙ (length-map (ranges 1 (256 * edge_index_of n 0) w entries) (mth digest)
      ∙ length-ranges 1 (256 * edge_index_of n 0) w entries) in
      let sum = hashes_of n 0 in
      record {
        end = record {
          is_tile = record { index_is = at; width_is = wide; some = omega (arith, sum, at, wide, before) };
          sum = omega (arith, sum, at, wide);
        };
        row_is = is ∙ (λ i. level_row digest entries 0 (256 * sym at i) (sym wide i));
      }
