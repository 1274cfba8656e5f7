-- Partial files cut from full ones.
use Rattle.std.proofs.Common.{◌≡◌, ℕ, zero, suc, ◌+◌, ◌*◌, ◌^◌, ◌≤◌, All, List, ◌∷◌, ◌++◌, length, take, drop, map}
use Rattle.std.proofs.Common.{refl, sym, ap, ◌∙◌, arith}
use Rattle.std.proofs.lemmas.List.{length-map, length-take-le, take-append-drop, take-map, take-take, take_at}
use Rattle.std.proofs.lemmas.List.Elements.{All-map, All-take}
use Rattle.std.proofs.lemmas.List.Concat.{flat_map-append}
use Rattle.tlog_hash.specs.Rows.{level_row, part, ranges}
use Rattle.tlog_hash.specs.Tree.{mth}
use Rattle.tlog_hash.proofs.Folds.{length-ranges}
use Rattle.tlog_tiles.specs.Bundle.{bundle_text, entry_text}
use Rattle.tlog_tiles.specs.Cut.{IsFileCut}
use Rattle.tlog_tiles.specs.Row.{row_text}
use Rattle.tlog_tiles.specs.declared.paths.Path.{Path}
use Rattle.tlog_tiles.specs.declared.paths.Path.TheVariants.{Checkpoint, Tile, Entries}
use Rattle.tlog_tiles.specs.Tiles.{IsWithin, bundle_bytes, tile_bytes}
use Rattle.tlog_tiles.proofs.Cuts.{cuts_are_first}
use Rattle.tlog_tiles.proofs.RowLemmas.{length-row_text}
use Rattle.tlog_tiles.proofs.TileLemmas.{mth_size, served_is_read}
use Rattle.mirror_model.specs.Strings.{IsDigest}
use Rattle.mirror_model.specs.TrueLaws.{AreShort}
use Rattle.mirror_sources.specs.Files.{full_of}
use Rattle.mirror_sources.specs.Honest.{true_bytes}
use Rattle.log_reader.specs.Holding.{GoesOn}
use Rattle.copy_places.specs.Giving.{IsFirstOf}

-- the first w of some ranges
take_ranges : {A : Type 0} (b first w count : ℕ) (es : List A) → w ≤ count →
    take w (ranges b first count es) ≡ ranges b first w es
take_ranges b first zero count es le = refl
take_ranges b first (suc w) zero es le = absurd (omega arith)
take_ranges b first (suc w) (suc count) es le =
    λ i. part (first * b) b es ∷ take_ranges b (first + 1) w count es (omega arith) i

pub take_row : (digest : List ℕ → List ℕ) (es : List (List ℕ)) (level first w count : ℕ) → w ≤ count →
    take w (level_row digest es level first count) ≡ level_row digest es level first w
take_row digest es level first w count le =
    take-map (mth digest) w (ranges (256 ^ level) first count es) ∙ ap (map (mth digest)) (take_ranges (256 ^ level) first w count es le)

pub count_row : (digest : List ℕ → List ℕ) (es : List (List ℕ)) (level first w : ℕ) →
    length (level_row digest es level first w) ≡ w
count_row digest es level first w =
    length-map (ranges (256 ^ level) first w es) (mth digest) ∙ length-ranges (256 ^ level) first w es

-- the bytes of the first hashes of a row
pub front_row : (row : List (List ℕ)) (n : ℕ) → All (λ (h : List ℕ). length h ≡ 32) row → n ≤ length row →
    take (32 * n) (row_text row) ≡ row_text (take n row)
front_row row n sizes le =
    let front = row_text (take n row) in
    let back = row_text (drop n row) in
    let whole : row_text row ≡ front ++ back =
    ap row_text (sym (take-append-drop n row)) ∙ flat_map-append (λ (h : List ℕ). h) (take n row) (drop n row) in
    let long : length front ≡ 32 * n =
    length-row_text (take n row) (All-take (λ (h : List ℕ). length h ≡ 32) n row sizes)
    ∙ ap (λ k. 32 * k) (length-take-le n row le) in
    ap (take (32 * n)) whole ∙ take_at front back (32 * n) long

module _ (digest : List ℕ → List ℕ) (hash : IsDigest digest) (entries : List (List ℕ)) where
  -- the full tile begins with the partial tile
  pub tile_cut : (level index width : ℕ) (full : List ℕ) → width ≤ 256 → full ≡ tile_bytes digest entries level index 256 →
      take (32 * width) full ≡ tile_bytes digest entries level index width
  tile_cut level index width full le is =
      let row = level_row digest entries level (256 * index) 256 in
      let count : length row ≡ 256 = count_row digest entries level (256 * index) 256 in
      ap (take (32 * width)) is
      ∙ (front_row row width (row_sizes level (256 * index) 256) (omega (arith, count))
      ∙ ap row_text (take_row digest entries level (256 * index) width 256 le))
    where
      row_sizes : (level first width : ℕ) → All (λ (h : List ℕ). length h ≡ 32) (level_row digest entries level first width)
      row_sizes level first width = All-map (λ (h : List ℕ). length h ≡ 32) (mth digest) (ranges (256 ^ level) first width entries)
          (λ k d p. mth_size digest hash _)

-- the full bundle begins with the partial bundle
pub bundle_cut : (entries : List (List ℕ)) (index width : ℕ) → width ≤ 256 →
    bundle_text (take width (part (256 * index) 256 entries)) ≡ bundle_bytes entries index width
bundle_cut entries index width le = ap bundle_text (take-take width 256 (drop (256 * index) entries) le)

module _ (digest : List ℕ → List ℕ) (hash : IsDigest digest) (entries : List (List ℕ)) (short : AreShort entries) where
  -- a full file begins with the partial file
  pub full_begins : (n : ℕ) (path : Path) → IsWithin n path → IsWithin (length entries) (full_of path) →
      GoesOn path (true_bytes digest entries path) (true_bytes digest entries (full_of path))
  full_begins n Checkpoint within whole = absurd within
  full_begins n (Tile level index width) within whole =
      let full = tile_bytes digest entries level index 256 in
      let row = (served_is_read digest hash entries short).tile level index 256 in
      record {
        rest = drop (32 * width) full;
        bytes_are = sym (take-append-drop (32 * width) full)
            ∙ ap (λ (l : List ℕ). l ++ drop (32 * width) full)
            (tile_cut digest hash entries level index width full within.upto refl);
        whole = length-row_text (level_row digest entries level (256 * index) 256) row.sizes ∙ ap (λ k. 32 * k) row.count;
      }
  full_begins n (Entries index width) within whole =
      let es = part (256 * index) 256 entries in
      record {
        rest = bundle_text (drop width es);
        bytes_are = ap bundle_text (sym (take-append-drop width es))
            ∙ (flat_map-append entry_text (take width es) (drop width es)
            ∙ ap (λ (l : List ℕ). l ++ bundle_text (drop width es)) (bundle_cut entries index width within.upto));
        whole = (es, (served_is_read digest hash entries short).bundle index 256 whole);
      }

  -- true bytes that a full file begins with are its cut
  pub true_cut : (path : Path) (whole : List ℕ) → IsWithin (length entries) path →
      GoesOn path (true_bytes digest entries path) whole → IsFileCut path 256 whole (true_bytes digest entries path)
  true_cut Checkpoint whole within goes = absurd within
  true_cut (Tile level index width) whole within goes =
      let row = (served_is_read digest hash entries short).tile level index width in
      record {
        whole = goes.whole;
        own = length-row_text (level_row digest entries level (256 * index) width) row.sizes ∙ ap (λ n. 32 * n) row.count;
        rest = goes.rest;
        parts = goes.bytes_are;
      }
  true_cut (Entries index width) whole within goes = record {
    whole = goes.whole;
    own = (part (256 * index) width entries, (served_is_read digest hash entries short).bundle index width within);
    rest = goes.rest;
    parts = goes.bytes_are;
  }

  -- so each cut of it has the true bytes
  pub cut_true : (path : Path) (whole cut : List ℕ) → IsWithin (length entries) path →
      GoesOn path (true_bytes digest entries path) whole → IsFileCut path 256 whole cut → cut ≡ true_bytes digest entries path
  cut_true path whole cut within goes is =
      cuts_are_first.one path 256 whole cut (true_bytes digest entries path) is (true_cut path whole within goes)

-- a file begins with its cut
pub cut_first : (path : Path) (wider : ℕ) (file part : List ℕ) → IsFileCut path wider file part → IsFirstOf file part
cut_first path wider file part is = let first = cuts_are_first.first path wider file part is in record { rest = first.0; full_is = first.1 }
