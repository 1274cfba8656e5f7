-- Partial files, cut from wider ones.
use Rattle.std.proofs.Common.{◌≡◌, ℕ, zero, suc, false, nat_eq, ◌+◌, ◌-◌, ◌*◌, ◌^◌, ◌<◌, ◌≤◌, List, [], ◌∷◌, ◌++◌, length, All, take, drop, map}
use Rattle.std.proofs.Common.{refl, sym, ap, subst, ◌∙◌, arith}
use Rattle.std.proofs.lemmas.List.{append-nil, length-append, length_push, length-take-le}
use Rattle.std.proofs.lemmas.List.{take-append-drop, take-map, take-take, take_at}
use Rattle.std.proofs.lemmas.List.Concat.{flat_map-append}
use Rattle.std.proofs.lemmas.List.Elements.{All-nil, All-push, All-take}
use Rattle.tlog_hash.specs.Rows.{level_row, part, ranges}
use Rattle.tlog_hash.specs.Tree.{mth}
use Rattle.tlog_tiles.specs.Bundle.{HasBundle, IsBundle, bundle_text, entry_text}
use Rattle.tlog_tiles.specs.Cut.{HasEntries, HasFormat, HasRowLength, IsFileCut, IsPart, of_width}
use Rattle.tlog_tiles.specs.Laws.{CutsAreFirst, CutsOfTrueBytes}
use Rattle.tlog_tiles.specs.Row.{row_text}
use Rattle.tlog_tiles.specs.Tiles.{IsTileWithin, bundle_bytes, tile_bytes}
use Rattle.tlog_tiles.specs.declared.paths.Path.{Path}
use Rattle.tlog_tiles.specs.declared.paths.Path.TheVariants.{Checkpoint, Tile, Entries}
use Rattle.tlog_tiles.proofs.BundleLemmas.{bundle_one, joined_push, ok_long, whole_bundle}
use Rattle.tlog_tiles.proofs.RowLemmas.{length-row_text}
use Rattle.tlog_tiles.proofs.TileLemmas.{served_is_read}

-- ---- entries read one after another

pub none_read : (bytes : List ℕ) → HasBundle 0 bytes bytes
none_read bytes = record {
  front = [];
  entries = [];
  parts = refl;
  is_bundle = record { count = refl; fits = All-nil (λ e. length e < 2 ^ 16); text = refl };
}

pub one_read : (count : ℕ) (bytes rest e after : List ℕ) → HasBundle count bytes rest → length e < 2 ^ 16 →
    rest ≡ entry_text e ++ after → HasBundle (count + 1) bytes after
one_read count bytes rest e after h fits is = record {
  front = bundle_text (h.entries ++ e ∷ []);
  entries = h.entries ++ e ∷ [];
  parts = joined_push bytes rest after e h.entries (h.parts ∙ ap (λ (f : List ℕ). f ++ rest) h.is_bundle.text) is;
  is_bundle = record {
    count = length_push h.entries e ∙ ap (λ n. n + 1) h.is_bundle.count;
    fits = All-push (λ (x : List ℕ). length x < 2 ^ 16) h.entries e h.is_bundle.fits fits;
    text = refl;
  };
}

-- ---- the first entries of a bundle

-- a bundle of that many entries is the bytes before an empty rest
pub whole_read : (count : ℕ) (bytes rest : List ℕ) → HasBundle count bytes rest → rest ≡ [] → HasEntries count bytes
whole_read count bytes rest h none =
    let same : bytes ≡ h.front = h.parts ∙ (ap (λ (r : List ℕ). h.front ++ r) none ∙ append-nil h.front) in
    (h.entries, subst (λ (b : List ℕ). IsBundle count b h.entries) (sym same) h.is_bundle)

pub first_read : (width wider : ℕ) (bytes rest part : List ℕ) → HasEntries wider bytes → HasBundle width bytes rest →
    part ≡ take (length bytes - length rest) bytes → IsPart HasEntries width wider bytes part
first_read width wider bytes rest part whole h is =
    let len : length h.front ≡ length bytes - length rest = omega (arith, ap length h.parts, length-append h.front rest) in
    let same : part ≡ h.front =
    is ∙ (ap (take (length bytes - length rest)) h.parts ∙ take_at h.front rest (length bytes - length rest) len) in
    record {
      whole = whole;
      own = (h.entries, subst (λ (b : List ℕ). IsBundle width b h.entries) (sym same) h.is_bundle);
      rest = rest;
      parts = h.parts ∙ ap (λ (f : List ℕ). f ++ rest) (sym same);
    }

-- the part is at the front
pub part_read : (width wider : ℕ) (bytes part : List ℕ) (h : IsPart HasEntries width wider bytes part) → HasBundle width bytes h.rest
part_read width wider bytes part h = record { front = part; entries = h.own.0; parts = h.parts; is_bundle = h.own.1 }

pub too_few : (width wider : ℕ) (bytes : List ℕ) → ((rest : List ℕ) → HasBundle width bytes rest → ⊥) → (part : List ℕ) →
    IsPart HasEntries width wider bytes part → ⊥
too_few width wider bytes none part h = none h.rest (part_read width wider bytes part h)

pub not_wide : (width wider : ℕ) (bytes : List ℕ) → ((rest : List ℕ) → HasBundle wider bytes rest → ⊥) → (part : List ℕ) →
    IsPart HasEntries width wider bytes part → ⊥
not_wide width wider bytes none part h = none [] (whole_bundle wider bytes h.whole.0 h.whole.1)

pub too_wide : (width wider : ℕ) (bytes rest : List ℕ) → HasBundle wider bytes rest → nat_eq (length rest) 0 ≡ false →
    (part : List ℕ) → IsPart HasEntries width wider bytes part → ⊥
too_wide width wider bytes [] read some part h = absurd cc
too_wide width wider bytes (x ∷ rest) read some part h = ok_long wider bytes h.whole.0 x rest h.whole.1 read

-- ---- laws

one_row : (width wider : ℕ) (file first second : List ℕ) → IsPart HasRowLength width wider file first →
    IsPart HasRowLength width wider file second → first ≡ second
one_row width wider file first second a b =
    sym (take_at first a.rest (32 * width) a.own)
    ∙ (ap (take (32 * width)) (sym a.parts ∙ b.parts) ∙ take_at second b.rest (32 * width) b.own)

one_bundle : (width wider : ℕ) (file first second : List ℕ) → IsPart HasEntries width wider file first →
    IsPart HasEntries width wider file second → first ≡ second
one_bundle width wider file first second a b =
    let p = a.own.1 in
    let q = b.own.1 in
    let same : bundle_text a.own.0 ++ a.rest ≡ bundle_text b.own.0 ++ b.rest =
    ap (λ (f : List ℕ). f ++ a.rest) (sym p.text) ∙ (sym a.parts ∙ (b.parts ∙ ap (λ (f : List ℕ). f ++ b.rest) q.text)) in
    p.text ∙ (ap bundle_text (bundle_one a.own.0 b.own.0 a.rest b.rest (p.count ∙ sym q.count) p.fits q.fits same).0 ∙ sym q.text)

cut_one : (path : Path) (wider : ℕ) (file a b : List ℕ) → IsFileCut path wider file a → IsFileCut path wider file b → a ≡ b
cut_one Checkpoint wider file a b p q = absurd p
cut_one (Tile level index width) wider file a b p q = one_row width wider file a b p q
cut_one (Entries index width) wider file a b p q = one_bundle width wider file a b p q

cut_first : (path : Path) (wider : ℕ) (file part : List ℕ) → IsFileCut path wider file part →
    (rest : List ℕ) × (file ≡ part ++ rest)
cut_first Checkpoint wider file part p = absurd p
cut_first (Tile level index width) wider file part p = (p.rest, p.parts)
cut_first (Entries index width) wider file part p = (p.rest, p.parts)

cut_begins : (path : Path) (wider : ℕ) (file part rest : List ℕ) → HasFormat (of_width path wider) file →
    HasFormat path part → file ≡ part ++ rest → IsFileCut path wider file part
cut_begins Checkpoint wider file part rest whole own parts = absurd own
cut_begins (Tile level index width) wider file part rest whole own parts =
    record { whole = whole; own = own; rest = rest; parts = parts }
cut_begins (Entries index width) wider file part rest whole own parts =
    record { whole = whole; own = own; rest = rest; parts = parts }

pub cuts_are_first : CutsAreFirst
cuts_are_first = record { one = cut_one; first = cut_first; begins = cut_begins }

-- the first of some ranges
take_ranges : {A : Type 0} (b first width wider : ℕ) (es : List A) → width ≤ wider →
    take width (ranges b first wider es) ≡ ranges b first width es
take_ranges b first zero wider es le = refl
take_ranges b first (suc width) zero es le = absurd (omega arith)
take_ranges b first (suc width) (suc wider) es le =
    λ i. part (first * b) b es ∷ take_ranges b (first + 1) width wider es (omega arith) i

module _ (digest : List ℕ → List ℕ) (size : (s : List ℕ) → length (digest s) ≡ 32) (entries : List (List ℕ))
    (fits : All (λ entry. length entry < 2 ^ 16) entries) where
  true_row : (level index width : ℕ) → HasRowLength width (tile_bytes digest entries level index width)
  true_row level index width =
      let row = (served_is_read digest size entries fits).tile level index width in
      length-row_text (level_row digest entries level (256 * index) width) row.sizes ∙ ap (λ n. 32 * n) row.count

  pub tiles_begin : (level index width wider : ℕ) → width ≤ wider →
      IsPart HasRowLength width wider (tile_bytes digest entries level index wider) (tile_bytes digest entries level index width)
  tiles_begin level index width wider le =
      let row = level_row digest entries level (256 * index) wider in
      let front : take width row ≡ level_row digest entries level (256 * index) width =
      take-map (mth digest) width (ranges (256 ^ level) (256 * index) wider entries)
      ∙ ap (map (mth digest)) (take_ranges (256 ^ level) (256 * index) width wider entries le) in
      record {
        whole = true_row level index wider;
        own = true_row level index width;
        rest = row_text (drop width row);
        parts = ap row_text (sym (take-append-drop width row))
            ∙ (flat_map-append (λ (h : List ℕ). h) (take width row) (drop width row)
            ∙ ap (λ (r : List (List ℕ)). row_text r ++ row_text (drop width row)) front);
      }

  pub bundles_begin : (index width wider : ℕ) → width ≤ wider → IsTileWithin (length entries) 0 index wider →
      IsPart HasEntries width wider (bundle_bytes entries index wider) (bundle_bytes entries index width)
  bundles_begin index width wider le within =
      let es = part (256 * index) wider entries in
      let whole = (served_is_read digest size entries fits).bundle index wider within in
      let front : take width es ≡ part (256 * index) width entries = take-take width wider (drop (256 * index) entries) le in
      record {
        whole = (es, whole);
        own = (
          part (256 * index) width entries,
          record {
            count = ap length (sym front) ∙ length-take-le width es (let n = whole.count in omega (arith, n, le));
            fits = subst (λ (l : List (List ℕ)). All (λ entry. length entry < 2 ^ 16) l) front
                (All-take (λ (e : List ℕ). length e < 2 ^ 16) width es whole.fits);
            text = refl;
          },
        );
        rest = bundle_text (drop width es);
        parts = ap bundle_text (sym (take-append-drop width es))
            ∙ (flat_map-append entry_text (take width es) (drop width es)
            ∙ ap (λ (l : List (List ℕ)). bundle_text l ++ bundle_text (drop width es)) front);
      }

pub cuts_of_true : CutsOfTrueBytes
cuts_of_true digest size entries fits = record {
  tile = tiles_begin digest size entries fits;
  bundle = bundles_begin digest size entries fits;
}
