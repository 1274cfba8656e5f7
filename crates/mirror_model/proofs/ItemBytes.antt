-- Items: their bytes, and what they add to a view.
use Rattle.std.proofs.Common.{◌≡◌, ℕ, ◌*◌, ◌/◌, ◌<◌, ◌^◌, List, [], ◌∷◌, ◌++◌, length, take, drop, sym, refl, ap, ◌∙◌}
use Rattle.std.proofs.Common.{append_assoc, arith}
use Rattle.std.specs.List.{flat_map, AllByRecursion}
use Rattle.std.specs.Int.{w16, to_be_bytes, from_be_bytes}
use Rattle.std.proofs.lemmas.List.{take_at, drop_at, append-nil, take_all}
use Rattle.std.proofs.lemmas.List.Elements.{All-from_recursion, recursion_from_All}
use Rattle.std.proofs.lemmas.Nat.{from_be_bytes-to_be_bytes_2}
use Rattle.tlog_hash.proofs.Folds.{all_ranges, length-ranges, joined_ranges}
use Rattle.tlog_tiles.specs.Bundle.{entry_text}
use Rattle.tlog_tiles.proofs.RowLemmas.{row_one, length-row_text}
use Rattle.mirror_model.specs.Item.{row_of, entries_of}
use Rattle.mirror_model.specs.ItemLaws.{RowOfIsRow, RowIsRowOf, BundleIsEntriesOf}

-- ---- bytes

-- the entries at the start of the bytes
entries_at : (es : List (List ℕ)) (after : List ℕ) → AllByRecursion (λ e. length e < 2 ^ 16) es →
    entries_of (length es) (flat_map entry_text es ++ after) ≡ es
entries_at [] after short = refl
entries_at (e ∷ es) after short =
    let len : from_be_bytes w16 (to_be_bytes w16 (length e)) ≡ length e =
    from_be_bytes-to_be_bytes_2 (length e) short.0 in
    let rest = flat_map entry_text es ++ after in
    let text : (e ++ flat_map entry_text es) ++ after ≡ e ++ rest = append_assoc e (flat_map entry_text es) after in
    (λ i. take (len i) (text i) ∷ entries_of (length es) (drop (len i) (text i)))
    ∙ (λ i. take_at e rest (length e) refl i ∷ entries_of (length es) (drop_at e rest (length e) refl i))
    ∙ ap (λ xs. e ∷ xs) (entries_at es after short.1)

pub bundle_is_one : BundleIsEntriesOf
bundle_is_one width bytes es b =
    sym (ap (λ w. entries_of w bytes) (sym b.count) ∙
    ap (entries_of (length es)) (b.text ∙ sym (append-nil (flat_map entry_text es))) ∙
    entries_at es [] (recursion_from_All (λ e. length e < 2 ^ 16) es b.fits))

pub row_is_row : RowOfIsRow
row_is_row width bytes len =
    let count : length bytes / 32 ≡ width = ap (λ n. n / 32) len ∙ omega arith in
    record {
      count = length-ranges 32 0 (length bytes / 32) bytes ∙ count;
      sizes = All-from_recursion (λ h. length h ≡ 32) (row_of bytes)
          (all_ranges 32 0 (length bytes / 32) bytes (omega (arith, count)));
      text = sym
          (joined_ranges 32 0 (length bytes / 32) bytes ∙
          take_all (length bytes / 32 * 32) bytes (omega (arith, count)));
    }

pub row_is_one : RowIsRowOf
row_is_one width bytes row r =
    let len : length bytes ≡ 32 * width = ap length r.text ∙ length-row_text row r.sizes ∙ ap (λ n. 32 * n) r.count in
    let s = row_is_row width bytes len in
    row_one row (row_of bytes) r.sizes s.sizes (r.count ∙ sym s.count) (sym r.text ∙ s.text)
