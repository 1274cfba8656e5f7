-- The hashes of the nodes of a tree, from true rows.
use Rattle.std.proofs.Common.{◌≡◌, ℕ, zero, suc, ◌+◌, ◌-◌, ◌*◌, ◌/◌, ◌^◌, ◌<◌, ◌≤◌, List, [], ◌∷◌, ◌++◌, length, map, take, drop}
use Rattle.std.proofs.Common.{IfOk, IsSomeAnd, Option, Some, None, Result, Ok, Err, slice_range, refl, sym, ap, subst, ◌∙◌, arith, length-drop}
use Rattle.std.proofs.Math.Nat.{div-mul-le_self, lt-div-mul-add}
use Rattle.std.proofs.Math.Numerals.{add-one}
use Rattle.std.proofs.lemmas.List.{drop-drop, length-map, take-map, take_all}
use Rattle.std.proofs.lemmas.Nat.{mul-le}
use Rattle.tlog_shape.specs.Edge.{edge_index_of, width_of}
use Rattle.tlog_shape.proofs.Levels.{level_next, level_positive}
use Rattle.tlog_hash.specs.Tree.{fold_of, mth}
use Rattle.tlog_hash.specs.Rows.{level_row, part, ranges}
use Rattle.tlog_hash.proofs.Folds.{length-ranges}
use Rattle.tlog_tiles.proofs.EdgeLemmas.{hashes_of}
use Rattle.tlog_tiles.proofs.TileLemmas.{row_folds}
use Rattle.mirror_model.proofs.EdgeRoots.{IsLevel, fold_row, fold_row_rest}
use Rattle.log_reader.specs.EdgeRows.{Edge, RowIsTrue, row_at}
use Rattle.log_reader.specs.Nodes.{IsHashFrom, hash_below, hash_on_top}
use Rattle.log_reader.proofs.EdgeHashes.{below_next, below_none}
use Rattle.log_reader.proofs.Prefixes.{first_ranges}

module _ {A : Type 0} (b : ℕ) where
  -- the ranges of a list without its first k
  ranges_behind : (k first count : ℕ) (es : List A) → ranges b first count (drop (k * b) es) ≡ ranges b (k + first) count es
  ranges_behind k first zero es = refl
  ranges_behind k first (suc count) es =
      let at : k * b + first * b ≡ (k + first) * b = omega arith in
      let next : k + (first + 1) ≡ k + first + 1 = omega arith in
      let head : part (first * b) b (drop (k * b) es) ≡ part ((k + first) * b) b es =
      ap (take b) (drop-drop (first * b) (k * b) es ∙ ap (λ m. drop m es) at) in
      let rest : ranges b (first + 1) count (drop (k * b) es) ≡ ranges b (k + first + 1) count es =
      ranges_behind k (first + 1) count es ∙ ap (λ m. ranges b m count es) next in
      λ i. head i ∷ rest i

module _ (digest : List ℕ → List ℕ) (entries : List (List ℕ)) (level : ℕ) where
  abbrev b : ℕ
  b = 256 ^ level

  abbrev n : ℕ
  n = length entries

  -- the hashes of a row after its first ones
  pub row_behind : (first base wide count : ℕ) → wide ≡ first + count →
      drop first (level_row digest entries level base wide) ≡ level_row digest entries level (base + first) count
  row_behind zero base wide count sum =
      let same : base ≡ base + 0 = omega arith in
      let all : wide ≡ count = omega (arith, sum) in
      λ i. level_row digest entries level (same i) (all i)
  row_behind (suc first) base zero count sum = absurd (omega (arith, sum))
  row_behind (suc first) base (suc wide) count sum =
      let next : base + 1 + first ≡ base + suc first = omega arith in
      row_behind first (base + 1) wide count (omega (arith, sum)) ∙ ap (λ m. level_row digest entries level m count) next

  -- some hashes of a row
  pub row_part : (first base wide count : ℕ) → first + count ≤ wide →
      take count (drop first (level_row digest entries level base wide))
      ≡ level_row digest entries level (base + first) count
  row_part first base wide count fits =
      ap (take count) (row_behind first base wide (wide - first) (omega (arith, fits)))
      ∙ (take-map (mth digest) count (ranges b (base + first) (wide - first) entries)
      ∙ ap (map (mth digest)) (first_ranges b count (base + first) (wide - first) entries (omega (arith, fits))))

  pub row_count : (base wide : ℕ) → length (level_row digest entries level base wide) ≡ wide
  row_count base wide = length-map (ranges b base wide entries) (mth digest) ∙ length-ranges b base wide entries

  -- the hash of the node of some hashes of a true row
  pub part_folds : (start len index first count wide : ℕ) (row : List (List ℕ)) →
      row ≡ level_row digest entries level (256 * index) wide → first + count ≤ wide → 0 < count →
      (256 * index + first) * b ≡ start → count * b ≡ len → start + len ≤ n →
      fold_of digest (take count (drop first row)) ≡ mth digest (part start len entries)
  part_folds start len index first count wide row is fits some start_is len_is within =
      let apart : (256 * index + first + count) * b ≡ (256 * index + first) * b + count * b = omega arith in
      ap (λ r. fold_of digest (take count (drop first r))) is
      ∙ (ap (fold_of digest) (row_part first (256 * index) wide count fits)
      ∙ (row_folds digest entries level (256 * index + first) count some (omega (arith, apart, start_is, len_is, within))
      ∙ (λ i. mth digest (part (start_is i) (len_is i) entries))))

  -- ---- the last hashes of a level, from number k on, with the entries after them

  module _ (k w q : ℕ) (sum : q ≡ k + w) (upto : q * b ≤ n) (above : n < q * b + b) where
    abbrev es : List (List ℕ)
    es = drop (k * b) entries

    apart : q * b ≡ k * b + w * b
    apart = ap (λ m. m * b) sum ∙ omega arith

    long : length es ≡ n - k * b
    long = length-drop (k * b) entries

    numbers : IsLevel (length es) b (256 * b) w 0 w
    numbers = record {
      some = level_positive level;
      start = omega arith;
      done = omega arith;
      upto = omega (arith, long, apart, upto);
      above = omega (arith, long, apart, above, upto);
      sum = omega arith;
      next = refl;
    }

    row_is : level_row digest es level 0 w ≡ level_row digest entries level k w
    row_is =
        let same : k + 0 ≡ k = omega arith in
        ap (map (mth digest)) (ranges_behind b k 0 w entries ∙ ap (λ m. ranges b m w entries) same)

    all_is : drop (0 * (256 * b)) es ≡ es
    all_is = let none : 0 * (256 * b) ≡ 0 = omega arith in ap (λ m. drop m es) none

    rest_is : drop (w * b) es ≡ drop (q * b) entries
    rest_is = drop-drop (w * b) (k * b) entries ∙ ap (λ m. drop m entries) (sym apart)

    last_row : n ≡ q * b → 0 < w → fold_of digest (level_row digest entries level k w) ≡ mth digest es
    last_row end some =
        ap (fold_of digest) (sym row_is)
        ∙ (fold_row digest es level (256 * b) w 0 w numbers (omega (arith, long, apart, end)) some ∙ ap (mth digest) all_is)

    row_and_more : q * b < n →
        fold_of digest (level_row digest entries level k w ++ mth digest (drop (q * b) entries) ∷ []) ≡ mth digest es
    row_and_more more =
        (λ i. fold_of digest (sym row_is i ++ mth digest (sym rest_is i) ∷ []))
        ∙ (fold_row_rest digest es level (256 * b) w 0 w numbers (omega (arith, long, apart, more)) ∙ ap (mth digest) all_is)

    pub on_top_from : (below : Option (List ℕ)) (row : List (List ℕ)) → row ≡ level_row digest entries level k w →
        IsHashFrom digest entries (q * b) below → IsHashFrom digest entries (k * b) (hash_on_top digest below row)
    on_top_from below [] is from =
        let none : w ≡ 0 = omega (arith, ap length is, row_count k w) in
        let same : q * b ≡ k * b = ap (λ m. m * b) (omega (arith, sum, none)) in
        subst (λ m. IsHashFrom digest entries m below) same from
    on_top_from None (hash ∷ row) is end =
        let some : 0 < w = omega (arith, ap length is, row_count k w) in
        let one : 1 * b ≤ w * b = mul-le 1 b w b some (omega arith) in
        (omega (arith, one, apart, end, level_positive level), ap (fold_of digest) is ∙ last_row (sym end) some)
    on_top_from (Some value) (hash ∷ row) is from = (
      omega (arith, apart, from.0),
      (λ i. fold_of digest (is i ++ from.1 i ∷ [])) ∙ row_and_more from.0,
    )

  -- ---- the rows of the edge

  q_upto : n / b * b ≤ n
  q_upto = div-mul-le_self n b

  q_above : n < n / b * b + b
  q_above = lt-div-mul-add (level_positive level)

  -- with the row of one more level
  pub next_level : (below : Option (List ℕ)) (row : List (List ℕ)) →
      row ≡ level_row digest entries level (256 * edge_index_of n level) (width_of n level) →
      IsHashFrom digest entries (n / b * b) below →
      IsHashFrom digest entries (n / 256 ^ (level + 1) * 256 ^ (level + 1)) (hash_on_top digest below row)
  next_level below row is from =
      let p = edge_index_of n level in
      let w = width_of n level in
      let next : 256 * p * b ≡ p * 256 ^ (level + 1) = sym (ap (λ m. p * m) (level_next level) ∙ omega arith) in
      subst (λ m. IsHashFrom digest entries m (hash_on_top digest below row)) next
      (on_top_from (256 * p) w (n / b) (sym (hashes_of n level)) q_upto q_above below row is from)

  -- with the last hashes of the row of the last level
  pub last_level : (first : ℕ) (below : Option (List ℕ)) (row : List (List ℕ)) → first ≤ width_of n level →
      row ≡ level_row digest entries level (256 * edge_index_of n level) (width_of n level) →
      IsHashFrom digest entries (n / b * b) below →
      IsHashFrom digest entries ((256 * edge_index_of n level + first) * b) (hash_on_top digest below (drop first row))
  last_level first below row fits is from =
      let p = edge_index_of n level in
      let w = width_of n level in
      let rest : drop first row ≡ level_row digest entries level (256 * p + first) (w - first) =
      ap (drop first) is ∙ row_behind first (256 * p) w (w - first) (omega (arith, fits)) in
      on_top_from (256 * p + first) (w - first) (n / b) (omega (arith, fits, hashes_of n level)) q_upto q_above below
      (drop first row) rest from

-- the hash below a level is that of the entries after the whole blocks of the level
module _ (digest : List ℕ → List ℕ) (entries : List (List ℕ)) (edge : Edge) (size : edge.size ≡ length entries)
    (rows : (level : ℕ) → level ≤ 7 → RowIsTrue digest edge entries level) where
  pub true_row_at : (level : ℕ) → level ≤ 7 → row_at edge level
      ≡ level_row digest entries level (256 * edge_index_of (length entries) level) (width_of (length entries) level)
  true_row_at level low =
      rows level low ∙ ap (λ m. level_row digest entries level (256 * edge_index_of m level) (width_of m level)) size

  next_below : (level : ℕ) → level ≤ 7 →
      IsHashFrom digest entries (length entries / 256 ^ level * 256 ^ level) (hash_below digest edge level) →
      IsHashFrom digest entries (length entries / 256 ^ (level + 1) * 256 ^ (level + 1)) (hash_below digest edge (level + 1))
  next_below level low is =
      subst (IsHashFrom digest entries (length entries / 256 ^ (level + 1) * 256 ^ (level + 1)))
      (sym (below_next digest edge level))
      (next_level digest entries level (hash_below digest edge level) (row_at edge level) (true_row_at level low) is)

  pub below_true : (level : ℕ) → level ≤ 8 →
      IsHashFrom digest entries (length entries / 256 ^ level * 256 ^ level) (hash_below digest edge level)
  below_true zero low = subst (IsHashFrom digest entries (length entries / 256 ^ 0 * 256 ^ 0)) (sym (below_none digest edge))
      (omega arith)
  below_true (suc level) low =
      subst (λ l. IsHashFrom digest entries (length entries / 256 ^ l * 256 ^ l) (hash_below digest edge l)) (add-one level)
      (next_below level (omega (arith, low)) (below_true level (omega (arith, low))))

pub if_ok : {T E : Type 0} (P Q : T → Type 0) (r : Result T E) → ((x : T) → P x → Q x) → IfOk r P → IfOk r Q
if_ok P Q (Ok x) f p = f x p
if_ok P Q (Err e) f p = tt

-- a row from its first hash on
pub row_from : (row rest : List (List ℕ)) (first : ℕ) → rest ≡ slice_range row first (length row) → rest ≡ drop first row
row_from row rest first is = is ∙ take_all (length row - first) (drop first row) (omega (arith, length-drop first row))

-- entries come from "start" on, so they have a hash
pub from_end : (digest : List ℕ → List ℕ) (entries : List (List ℕ)) (start : ℕ) (found : Option (List ℕ)) → start < length entries →
    IsHashFrom digest entries start found → IsSomeAnd found (λ hash. hash ≡ mth digest (drop start entries))
from_end digest entries start None some h = absurd (omega (arith, some, h))
from_end digest entries start (Some hash) some h = h.1
