-- The hashes of the levels of a list of entries, and their bytes.
use Rattle.std.proofs.Common.{◌≡◌, ℕ, zero, suc, ◌+◌, ◌-◌, ◌*◌, ◌/◌, ◌^◌, ◌<◌, ◌≤◌, List, [], ◌∷◌, ◌++◌, length, take}
use Rattle.std.proofs.Common.{drop, map, get_or, refl, sym, ap, ◌∙◌, subst, inl, inr, arith, lit<, true, false, ◌==◌, All}
use Rattle.std.proofs.Math.Nat.{div-mul-le_self, div-one, lt-div-mul-add, mul-div-le}
use Rattle.std.proofs.lemmas.List.{take-map, drop-map, map-append, length-map, length-drop, take-append-drop, take_all}
use Rattle.std.proofs.lemmas.List.{length-append, get_or_append_left, get_or_push, get_or-map}
use Rattle.std.proofs.lemmas.List.Elements.{All-map}
use Rattle.std.proofs.lemmas.Nat.{mul-le}
use Rattle.std.proofs.lemmas.Bool.{cases_lt}
use Rattle.tlog_shape.proofs.Levels.{level_next, shift_level}
use Rattle.tlog_hash.specs.Rows.{part, ranges, level_row}
use Rattle.tlog_hash.specs.Tree.{fold_of, leaf_hash, mth}
use Rattle.tlog_tiles.specs.Row.{row_text}
use Rattle.tlog_tiles.proofs.TileLemmas.{row_folds, mth_size}
use Rattle.tlog_hash.proofs.Trees.{mth-none}
use Rattle.tlog_hash.proofs.LeafRanges.{rows_of_leaves}
use Rattle.tlog_hash.proofs.Folds.{length-ranges, joined_ranges, all_ranges, cut_push, cut_full, joined_push, mth-level}
use Rattle.tlog_hash.specs.Blocks.{IsCut, joined_up}
use Rattle.tlog_tiles.specs.Layout.{full_row, AreFullRows}

-- one more range
range_after : {A : Type 0} (b first count : ℕ) (es : List A) →
    ranges b first (count + 1) es ≡ ranges b first count es ++ part ((first + count) * b) b es ∷ []
range_after b first zero es = let e : first * b ≡ (first + 0) * b = omega arith in ap (λ n. part n b es ∷ []) e
range_after b first (suc count) es =
    let e : ((first + 1) + count) * b ≡ (first + suc count) * b = omega arith in
    let n : suc count + 1 ≡ suc (count + 1) = omega arith in
    ap (λ m. ranges b first m es) n ∙
    ap (λ xs. part (first * b) b es ∷ xs)
    (range_after b (first + 1) count es ∙ ap (λ m. ranges b (first + 1) count es ++ part m b es ∷ []) e)

pub next_range : {A : Type 0} (b count : ℕ) (es : List A) →
    ranges b 0 (count + 1) es ≡ ranges b 0 count es ++ part (count * b) b es ∷ []
next_range b count es =
    let e : (0 + count) * b ≡ count * b = omega arith in
    range_after b 0 count es ∙ ap (λ n. ranges b 0 count es ++ part n b es ∷ []) e

-- the first ranges, and those from one on
first_ranges : {A : Type 0} (b first w m : ℕ) (es : List A) → w ≤ m → take w (ranges b first m es) ≡ ranges b first w es
first_ranges b first zero m es le = refl
first_ranges b first (suc w) zero es le = absurd (omega arith)
first_ranges b first (suc w) (suc m) es le =
    ap (λ xs. part (first * b) b es ∷ xs) (first_ranges b (first + 1) w m es (omega arith))

part_ranges : {A : Type 0} (b first at w m : ℕ) (es : List A) → at + w ≤ m →
    part at w (ranges b first m es) ≡ ranges b (first + at) w es
part_ranges b first zero w m es le =
    let le' : w ≤ m = omega arith in
    let e : first ≡ first + 0 = omega arith in
    first_ranges b first w m es le' ∙ ap (λ n. ranges b n w es) e
part_ranges b first (suc at) w zero es le = absurd (omega arith)
part_ranges b first (suc at) w (suc m) es le =
    let e : (first + 1) + at ≡ first + suc at = omega arith in
    part_ranges b (first + 1) at w m es (omega arith) ∙ ap (λ n. ranges b n w es) e

-- the answer of a test of a length
pub some_of : (n : ℕ) → false ≡ (n == 0) → 0 < n
some_of zero e = absurd cc
some_of (suc n) e = omega arith

pub none_of : (n : ℕ) → true ≡ (n == 0) → n ≡ 0
none_of zero e = refl
none_of (suc n) e = grind arith

is_empty : {A : Type 0} (xs : List A) → length xs ≡ 0 → xs ≡ []
is_empty [] e = refl
is_empty (x ∷ xs) e = absurd (omega arith)

module _ (digest : List ℕ → List ℕ) (entries : List (List ℕ)) where
  -- a part of a level's hashes
  pub part_level : (level at w m : ℕ) → at + w ≤ m →
      part at w (level_row digest entries level 0 m) ≡ level_row digest entries level at w
  part_level level at w m le =
      let b = 256 ^ level in
      ap (take w) (drop-map (mth digest) at (ranges b 0 m entries))
      ∙ take-map (mth digest) w (drop at (ranges b 0 m entries))
      ∙ ap (map (mth digest))
      (part_ranges b 0 at w m entries le ∙ ap (λ n. ranges b n w entries) (let e : 0 + at ≡ at = omega arith in e))

  -- each hash of the level above is the hash over 256 hashes
  above : (level first count m : ℕ) → (first + count) * 256 ≤ m → m * 256 ^ level ≤ length entries →
      map (fold_of digest) (ranges 256 first count (level_row digest entries level 0 m))
      ≡ level_row digest entries (level + 1) first count
  above level first zero m le fits = refl
  above level first (suc count) m le fits =
      let b = 256 ^ level in
      let next : 256 ^ (level + 1) ≡ 256 * b = level_next level in
      let here : first * 256 + 256 ≤ m = omega arith in
      let fits' : (first * 256 + 256) * b ≤ m * b = mul-le (first * 256 + 256) b m b here (omega arith) in
      let start : first * 256 * b ≡ first * 256 ^ (level + 1) = rw next (omega arith) in
      let one : fold_of digest (part (first * 256) 256 (level_row digest entries level 0 m))
      ≡ mth digest (part (first * 256 ^ (level + 1)) (256 ^ (level + 1)) entries) =
      ap (fold_of digest) (part_level level (first * 256) 256 m here)
      ∙ row_folds digest entries level (first * 256) 256 (omega arith) (omega (arith, fits', fits))
      ∙ ap (λ n. mth digest (part n (256 * b) entries)) start
      ∙ ap (λ n. mth digest (part (first * 256 ^ (level + 1)) n entries)) (sym next) in
      let rest = above level (first + 1) count m (omega arith) fits in
      ap (λ (h : List ℕ). h
      ∷ map (fold_of digest) (ranges 256 (first + 1) count (level_row digest entries level 0 m))) one
      ∙ ap (λ hs. mth digest (part (first * 256 ^ (level + 1)) (256 ^ (level + 1)) entries) ∷ hs) rest

  pub length-full_row : (level : ℕ) → length (full_row digest entries level) ≡ length entries / 256 ^ level
  length-full_row level =
      length-map (ranges (256 ^ level) 0 (length entries / 256 ^ level) entries) (mth digest) ∙
      length-ranges (256 ^ level) 0 (length entries / 256 ^ level) entries

  pub next_level : (level : ℕ) (below row : List (List ℕ)) → below ≡ full_row digest entries level →
      row ≡ map (fold_of digest) (ranges 256 0 (length below / 256) below) → row ≡ full_row digest entries (level + 1)
  next_level level below row is is_row =
      let m = length entries / 256 ^ level in
      let count : length below / 256 ≡ m / 256 = ap (λ n. n / 256) (ap length is ∙ length-full_row level) in
      let fits : m / 256 * 256 ≤ m = div-mul-le_self m 256 in
      is_row
      ∙ ap (λ n. map (fold_of digest) (ranges 256 0 n below)) count
      ∙ ap (λ xs. map (fold_of digest) (ranges 256 0 (m / 256) xs)) is
      ∙ above level 0 (m / 256) m (omega (arith, fits)) (div-mul-le_self (length entries) (256 ^ level))
      ∙ ap (λ n. level_row digest entries (level + 1) 0 n) (shift_level (length entries) level)

  pub leaf_level : full_row digest entries 0 ≡ map (leaf_hash digest) entries
  leaf_level =
      let n = length entries in
      ap (λ m. level_row digest entries 0 0 m) (div-one n)
      ∙ rows_of_leaves digest n 0 entries (omega arith)
      ∙ ap (map (leaf_hash digest)) (take_all n entries (omega arith))

  -- one more level
  pub more_rows : (count : ℕ) (rows : List (List ℕ)) (row : List ℕ) →
      AreFullRows digest entries count rows → row ≡ row_text (full_row digest entries count) →
      AreFullRows digest entries (count + 1) (rows ++ row ∷ [])
  more_rows count rows row h is = record {
    count_is = omega (arith, h.count_is, length-append rows (row ∷ []));
    each = λ level lt. elim (cases_lt level count) [
      | inl before ↦ get_or_append_left rows (row ∷ []) [] level (omega (arith, before, h.count_is)) ∙
          h.each level before
      | inr upto ↦ let same : length rows ≡ level = omega (arith, upto, lt, h.count_is) in
          get_or_push rows row [] level same ∙ is ∙
          ap (λ n. row_text (full_row digest entries n)) (sym h.count_is ∙ same)
    ];
  }

  -- the first level only
  pub one_row : (row : List ℕ) → row ≡ row_text (full_row digest entries 0) → AreFullRows digest entries 1 (row ∷ [])
  one_row row is = record {
    count_is = refl;
    each = λ level lt. let zeroth : 0 ≡ level =
        omega arith in subst (λ k. get_or (row ∷ []) k [] ≡ row_text (full_row digest entries k)) zeroth is;
  }

  -- the entries after the last full range
  abbrev tail : List (List ℕ)
  tail = drop (length entries / 256 * 256) entries

  abbrev groups : List (List (List ℕ))
  groups = ranges 256 0 (length entries / 256) entries

  groups_fit : (0 + length entries / 256) * 256 ≤ length entries
  groups_fit =
      let h : length entries / 256 * 256 ≤ length entries = div-mul-le_self (length entries) 256 in omega (arith, h)

  joined_groups : joined_up groups ≡ take (length entries / 256 * 256) entries
  joined_groups = joined_ranges 256 0 (length entries / 256) entries

  -- the leaf hashes after the first ones
  leaves_behind : (leaves upper : List (List ℕ)) → leaves ≡ full_row digest entries 0 →
      upper ≡ full_row digest entries 1 → drop (256 * length upper) leaves ≡ map (leaf_hash digest) tail
  leaves_behind leaves upper is_leaves is_upper =
      let count : 256 * length upper ≡ length entries / 256 * 256 =
      let h : length upper ≡ length entries / 256 = ap length is_upper ∙ length-full_row 1 in omega (arith, h) in
      ap (λ n. drop n leaves) count ∙ ap (drop (length entries / 256 * 256)) (is_leaves ∙ leaf_level) ∙
      drop-map (leaf_hash digest) (length entries / 256 * 256) entries

  tail_size : length tail ≡ length entries - length entries / 256 * 256
  tail_size = length-drop (length entries / 256 * 256) entries

  -- the tree hash of the entries, if there are some after the last full range
  pub root_with_rest : (leaves upper rest row : List (List ℕ)) → leaves ≡ full_row digest entries 0 →
      upper ≡ full_row digest entries 1 → rest ≡ drop (256 * length upper) leaves → 0 < length rest →
      row ≡ upper ++ fold_of digest rest ∷ [] → fold_of digest row ≡ mth digest entries
  unfolding mth
  root_with_rest leaves upper rest row is_leaves is_upper is_rest some is_row =
      let behind : rest ≡ map (leaf_hash digest) tail = is_rest ∙ leaves_behind leaves upper is_leaves is_upper in
      let some' : 0 < length tail = omega (arith, some, ap length behind, length-map tail (leaf_hash digest)) in
      let few : length tail ≤ 256 = omega (arith, tail_size, lt-div-mul-add {a = length entries} {b = 256} (lit< tt)) in
      let cut : IsCut (256 ^ 1) (groups ++ tail ∷ []) =
      cut_push 256 groups tail (all_ranges 256 0 (length entries / 256) entries groups_fit) some' few in
      let whole : joined_up (groups ++ tail ∷ []) ≡ entries =
      joined_push 256 groups tail ∙ ap (λ xs. xs ++ tail) joined_groups ∙
      take-append-drop (length entries / 256 * 256) entries in
      let rows : row ≡ map (mth digest) (groups ++ tail ∷ []) =
      is_row ∙ ap (λ xs. xs ++ fold_of digest rest ∷ []) is_upper ∙
      ap (λ xs. full_row digest entries 1 ++ fold_of digest xs ∷ []) behind ∙
      sym (map-append (mth digest) groups (tail ∷ [])) in
      ap (fold_of digest) rows ∙ sym (mth-level digest 1 (groups ++ tail ∷ []) cut) ∙ ap (mth digest) whole

  -- the root of all entries from the upper row only, if no leaf hashes are left
  pub root_without_rest : (leaves upper rest : List (List ℕ)) → leaves ≡ full_row digest entries 0 →
      upper ≡ full_row digest entries 1 → rest ≡ drop (256 * length upper) leaves → 0 < length leaves →
      length rest ≡ 0 → fold_of digest upper ≡ mth digest entries
  root_without_rest leaves upper rest is_leaves is_upper is_rest some none =
      let behind : rest ≡ map (leaf_hash digest) tail = is_rest ∙ leaves_behind leaves upper is_leaves is_upper in
      let none' : length tail ≡ 0 = omega (arith, none, ap length behind, length-map tail (leaf_hash digest)) in
      let some' : 0 < length entries =
      omega (arith, some, ap length (is_leaves ∙ leaf_level), length-map entries (leaf_hash digest)) in
      let most : length entries ≤ length entries / 256 * 256 = omega (arith, tail_size, none') in
      let groups_some : 0 < length groups =
      omega (arith, length-ranges 256 0 (length entries / 256) entries, some', most) in
      let cut : IsCut (256 ^ 1) groups =
      cut_full 256 groups (all_ranges 256 0 (length entries / 256) entries groups_fit) groups_some (omega arith) in
      let whole : joined_up groups ≡ entries = joined_groups ∙ take_all (length entries / 256 * 256) entries most in
      ap (fold_of digest) is_upper ∙ sym (mth-level digest 1 groups cut) ∙ ap (mth digest) whole

  -- without entries there are no leaf hashes
  pub no_root : (leaves : List (List ℕ)) → leaves ≡ full_row digest entries 0 → length leaves ≡ 0 →
      digest [] ≡ mth digest entries
  no_root leaves is_leaves none =
      let empty : length entries ≡ 0 =
      omega (arith, none, ap length (is_leaves ∙ leaf_level), length-map entries (leaf_hash digest)) in
      sym (mth-none digest) ∙ ap (mth digest) (sym (is_empty entries empty))

  -- a level, read from a list of levels
  pub read_row : {X : Type 0} (f : X → List ℕ) (levels : List X) (count level : ℕ) (x : X) →
      AreFullRows digest entries count (map f levels) → level < count → x ≡ get_or levels level x →
      f x ≡ row_text (full_row digest entries level)
  read_row f levels count level x h lt is =
      ap f is ∙ sym (get_or-map f levels level x [] (omega (arith, h.count_is, length-map levels f, lt))) ∙
      h.each level lt

  -- if each digest has 32 bytes, each hash of a level has 32 bytes
  pub full_row_sizes : ((s : List ℕ) → length (digest s) ≡ 32) → (level : ℕ) →
      All (λ hash. length hash ≡ 32) (full_row digest entries level)
  full_row_sizes size level =
      All-map (λ (h : List ℕ). length h ≡ 32) (mth digest)
      (ranges (256 ^ level) 0 (length entries / 256 ^ level) entries) (λ k d p. mth_size digest size _)

  -- 256 hashes give one of the level above
  pub rows_fit : (leaves upper : List (List ℕ)) → leaves ≡ full_row digest entries 0 →
      upper ≡ full_row digest entries 1 → 256 * length upper ≤ length leaves
  rows_fit leaves upper is_leaves is_upper =
      omega (
        arith,
        ap length (is_leaves ∙ leaf_level),
        length-map entries (leaf_hash digest),
        ap length is_upper ∙ length-full_row 1,
        mul-div-le (length entries) 256,
      )
