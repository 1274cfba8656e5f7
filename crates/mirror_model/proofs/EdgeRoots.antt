-- The root of the true edge rows.
use Rattle.std.proofs.Common.{subst, Bool, true, false, ◌≡◌, ℕ, zero, suc, ◌+◌, ◌*◌, ◌/◌, ◌%◌, ◌^◌, ◌<◌, ◌≤◌, List, []}
use Rattle.std.proofs.Common.{◌∷◌, ◌++◌, length, take, drop, sym, refl, ap, ◌∙◌, arith, length-drop, take-append-drop}
use Rattle.std.proofs.Common.{map}
use Rattle.std.proofs.lemmas.List.{length-map, map-append, drop-drop, take_all, nil_from_length}
use Rattle.std.proofs.lemmas.Nat.{mul-le}
use Rattle.std.proofs.lemmas.Bool.{eqb-true, eqb-false}
use Rattle.std.specs.Prelude.{nat_eq, cond, not, if◌then◌else◌}
use Rattle.std.specs.List.{filter}
use Rattle.std.proofs.Math.Nat.{pow-succ', div-add-mod, div-div-eq-div-mul, div-mul-le_self, lt-div-mul-add}
use Rattle.tlog_shape.specs.Edge.{width_of, edge_index_of}
use Rattle.tlog_hash.specs.Tree.{fold_of, mth}
use Rattle.tlog_hash.proofs.Trees.{mth-none}
use Rattle.tlog_hash.specs.Blocks.{IsCut, joined_up}
use Rattle.tlog_hash.specs.Rows.{ranges, level_row}
use Rattle.mirror_model.specs.Edge.{edge_levels, edge_widths, edge_row, edge_rows, edge_root, root_from}
use Rattle.tlog_hash.proofs.Folds.{joined_ranges, all_ranges, cut_push, cut_full, joined_push, length-ranges, mth-level}
use Rattle.tlog_shape.proofs.Levels.{level_positive}

-- the numbers of a level: b is 256^level, c is 256^(level + 1), q is n / b, p is n / c, w is the width
pub record IsLevel (n b c q p w : ℕ) : Type 0 where
  pub some : 0 < b
  pub start : p * c ≡ (256 * p) * b
  pub done : q * b ≡ (256 * p) * b + w * b
  pub upto : q * b ≤ n
  pub above : n < q * b + b
  pub sum : q ≡ 256 * p + w
  pub next : c ≡ 256 * b

pub level_is : (n level : ℕ) →
    IsLevel n (256 ^ level) (256 ^ (level + 1)) (n / 256 ^ level) (n / 256 ^ (level + 1)) (n / 256 ^ level % 256)
level_is n level =
    let b = 256 ^ level in
    let q = n / b in
    let some : 0 < b = level_positive level in
    let one_more : level + 1 ≡ suc level = omega arith in
    let next : 256 ^ (level + 1) ≡ 256 * b = ap (λ m. 256 ^ m) one_more ∙ pow-succ' 256 level in
    let p_is : n / 256 ^ (level + 1) ≡ q / 256 =
    ap (λ m. n / m) (next ∙ omega arith) ∙ sym (div-div-eq-div-mul n b 256) in
    let sum : q ≡ 256 * (n / 256 ^ (level + 1)) + q % 256 =
    sym (div-add-mod q 256) ∙ ap (λ m. 256 * m + q % 256) (sym p_is) in
    record {
      some = some;
      start = ap (λ m. n / 256 ^ (level + 1) * m) next ∙ omega arith;
      done = ap (λ m. m * b) sum ∙ omega arith;
      upto = div-mul-le_self n b;
      above = lt-div-mul-add some;
      sum = sum;
      next = next;
    }

-- the given number of levels, from that level on
abbrev pub levels_from : ℕ → ℕ → List ℕ
levels_from zero level = []
levels_from (suc levels) level = level ∷ levels_from levels (level + 1)

-- the edge rows level by level
abbrev pub edge_rows_from : (List ℕ → List ℕ) → ℕ → ℕ → List (List ℕ) → List (List (List ℕ))
edge_rows_from digest zero level es = []
edge_rows_from digest (suc levels) level es =
    if nat_eq (width_of (length es) level) 0
    then edge_rows_from digest levels (level + 1) es
    else edge_row digest es level ∷ edge_rows_from digest levels (level + 1) es

pub edge_rows-levels : (digest : List ℕ → List ℕ) (es : List (List ℕ)) →
    edge_rows digest es ≡ edge_rows_from digest 8 0 es
unfolding edge_levels
edge_rows-levels digest es = by_levels 8 0
  where
    by_levels : (levels level : ℕ) →
        map (edge_row digest es) (filter (λ l. not (nat_eq (width_of (length es) l) 0)) (levels_from levels level))
        ≡ edge_rows_from digest levels level es
    by_levels zero level = refl
    by_levels (suc levels) level = at (nat_eq (width_of (length es) level) 0) _ _ (by_levels levels (level + 1))
      where
        at : (x : Bool) (xs : List ℕ) (rows : List (List (List ℕ))) → map (edge_row digest es) xs ≡ rows →
            map (edge_row digest es) (cond (not x) (level ∷ xs) xs)
            ≡ (if x then rows else edge_row digest es level ∷ rows)
        at true xs rows e = e
        at false xs rows e = ap (λ rows. edge_row digest es level ∷ rows) e

-- the blocks of a level's row and the entries after them are a cut of everything from the start of the row
pub row_and_rest : {X : Type 0} (es : List X) (level c q p w : ℕ) → IsLevel (length es) (256 ^ level) c q p w →
    q * 256 ^ level < length es →
    IsCut (256 ^ level) (ranges (256 ^ level) (256 * p) w es ++ drop (q * 256 ^ level) es ∷ [])
    × (joined_up (ranges (256 ^ level) (256 * p) w es ++ drop (q * 256 ^ level) es ∷ []) ≡ drop (p * c) es)
row_and_rest es level c q p w h more =
    let b = 256 ^ level in
    let rows = ranges b (256 * p) w es in
    let rest = drop (q * b) es in
    let fits : (256 * p + w) * b ≤ length es = rw (← h.sum) h.upto in
    let len_rest = length-drop (q * b) es in (
      cut_push b rows rest (all_ranges b (256 * p) w es fits) (omega (arith, len_rest, more))
          (omega (arith, len_rest, h.above)),
      joined_push b rows rest
          ∙ ap (λ xs. xs ++ rest) (joined_ranges b (256 * p) w es)
          ∙ ap (λ n. take (w * b) (drop ((256 * p) * b) es) ++ drop n es) h.done
          ∙ ap (λ xs. take (w * b) (drop ((256 * p) * b) es) ++ xs) (sym (drop-drop (w * b) ((256 * p) * b) es))
          ∙ take-append-drop (w * b) (drop ((256 * p) * b) es)
          ∙ ap (λ n. drop n es) (sym h.start),
    )

module _ (digest : List ℕ → List ℕ) (es : List (List ℕ)) where
  pub fold_row_rest : (level c q p w : ℕ) → IsLevel (length es) (256 ^ level) c q p w → q * 256 ^ level < length es →
      fold_of digest (level_row digest es level (256 * p) w ++ mth digest (drop (q * 256 ^ level) es) ∷ [])
      ≡ mth digest (drop (p * c) es)
  fold_row_rest level c q p w h more =
      let b = 256 ^ level in
      let rows = ranges b (256 * p) w es in
      let rest = drop (q * b) es in
      let parts = row_and_rest es level c q p w h more in
      ap (fold_of digest) (sym (map-append (mth digest) rows (rest ∷ []))) ∙
      sym (mth-level digest level (rows ++ rest ∷ []) parts.0) ∙ ap (mth digest) parts.1

  pub fold_row : (level c q p w : ℕ) → IsLevel (length es) (256 ^ level) c q p w → length es ≡ q * 256 ^ level → 0 < w →
      fold_of digest (level_row digest es level (256 * p) w) ≡ mth digest (drop (p * c) es)
  fold_row level c q p w h end some =
      let b = 256 ^ level in
      let rows = ranges b (256 * p) w es in
      let fits : (256 * p + w) * b ≤ length es = rw (← h.sum) h.upto in
      let all = all_ranges b (256 * p) w es fits in
      let cut : IsCut b rows = cut_full b rows all (omega (arith, length-ranges b (256 * p) w es)) h.some in
      let whole : joined_up rows ≡ drop (p * c) es =
      joined_ranges b (256 * p) w es
      ∙ take_all (w * b) (drop ((256 * p) * b) es) (omega (arith, length-drop ((256 * p) * b) es, h.done))
      ∙ ap (λ n. drop n es) (sym h.start) in
      sym (mth-level digest level rows cut) ∙ ap (mth digest) whole

  -- the entries after the blocks of a level
  abbrev done : ℕ → List (List ℕ)
  done level = drop (length es / 256 ^ level * 256 ^ level) es

  no_more : (level : ℕ) → length es < 256 ^ (level + 0) → length es / 256 ^ level ≡ 0
  no_more level h =
      let e : level + 0 ≡ level = omega arith in
      let low : length es < 256 ^ level = subst (λ m. length es < 256 ^ m) e h in
      let q = length es / 256 ^ level in
      zero_from q (256 ^ level) (omega (arith, low, div-mul-le_self (length es) (256 ^ level)))
    where
      zero_from : (q b : ℕ) → q * b < b → q ≡ 0
      zero_from zero b h = refl
      zero_from (suc q) b h = let e : suc q * b ≡ b + q * b = omega arith in absurd (omega (arith, e))

  root_step : (level w p q c : ℕ) (rest : List (List (List ℕ))) (x : Bool) → nat_eq w 0 ≡ x →
      IsLevel (length es) (256 ^ level) c q p w → q * 256 ^ level < length es →
      (p * c < length es → root_from digest (mth digest (drop (p * c) es)) rest ≡ mth digest es) →
      root_from digest (mth digest (drop (q * 256 ^ level) es))
      (if x then rest else level_row digest es level (256 * p) w ∷ rest) ≡ mth digest es
  root_step level w p q c rest true e h more ih =
      let z : w ≡ 0 = eqb-true _ _ e in
      let zb : w * 256 ^ level ≡ 0 = ap (λ m. m * 256 ^ level) z ∙ omega arith in
      let same : q * 256 ^ level ≡ p * c = omega (arith, h.start, h.done, zb) in
      ap (λ n. root_from digest (mth digest (drop n es)) rest) same ∙ ih (omega (arith, same))
  root_step level w p q c rest false e h more ih =
      ap (λ v. root_from digest v rest) (fold_row_rest level c q p w h more) ∙ ih (omega (arith, h.start, h.done))

  edge_step : (level w p q c : ℕ) (rest : List (List (List ℕ))) (x : Bool) → nat_eq w 0 ≡ x →
      IsLevel (length es) (256 ^ level) c q p w → length es ≡ q * 256 ^ level →
      (length es ≡ p * c → edge_root digest rest ≡ mth digest es) →
      (p * c < length es → root_from digest (mth digest (drop (p * c) es)) rest ≡ mth digest es) →
      edge_root digest (if x then rest else level_row digest es level (256 * p) w ∷ rest) ≡ mth digest es
  edge_step level w p q c rest true e h end ih next =
      let z : w ≡ 0 = eqb-true _ _ e in
      let zb : w * 256 ^ level ≡ 0 = ap (λ m. m * 256 ^ level) z ∙ omega arith in
      ih (omega (arith, h.start, h.done, zb))
  edge_step level w p q c rest false e h end ih next =
      let some : w ≡ 0 → ⊥ = eqb-false _ _ e in
      let one : 1 * 256 ^ level ≤ w * 256 ^ level = mul-le _ _ _ _ (omega arith) (omega arith) in
      ap (λ v. root_from digest v rest) (fold_row level c q p w h end (omega arith)) ∙
      next (omega (arith, h.start, h.done, h.some, one))

  root_from-rows : (levels level : ℕ) → length es < 256 ^ (level + levels) →
      length es / 256 ^ level * 256 ^ level < length es →
      root_from digest (mth digest (done level)) (edge_rows_from digest levels level es) ≡ mth digest es
  root_from-rows zero level low more =
      ap (λ q. mth digest (drop (q * 256 ^ level) es)) (no_more level low) ∙
      (let z : 0 * 256 ^ level ≡ 0 = omega arith in ap (λ n. mth digest (drop n es)) z)
  root_from-rows (suc levels) level low more =
      let h = level_is (length es) level in
      let low' : length es < 256 ^ ((level + 1) + levels) =
      (let e : level + suc levels ≡ (level + 1) + levels = omega arith in subst (λ m. length es < 256 ^ m) e low) in
      root_step level (length es / 256 ^ level % 256) (length es / 256 ^ (level + 1)) (length es / 256 ^ level)
      (256 ^ (level + 1)) (edge_rows_from digest levels (level + 1) es) _ refl h more
      (root_from-rows levels (level + 1) low')

  edge_root-rows : (levels level : ℕ) → length es < 256 ^ (level + levels) →
      length es ≡ length es / 256 ^ level * 256 ^ level →
      edge_root digest (edge_rows_from digest levels level es) ≡ mth digest es
  edge_root-rows zero level low end =
      let z : length es ≡ 0 = end ∙ ap (λ q. q * 256 ^ level) (no_more level low) ∙ omega arith in
      sym (ap (mth digest) (nil_from_length es z) ∙ mth-none digest)
  edge_root-rows (suc levels) level low end =
      let h = level_is (length es) level in
      let low' : length es < 256 ^ ((level + 1) + levels) =
      (let e : level + suc levels ≡ (level + 1) + levels = omega arith in subst (λ m. length es < 256 ^ m) e low) in
      edge_step level (length es / 256 ^ level % 256) (length es / 256 ^ (level + 1)) (length es / 256 ^ level)
      (256 ^ (level + 1)) (edge_rows_from digest levels (level + 1) es) _ refl h end
      (edge_root-rows levels (level + 1) low') (root_from-rows levels (level + 1) low')

pub edge_root_is : (digest : List ℕ → List ℕ) (es : List (List ℕ)) → length es < 256 ^ 8 →
    edge_root digest (edge_rows digest es) ≡ mth digest es
edge_root_is digest es low =
    ap (edge_root digest) (edge_rows-levels digest es) ∙ edge_root-rows digest es 8 0 low (one (length es))
  where
    one : (n : ℕ) → n ≡ n / 256 ^ 0 * 256 ^ 0
    one n = omega arith

-- the true edge rows have the widths of the right edge
pub edge_rows_wide : (digest : List ℕ → List ℕ) (es : List (List ℕ)) →
    map length (edge_rows digest es) ≡ edge_widths (length es)
edge_rows_wide digest es = each (edge_levels (length es))
  where
    length-row : (b first count : ℕ) → length (map (mth digest) (ranges b first count es)) ≡ count
    length-row b first count = length-map (ranges b first count es) (mth digest) ∙ length-ranges b first count es

    each : (levels : List ℕ) → map length (map (edge_row digest es) levels) ≡ map (width_of (length es)) levels
    each [] = refl
    each (level ∷ levels) =
        λ i. length-row (256 ^ level) (256 * edge_index_of (length es) level) (width_of (length es) level) i
        ∷ each levels i
