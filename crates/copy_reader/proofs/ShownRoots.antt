-- The root of the first entries of a log is shown by its true rows.
use Rattle.std.proofs.Common.{◌≡◌, ℕ, zero, suc, ◌+◌, ◌-◌, ◌*◌, ◌/◌, ◌^◌, ◌<◌, ◌≤◌, List, [], ◌∷◌, length, take, map, get_or}
use Rattle.std.proofs.Common.{refl, sym, ap, subst, ◌∙◌, inl, inr, arith}
use Rattle.std.proofs.Math.Nat.{div-mul-le_self}
use Rattle.std.proofs.lemmas.Bool.{cases_lt}
use Rattle.std.proofs.lemmas.List.{length-take-le}
use Rattle.std.proofs.lemmas.Nat.{le-div}
use Rattle.tlog_shape.specs.Edge.{edge_index_of, width_of}
use Rattle.tlog_shape.proofs.Levels.{level_positive}
use Rattle.tlog_hash.specs.Tree.{fold_of, mth}
use Rattle.tlog_hash.specs.Rows.{level_row}
use Rattle.tlog_tiles.proofs.EdgeLemmas.{hashes_of}
use Rattle.mirror_model.specs.Edge.{all_levels}
use Rattle.mirror_model.specs.Strings.{IsDigest}
use Rattle.log_reader.specs.EdgeRows.{Edge, RowIsTrue}
use Rattle.log_reader.specs.Holding.{row_width, true_row}
use Rattle.log_reader.specs.Ways.{AreHashesOf, HasEdgeHashes, IsShownEdge, IsShownRow, row_of_way}
use Rattle.log_reader.proofs.Prefixes.{row_start, true_rows_lead}
use Rattle.log_reader.proofs.TruePrefixes.{wide_enough}
use Rattle.log_reader.proofs.TrueReads.{full_folds, hash_in_row, width_at_edge, width_full, within_row}
use Rattle.log_reader.proofs.Truths.{true_hashes}
use Rattle.copy_reader.specs.Shown.{IsShownRoot}

-- ---- an edge of true rows

at_level : (f : ℕ → List (List ℕ)) (level : ℕ) → level ≤ 7 → get_or (map f all_levels) level [] ≡ f level
at_level f zero low = refl
at_level f (suc zero) low = refl
at_level f (suc (suc zero)) low = refl
at_level f (suc (suc (suc zero))) low = refl
at_level f (suc (suc (suc (suc zero)))) low = refl
at_level f (suc (suc (suc (suc (suc zero))))) low = refl
at_level f (suc (suc (suc (suc (suc (suc zero)))))) low = refl
at_level f (suc (suc (suc (suc (suc (suc (suc zero))))))) low = refl
at_level f (suc (suc (suc (suc (suc (suc (suc (suc level)))))))) low = absurd (omega arith)

module _ (digest : List ℕ → List ℕ) (entries : List (List ℕ)) (size : ℕ) where
  abbrev edge_row_of : ℕ → List (List ℕ)
  edge_row_of level = level_row digest entries level (256 * edge_index_of size level) (width_of size level)

  abbrev true_edge : Edge
  true_edge = record { size = size; rows = map edge_row_of all_levels }

  rows_are_true : (level : ℕ) → level ≤ 7 → RowIsTrue digest true_edge entries level
  rows_are_true level low = at_level edge_row_of level low

  edge_hashes : IsDigest digest → HasEdgeHashes true_edge
  edge_hashes hash level low =
      subst (AreHashesOf (width_of size level)) (sym (rows_are_true level low))
      (true_hashes digest hash entries level (256 * edge_index_of size level) (width_of size level))

module _ (digest : List ℕ → List ℕ) (hash : IsDigest digest) (entries : List (List ℕ)) (small : length entries < 256 ^ 8)
  where
    abbrev n : ℕ
    n = length entries

    abbrev edge : Edge
    edge = true_edge digest entries n

    -- ---- the way of a true row

    at_edge : (level index : ℕ) → level ≤ 7 → index ≡ edge_index_of n level →
        IsShownRow digest edge level index (true_row digest entries level index)
    at_edge level index low is = record {
      way = [];
      is_way = (low, is);
      row_is = ap (λ j. true_row digest entries level j) is
          ∙ (ap (λ w. level_row digest entries level (256 * edge_index_of n level) w) (width_at_edge n level)
          ∙ sym (rows_are_true digest entries n level low));
    }

    below : (level index : ℕ) → level ≤ 7 → index < edge_index_of n level →
        IsShownRow digest edge (level + 1) (index / 256) (true_row digest entries (level + 1) (index / 256)) →
        IsShownRow digest edge level index (true_row digest entries level index)
    below level index low before above =
        let row = true_row digest entries level index in
        let up = row_of_way edge (level + 1) above.way in
        let full : row ≡ level_row digest entries level (256 * index) 256 =
        ap (λ w. level_row digest entries level (256 * index) w) (width_full n level index before) in
        record {
          way = row ∷ above.way;
          is_way = (
            record {
              hashes = subst (AreHashesOf 256) (sym full) (true_hashes digest hash entries level (256 * index) 256);
              within = within_row digest hash entries level index low before up (sym above.row_is);
              folds = ap (fold_of digest) full
                  ∙ full_folds digest hash entries level index _
                  (hash_in_row digest hash entries level index low before up (sym above.row_is));
            },
            above.is_way,
          );
          row_is = refl;
        }

    row_shown : (above level index : ℕ) → level + above ≡ 7 → index ≤ edge_index_of n level →
        IsShownRow digest edge level index (true_row digest entries level index)
    row_shown zero level index sum upto =
        let top : edge_index_of n 7 ≡ 0 = omega (arith, small) in
        let last : level ≡ 7 = omega (arith, sum) in
        let none : edge_index_of n level ≡ 0 = ap (λ l. edge_index_of n l) last ∙ top in
        at_edge level index (omega (arith, last)) (omega (arith, none, upto))
    row_shown (suc above) level index sum upto = elim (cases_lt index (edge_index_of n level)) [
      | inl before ↦
          let whole = hashes_of n (level + 1) in
          below level index (omega (arith, sum)) before
          (row_shown above (level + 1) (index / 256) (omega (arith, sum)) (omega (arith, whole, before)))
      | inr from ↦ at_edge level index (omega (arith, sum)) (omega (arith, from, upto))
    ]

    -- ---- the first entries

    module _ (k : ℕ) (within : k ≤ n) where
      abbrev firsts : List (List ℕ)
      firsts = take k entries

      abbrev start : Edge
      start = true_edge digest firsts k

      fewer : (level : ℕ) → edge_index_of k level ≤ edge_index_of n level
      fewer level =
          let c = 256 ^ (level + 1) in
          le-div (k / c) n c (level_positive (level + 1)) (omega (arith, div-mul-le_self k c, within))

      edge_shown : IsShownEdge digest edge start
      edge_shown level low =
          let index = edge_index_of k level in
          let row = true_row digest entries level index in
          record {
            hashes = edge_hashes digest firsts k hash level low;
            shown = λ some. record {
              row = row;
              shown = row_shown (7 - level) level index (omega arith) (fewer level);
              start_is = rows_are_true digest firsts k level low
                  ∙ sym (row_start digest entries k level (row_width n level index) row (wide_enough digest entries k level within) refl);
            };
          }

      long : length firsts ≡ k
      long = length-take-le k entries within

      pub root_is_shown : IsShownRoot digest n (mth digest entries) k (mth digest firsts)
      root_is_shown = record {
        edge = edge;
        hashes = edge_hashes digest entries n hash;
        size_is = refl;
        leads = true_rows_lead digest edge entries refl small (rows_are_true digest entries n);
        start = start;
        shown = edge_shown;
        first_is = refl;
        first_leads = true_rows_lead digest start firsts long (omega (arith, long, within, small))
            (rows_are_true digest firsts k);
      }
