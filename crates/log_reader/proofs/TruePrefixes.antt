-- Smaller sizes, and entries, of a log whose true rows were read.
use Rattle.std.proofs.Common.{◌≡◌, ℕ, ◌+◌, ◌*◌, ◌/◌, ◌%◌, ◌^◌, ◌<◌, ◌≤◌, List, [], ◌∷◌, length, take, get_or}
use Rattle.std.proofs.Common.{sym, ap, subst, ◌∙◌, arith}
use Rattle.std.proofs.Math.Seq.{drop-cons}
use Rattle.std.proofs.lemmas.List.{get_or-map, length-map, length-take-le}
use Rattle.tlog_shape.specs.Edge.{edge_index_of, width_of}
use Rattle.tlog_hash.specs.Tree.{leaf_hash, mth}
use Rattle.tlog_hash.specs.Rows.{level_row, part, ranges}
use Rattle.tlog_hash.proofs.Folds.{length-ranges}
use Rattle.tlog_hash.proofs.Trees.{mth-one}
use Rattle.mirror_model.proofs.RowLaws.{get_or-ranges}
use Rattle.log_reader.specs.EdgeRows.{Edge, RowIsTrue, hash_of_edge}
use Rattle.log_reader.specs.Holding.{IsEdgeRowOf, IsReaderOf, IsTrueWay, row_width, true_row}
use Rattle.log_reader.specs.Ways.{Reader}
use Rattle.log_reader.proofs.FalseFiles.{wide_in}
use Rattle.log_reader.proofs.Prefixes.{row_start, true_rows_lead}

module _ (digest : List ℕ → List ℕ) (entries : List (List ℕ)) where
  abbrev n : ℕ
  n = length entries

  -- ---- the row of a level of an earlier edge

  pub wide_enough : (size level : ℕ) → size ≤ n → width_of size level ≤ row_width n level (edge_index_of size level)
  wide_enough size level within = wide_in n size level within

  row_long : (level index : ℕ) (row : List (List ℕ)) → row ≡ true_row digest entries level index →
      length row ≡ row_width n level index
  row_long level index row is =
      let w = row_width n level index in
      let blocks = ranges (256 ^ level) (256 * index) w entries in
      ap length is ∙ (length-map blocks (mth digest) ∙ length-ranges (256 ^ level) (256 * index) w entries)

  pub start_within : (size level : ℕ) → size ≤ n → (row : List (List ℕ)) →
      row ≡ true_row digest entries level (edge_index_of size level) → width_of size level ≤ length row
  start_within size level within row is =
      omega (arith, wide_enough size level within, row_long level (edge_index_of size level) row is)

  pub start_is_true : (size level : ℕ) → size ≤ n → (row start : List (List ℕ)) →
      row ≡ true_row digest entries level (edge_index_of size level) → start ≡ take (width_of size level) row →
      IsEdgeRowOf digest size level (take size entries) start
  start_is_true size level within row start is begins =
      begins ∙ row_start digest entries size level (row_width n level (edge_index_of size level)) row
      (wide_enough size level within) is

  pub no_row_is_true : (size level : ℕ) (es row : List (List ℕ)) → width_of size level ≡ 0 → row ≡ [] →
      IsEdgeRowOf digest size level es row
  no_row_is_true size level es row none is =
      is ∙ ap (λ w. level_row digest es level (256 * edge_index_of size level) w) (sym none)

  pub size_first : (size : ℕ) → size ≤ n → length (take size entries) ≡ size
  size_first size within = length-take-le size entries within

  -- ---- an entry

  module _ (index : ℕ) (before : index < n) (row : List (List ℕ)) (is : row ≡ true_row digest entries 0 (index / 256)) where
    abbrev w : ℕ
    w = row_width n 0 (index / 256)

    pub leaf_within : index % 256 < length row
    leaf_within = omega (arith, row_long 0 (index / 256) row is, before)

    pub leaf_is : get_or row (index % 256) [] ≡ leaf_hash digest (get_or entries index [])
    leaf_is =
        let first = 256 * (index / 256) in
        let j = index % 256 in
        let whole : (first + j) * 1 ≡ index = omega arith in
        let blocks = ranges 1 first w entries in
        let lt : j < w = omega (arith, leaf_within, row_long 0 (index / 256) row is) in
        let x = get_or entries index [] in
        ap (λ (l : List (List ℕ)). get_or l j []) is
        ∙ (get_or-map (mth digest) blocks j [] [] (omega (arith, lt, length-ranges 1 first w entries))
        ∙ (ap (mth digest) (get_or-ranges 1 (omega arith) first w j entries lt)
        ∙ (ap (λ m. mth digest (part m 1 entries)) whole
        ∙ (ap (λ (l : List (List ℕ)). mth digest (take 1 l)) (drop-cons entries index [] before) ∙ mth-one digest x))))

-- a reader over an edge of true rows
pub reader_made : (digest : List ℕ → List ℕ) (entries : List (List ℕ)) (edge : Edge) (new : Reader) →
    length entries ≡ edge.size → length entries < 256 ^ 8 →
    ((level : ℕ) → level ≤ 7 → RowIsTrue digest edge entries level) → new.edge ≡ edge →
    new.root ≡ hash_of_edge digest edge → new.level ≡ 0 → new.index ≡ edge_index_of edge.size 0 → new.way ≡ [] →
    IsReaderOf digest entries new
reader_made digest entries edge new long small rows edge_is root_is level_is index_is way_is = record {
  size_is = ap (λ e. e.size) edge_is ∙ sym long;
  root_is = root_is ∙ true_rows_lead digest edge entries long small rows;
  edge = subst (λ e. (level : ℕ) → level ≤ 7 → RowIsTrue digest e entries level) (sym edge_is) rows;
  way = made new.way way_is;
}
  where
    made : (way : List (List (List ℕ))) → way ≡ [] → IsTrueWay digest entries new.level new.index way
    made [] e = (omega (arith, level_is), index_is ∙ ((λ i. edge_index_of (sym long i) (sym level_is i))))
    made (row ∷ above) e = absurd (cc e)
