-- True rows of a source that has a whole log.
use Rattle.std.proofs.Common.{◌≡◌, ℕ, ◌+◌, ◌-◌, ◌*◌, ◌/◌, ◌^◌, ◌<◌, ◌≤◌, List, [], length, get_or, sym, ap, subst, ◌∙◌, arith}
use Rattle.std.proofs.Math.Nat.{div-mul-le_self}
use Rattle.std.proofs.lemmas.List.{get_or-map}
use Rattle.std.proofs.lemmas.Nat.{mul-le}
use Rattle.tlog_shape.specs.Edge.{edge_index_of, width_of}
use Rattle.tlog_shape.proofs.Levels.{level_positive}
use Rattle.tlog_hash.specs.Rows.{level_row, part, ranges}
use Rattle.tlog_hash.specs.Tree.{mth}
use Rattle.tlog_hash.proofs.Folds.{length-ranges}
use Rattle.tlog_tiles.proofs.EdgeLemmas.{hashes_of}
use Rattle.mirror_model.proofs.RowLaws.{get_or-ranges}
use Rattle.mirror_model.proofs.TrueItems.{tile_end}
use Rattle.log_reader.specs.EdgeRows.{Edge, RowIsTrue, row_at}
use Rattle.log_reader.specs.Holding.{IsTileHash}
use Rattle.copy_reader.specs.WholeLogs.{IsTrueRow}

module _ (digest : List ℕ → List ℕ) (entries : List (List ℕ)) where
  abbrev n : ℕ
  n = length entries

  -- the row of a full tile
  pub tile_row_true : (level index : ℕ) (hash : List ℕ) (row : List (List ℕ)) → IsTileHash digest entries level index hash →
      row ≡ level_row digest entries level (256 * index) 256 → length row ≡ 256 → IsTrueRow digest entries level index row
  tile_row_true level index hash row t is long =
      let end : (256 * index + 256) * 256 ^ level ≡ (index + 1) * 256 ^ (level + 1) = tile_end level index in
      record {
        within = subst (λ w. (256 * index + w) * 256 ^ level ≤ n) (sym long) (omega (arith, end, t.fits));
        row_is = is ∙ ap (level_row digest entries level (256 * index)) (sym long);
      }

  -- the row of the edge
  pub edge_row_true : (edge : Edge) (level index : ℕ) (row : List (List ℕ)) → edge.size ≡ n → RowIsTrue digest edge entries level →
      row ≡ row_at edge level → length (row_at edge level) ≡ width_of edge.size level →
      index ≡ edge_index_of edge.size level → IsTrueRow digest entries level index row
  edge_row_true edge level index row size true_row is wide at =
      let long : length row ≡ width_of edge.size level = ap length is ∙ wide in
      let sum : 256 * index + length row ≡ edge.size / 256 ^ level = omega (arith, long, at, hashes_of edge.size level) in
      record {
        within = subst (λ m. m * 256 ^ level ≤ n) (sym sum)
            (subst (λ m. edge.size / 256 ^ level * 256 ^ level ≤ m) size (div-mul-le_self edge.size (256 ^ level)));
        row_is = is ∙ (true_row ∙ (λ i. level_row digest entries level (256 * sym at i) (sym long i)));
      }

  -- a hash of a true row is that of the full tile below it
  pub child_hash : (level index : ℕ) (row : List (List ℕ)) → IsTrueRow digest entries level index row → 1 ≤ level → level ≤ 7 →
      (i : ℕ) → i < length row → IsTileHash digest entries (level - 1) (256 * index + i) (get_or row i [])
  child_hash level index row t some upto i lt =
      let up : level - 1 + 1 ≡ level = omega (arith, some) in
      let b = 256 ^ level in
      let k = 256 * index + i in
      let w = length row in
      let blocks = ranges b (256 * index) w entries in
      let most : (k + 1) * b ≤ (256 * index + w) * b = mul-le (k + 1) b (256 * index + w) b (omega (arith, lt)) (omega arith) in
      let fits : (k + 1) * b ≤ n = omega (arith, most, t.within) in
      let is : get_or row i [] ≡ mth digest (part (k * b) b entries) =
      ap (λ (l : List (List ℕ)). get_or l i []) t.row_is
      ∙ (get_or-map (mth digest) blocks i [] [] (omega (arith, lt, length-ranges b (256 * index) w entries))
      ∙ ap (mth digest) (get_or-ranges b (level_positive level) (256 * index) w i entries lt)) in
      record {
        low = omega (arith, upto);
        fits = subst (λ l. (k + 1) * 256 ^ l ≤ n) (sym up) fits;
        hash_is = is ∙ ap (λ l. mth digest (part (k * 256 ^ l) (256 ^ l) entries)) (sym up);
      }
