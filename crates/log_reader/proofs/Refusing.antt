-- A file has one row.
use Rattle.std.proofs.Common.{◌≡◌, ◌≢◌, ℕ, ◌*◌, List, [], ◌++◌, length, map, Ok, Err, sym, ap, ◌∙◌}
use Rattle.std.specs.List.{flat_map}
use Rattle.std.proofs.lemmas.List.{length-map}
use Rattle.tlog_hash.specs.Tree.{fold_of, leaf_hash}
use Rattle.tlog_tiles.specs.Bundle.{entry_text, ReadsBundle}
use Rattle.tlog_tiles.specs.Row.{IsRow}
use Rattle.tlog_tiles.specs.declared.bundle.BundleFault.{BundleFault}
use Rattle.tlog_tiles.specs.declared.bundle.BundleFault.TheVariants.{OutOfMemory}
use Rattle.tlog_tiles.proofs.BundleLemmas.{answer_one, bundle_one}
use Rattle.tlog_tiles.proofs.RowLemmas.{length-row_text, row_one}
use Rattle.log_reader.specs.Verified.{HasLeaves, IsRowOf, Verifies}
use Rattle.log_reader.specs.declared.verify.FullFile.{FullFile}
use Rattle.log_reader.specs.declared.verify.FullFile.TheVariants.{Tile, Bundle}

pub no_row : (width : ℕ) (bytes : List ℕ) → length bytes ≢ 32 * width → (row : List (List ℕ)) → IsRow width bytes row → ⊥
no_row width bytes other row h =
    let count = h.count in
    other (ap length h.text ∙ (length-row_text row h.sizes ∙ ap (λ n. 32 * n) count))

module _ (digest : List ℕ → List ℕ) where
  pub no_leaves : (width : ℕ) (bytes : List ℕ) (fault : BundleFault) → fault ≢ OutOfMemory → ReadsBundle width bytes (Err fault) →
      (row : List (List ℕ)) → HasLeaves digest width bytes row → ⊥
  no_leaves width bytes fault other reads row h =
      let same = answer_one width bytes (Ok h.entries) (Err fault) (λ e. cc) (λ e. other cc) h.is_bundle reads in
      absurd cc

  pub leaves_one : (width : ℕ) (bytes : List ℕ) (row other : List (List ℕ)) → HasLeaves digest width bytes row →
      HasLeaves digest width bytes other → row ≡ other
  leaves_one width bytes row other p q =
      let a = p.is_bundle in
      let b = q.is_bundle in
      let same : flat_map entry_text p.entries ++ [] ≡ flat_map entry_text q.entries ++ [] =
      ap (λ (x : List ℕ). x ++ []) (sym a.text ∙ b.text) in
      p.row_is ∙ (ap (map (leaf_hash digest))
      (bundle_one p.entries q.entries [] [] (a.count ∙ sym b.count) a.fits b.fits same).0 ∙ sym q.row_is)

  pub rows_one : (kind : FullFile) (bytes : List ℕ) (row other : List (List ℕ)) → IsRowOf digest kind bytes row →
      IsRowOf digest kind bytes other → row ≡ other
  rows_one Tile bytes row other p q = row_one row other p.sizes q.sizes (p.count ∙ sym q.count) (sym p.text ∙ q.text)
  rows_one Bundle bytes row other p q = leaves_one 256 bytes row other p q

  pub row_long : (kind : FullFile) (bytes : List ℕ) (row : List (List ℕ)) → IsRowOf digest kind bytes row → length row ≡ 256
  row_long Tile bytes row p = p.count
  row_long Bundle bytes row p = ap length p.row_is ∙ (length-map p.entries (leaf_hash digest) ∙ p.is_bundle.count)

  -- if the row of a file does not fold to the hash, the file does not verify
  pub other_fold : (kind : FullFile) (hash bytes : List ℕ) (row : List (List ℕ)) → IsRowOf digest kind bytes row →
      (fold_of digest row ≡ hash → ⊥) → (other : List (List ℕ)) → Verifies digest kind hash bytes other → ⊥
  other_fold kind hash bytes row is not other v =
      not (ap (fold_of digest) (rows_one kind bytes row other is v.is_row) ∙ v.folds)
