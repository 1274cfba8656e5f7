-- The edge of the first entries is true, if it begins with true rows.
use Rattle.std.proofs.Common.{◌≡◌, ℕ, zero, suc, ◌+◌, ◌-◌, ◌*◌, ◌^◌, ◌<◌, ◌≤◌, List, [], ◌∷◌, length, map, take, drop}
use Rattle.std.proofs.Common.{inl, inr, refl, sym, ap, subst, ◌∙◌, arith, length-take}
use Rattle.std.proofs.Math.Nat.{div-mul-le_self}
use Rattle.std.proofs.lemmas.Bool.{cases_lt}
use Rattle.std.proofs.lemmas.List.{drop-take, length-take-le, nil_from_length, take-map, take-take}
use Rattle.tlog_shape.specs.Edge.{edge_index_of, width_of}
use Rattle.tlog_hash.specs.Tree.{mth}
use Rattle.tlog_hash.specs.Rows.{level_row, part, ranges}
use Rattle.tlog_tiles.proofs.EdgeLemmas.{hashes_of}
use Rattle.mirror_model.specs.Edge.{edge_levels, edge_root}
use Rattle.mirror_model.specs.Strings.{IsDigest}
use Rattle.mirror_model.proofs.EdgeRoots.{edge_root_is}
use Rattle.log_reader.specs.EdgeRows.{Edge, RowIsTrue, hash_of_edge, row_at}
use Rattle.log_reader.specs.Truth.{IsListClear, ShownPrefixesAreTrue}
use Rattle.log_reader.specs.Ways.{HasEdgeHashes, IsShownEdge, row_of_way}
use Rattle.log_reader.proofs.Truths.{IsIn, low_edge, shown_rows_are_true}

maps_from : (f g : ℕ → List (List ℕ)) (ls : List ℕ) → ((level : ℕ) → IsIn level ls → f level ≡ g level) → map f ls ≡ map g ls
maps_from f g [] each = refl
maps_from f g (l ∷ ls) each = λ i. each l (inl refl) i ∷ maps_from f g ls (λ level m. each level (inr m)) i

-- if all rows of an edge are true, they lead to the tree hash
pub true_rows_lead : (digest : List ℕ → List ℕ) (edge : Edge) (es : List (List ℕ)) → length es ≡ edge.size →
    length es < 256 ^ 8 → ((level : ℕ) → level ≤ 7 → RowIsTrue digest edge es level) →
    hash_of_edge digest edge ≡ mth digest es
true_rows_lead digest edge es long small each =
    ap (edge_root digest)
    (maps_from (row_at edge)
    (λ level. level_row digest es level (256 * edge_index_of edge.size level) (width_of edge.size level)) (edge_levels edge.size)
    (λ level m. each level (low_edge edge.size level m))
    ∙ ap (λ n. map (λ level. level_row digest es level (256 * edge_index_of n level) (width_of n level)) (edge_levels n))
    (sym long))
    ∙ edge_root_is digest es small

module _ {A : Type 0} (b : ℕ) where
  -- the first w of some ranges
  pub first_ranges : (w first count : ℕ) (es : List A) → w ≤ count → take w (ranges b first count es) ≡ ranges b first w es
  first_ranges zero first count es le = refl
  first_ranges (suc w) first zero es le = absurd (omega arith)
  first_ranges (suc w) first (suc count) es le =
      ap (λ rs. part (first * b) b es ∷ rs) (first_ranges w (first + 1) count es (omega arith))

  first_part : (start len n : ℕ) (es : List A) → start + len ≤ n → part start len (take n es) ≡ part start len es
  first_part start len n es fits =
      let m = n - start in
      let whole : n ≡ start + m = omega arith in
      ap (λ k. part start len (take k es)) whole
      ∙ (ap (take len) (drop-take start m es) ∙ take-take len m (drop start es) (omega arith))

  pub ranges_within : (first count n : ℕ) (es : List A) → (first + count) * b ≤ n →
      ranges b first count (take n es) ≡ ranges b first count es
  ranges_within first zero n es fits = refl
  ranges_within first (suc count) n es fits =
      let more : (first + suc count) * b ≡ (first * b + b) + count * b = omega arith in
      let same : (first + suc count) * b ≡ ((first + 1) + count) * b = omega arith in
      λ i. first_part (first * b) b n es (omega (arith, more)) i
      ∷ ranges_within (first + 1) count n es (omega (arith, same)) i

-- the first hashes of a true row are a true row of the first entries
pub row_start : (digest : List ℕ → List ℕ) (entries : List (List ℕ)) (k level long : ℕ) (row : List (List ℕ)) →
    width_of k level ≤ long → row ≡ level_row digest entries level (256 * edge_index_of k level) long →
    take (width_of k level) row
    ≡ level_row digest (take k entries) level (256 * edge_index_of k level) (width_of k level)
row_start digest entries k level long row enough is =
    let w = width_of k level in
    let from = 256 * edge_index_of k level in
    let upto : (from + w) * 256 ^ level ≤ k =
    subst (λ m. m * 256 ^ level ≤ k) (sym (hashes_of k level)) (div-mul-le_self k (256 ^ level)) in
    ap (take w) is
    ∙ (take-map (mth digest) w (ranges (256 ^ level) from long entries)
    ∙ (ap (map (mth digest)) (first_ranges (256 ^ level) w from long entries enough)
    ∙ ap (map (mth digest)) (sym (ranges_within (256 ^ level) from w k entries upto))))

module _ (digest : List ℕ → List ℕ) (hash : IsDigest digest) (edge first : Edge) (hashes : HasEdgeHashes edge)
    (small : edge.size < 2 ^ 64) (within : first.size ≤ edge.size) (shown : IsShownEdge digest edge first)
    (entries : List (List ℕ)) (long : length entries ≡ edge.size)
    (clear : (level : ℕ) (low : level ≤ 7) (some : 1 ≤ width_of first.size level) →
    IsListClear digest edge ((shown level low).shown some).shown.way entries) where
  abbrev k : ℕ
  k = first.size

  row_first : (level : ℕ) → level ≤ 7 → 1 ≤ width_of k level → RowIsTrue digest first (take k entries) level
  row_first level low some =
      let w = width_of k level in
      let start = (shown level low).shown some in
      let way = start.shown.way in
      let row = row_of_way edge level way in
      let from = 256 * edge_index_of k level in
      let is : row ≡ level_row digest entries level from (length row) =
      shown_rows_are_true digest hash edge hashes small level (edge_index_of k level) way start.shown.is_way entries
      (clear level low some) in
      let there : row_at first level ≡ take w row = start.start_is ∙ ap (take w) start.shown.row_is in
      let count : length (row_at first level) ≡ w = (shown level low).hashes.count in
      let enough : w ≤ length row = omega (arith, count, ap length there, length-take w row) in
      there ∙ row_start digest entries k level (length row) row enough is

  row_none : (level : ℕ) → level ≤ 7 → width_of k level ≡ 0 → RowIsTrue digest first (take k entries) level
  row_none level low none =
      nil_from_length (row_at first level) ((shown level low).hashes.count ∙ none)
      ∙ ap (λ w. level_row digest (take k entries) level (256 * edge_index_of k level) w) (sym none)

  rows_first : (level : ℕ) → level ≤ 7 → RowIsTrue digest first (take k entries) level
  rows_first level low = elim (cases_lt 0 (width_of k level)) [
    | inl some ↦ row_first level low some
    | inr none ↦ row_none level low (omega (arith, none))
  ]

  size_first : length (take k entries) ≡ k
  size_first = length-take-le k entries (omega (arith, long, within))

  pub prefix_is_true : hash_of_edge digest first ≡ mth digest (take k entries)
  prefix_is_true =
      true_rows_lead digest first (take k entries) size_first (omega (arith, size_first, within, small)) rows_first

pub shown_prefixes_are_true : ShownPrefixesAreTrue
shown_prefixes_are_true digest hash edge first hashes small within shown entries long clear =
    prefix_is_true digest hash edge first hashes small within shown entries long clear
