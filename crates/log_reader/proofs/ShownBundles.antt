-- Shown bundles are true.
use Rattle.std.proofs.Common.{◌≡◌, ℕ, ◌+◌, ◌*◌, ◌%◌, ◌^◌, ◌<◌, ◌≤◌, List, [], ◌∷◌, ◌++◌, length, map, drop, get_or}
use Rattle.std.proofs.Common.{All, inl, inr, refl, sym, ap, subst, ◌∙◌, arith}
use Rattle.std.specs.FinSet as set
use Rattle.std.specs.List.{Contains}
use Rattle.std.proofs.lemmas.List.{get_or-map, length-map}
use Rattle.std.proofs.lemmas.List.Elements.{All-drop, All-from_get_or, All-head, All-map, All-tail, All-take}
use Rattle.std.proofs.lemmas.List.Elements.{All-weaker, Contains-append_cases, Contains-append_left, Contains-append_right, Contains-get_or}
use Rattle.tlog_shape.specs.Edge.{edge_index_of, width_of}
use Rattle.tlog_hash.specs.Tree.{joins, leaf_hash, strings}
use Rattle.tlog_hash.specs.Rows.{level_row, part}
use Rattle.tlog_hash.proofs.LeafRanges.{rows_of_leaves}
use Rattle.tlog_tiles.specs.Bundle.{IsBundle}
use Rattle.node_store.specs.Strings.{Has, NoClash, Strings}
use Rattle.mirror_model.specs.Edge.{edge_levels, edge_strings}
use Rattle.mirror_model.specs.Strings.{IsDigest}
use Rattle.mirror_model.proofs.StringSets.{has_from_listed, listed_from_has}
use Rattle.log_reader.specs.EdgeRows.{Edge, row_at}
use Rattle.log_reader.specs.Holding.{row_width}
use Rattle.log_reader.specs.Truth.{IsBundleClear, IsListClear, IsTrueBundle, ShownBundlesAreTrue, read_strings}
use Rattle.log_reader.specs.Ways.{HasEdgeHashes, IsEndBundle, IsFullBundle, IsRowUnder, row_of_way, way_strings}
use Rattle.log_reader.proofs.TrueReads.{width_at_edge, width_full}
use Rattle.log_reader.proofs.Truths.{of_way, true_way}

module _ (digest : List ℕ → List ℕ) where
  -- ---- two entries with one leaf hash are equal

  leaves_of_tree : (es : List (List ℕ)) → All (λ e. Contains (strings digest es) (0 ∷ e)) es
  unfolding strings
  leaves_of_tree es =
      let f : List ℕ → List ℕ = λ (e : List ℕ). 0 ∷ e in
      All-from_get_or (λ e. Contains (map f es ++ joins digest (map (leaf_hash digest) es)) (0 ∷ e)) es []
      (λ i lt. Contains-append_left (map f es) (joins digest (map (leaf_hash digest) es)) (0 ∷ get_or es i [])
      (subst (Contains (map f es)) (get_or-map f es i [] [] lt)
      (Contains-get_or (map f es) i [] (omega (arith, lt, length-map es f)))))

  joins_of_tree : (es : List (List ℕ)) (y : List ℕ) → Contains (joins digest (map (leaf_hash digest) es)) y →
      Contains (strings digest es) y
  unfolding strings
  joins_of_tree es y m =
      Contains-append_right (map (λ e. 0 ∷ e) es) (joins digest (map (leaf_hash digest) es)) y m

  module _ (held : Strings) (clean : NoClash digest held) where
    abbrev AreHeld : List (List ℕ) → Type 0
    AreHeld es = All (λ e. Has held (0 ∷ e)) es

    same_entries : (xs ys : List (List ℕ)) → AreHeld xs → AreHeld ys →
        map (leaf_hash digest) xs ≡ map (leaf_hash digest) ys → xs ≡ ys
    same_entries [] [] p q e = refl
    same_entries [] (y ∷ ys) p q e = absurd (cc e)
    same_entries (x ∷ xs) [] p q e = absurd (cc e)
    same_entries (x ∷ xs) (y ∷ ys) p q e =
        let P : List ℕ → Type 0 = λ (z : List ℕ). Has held (0 ∷ z) in
        let hash : digest (0 ∷ x) ≡ digest (0 ∷ y) = ap (λ (l : List (List ℕ)). get_or l 0 []) e in
        let string : 0 ∷ x ≡ 0 ∷ y = clean.same _ _ (All-head P x xs p) (All-head P y ys q) hash in
        let first : x ≡ y = ap (drop 1) string in
        let rest : xs ≡ ys = same_entries xs ys (All-tail P x xs p) (All-tail P y ys q) (ap (drop 1) e) in
        λ i. first i ∷ rest i

  -- ---- a bundle with true leaf hashes

  module _ (edge : Edge) (way : List (List (List ℕ))) (found entries : List (List ℕ))
      (c : IsBundleClear digest edge way found entries) where
    abbrev tree : List (List ℕ)
    tree = strings digest entries

    abbrev own : List (List ℕ)
    own = strings digest found

    abbrev all : List (List ℕ)
    all = tree ++ (read_strings digest edge way ++ own)

    in_tree : (y : List ℕ) → Contains tree y → Has (set.from_list all) y
    in_tree y m = has_from_listed all y (Contains-append_left tree (read_strings digest edge way ++ own) y m)

    in_read : (y : List ℕ) → Contains (read_strings digest edge way) y → Has (set.from_list all) y
    in_read y m =
        has_from_listed all y (Contains-append_right tree (read_strings digest edge way ++ own) y
        (Contains-append_left (read_strings digest edge way) own y m))

    in_own : (y : List ℕ) → Contains own y → Has (set.from_list all) y
    in_own y m =
        has_from_listed all y (Contains-append_right tree (read_strings digest edge way ++ own) y
        (Contains-append_right (read_strings digest edge way) own y m))

    -- the joins of the bundle itself may replace the lowest row of a way
    fewer : (rest : List (List (List ℕ))) →
        ((y : List ℕ) → Contains (way_strings digest rest) y → Has (set.from_list all) y) → IsListClear digest edge rest entries
    fewer rest each =
        let rows = edge_strings digest (map (row_at edge) (edge_levels edge.size)) in
        let of_rest : (y : List ℕ) → Contains (read_strings digest edge rest) y → Has (set.from_list all) y =
        (λ y m. elim (Contains-append_cases rows (way_strings digest rest) y m) [
          | inl edges ↦ in_read y (Contains-append_left rows (way_strings digest way) y edges)
          | inr ways ↦ each y ways
        ]) in
        let within : (y : List ℕ) → Has (set.from_list (tree ++ read_strings digest edge rest)) y → Has (set.from_list all) y =
        (λ y h. elim (Contains-append_cases tree (read_strings digest edge rest) y
        (listed_from_has (tree ++ read_strings digest edge rest) y h)) [
          | inl trees ↦ in_tree y trees
          | inr reads ↦ of_rest y reads
        ]) in
        record {
          size_is = c.size_is;
          root_is = c.root_is;
          clear = record { same = λ x y p q e. c.clear.same x y (within x p) (within y q) e };
        }

    true_bundle : (index width : ℕ) (bytes : List ℕ) (row : List (List ℕ)) → IsBundle width bytes found →
        row ≡ map (leaf_hash digest) found → row ≡ level_row digest entries 0 (256 * index) width →
        256 * index + width ≤ length entries → IsBundle width bytes (part (256 * index) width entries)
    true_bundle index width bytes row is leaves row_is within =
        let due = part (256 * index) width entries in
        let mine = All-weaker (λ e. Contains own (0 ∷ e)) (λ e. Has (set.from_list all) (0 ∷ e)) (λ e m. in_own (0 ∷ e) m) found
        (leaves_of_tree found) in
        let theirs = All-take (λ e. Has (set.from_list all) (0 ∷ e)) width (drop (256 * index) entries)
        (All-drop (λ e. Has (set.from_list all) (0 ∷ e)) (256 * index) entries
        (All-weaker (λ e. Contains tree (0 ∷ e)) (λ e. Has (set.from_list all) (0 ∷ e)) (λ e m. in_tree (0 ∷ e) m) entries
        (leaves_of_tree entries))) in
        let same : found ≡ due =
        same_entries (set.from_list all) c.clear found due mine theirs
        (sym leaves ∙ (row_is ∙ rows_of_leaves digest width (256 * index) entries within)) in
        subst (IsBundle width bytes) same is

    of_ways : (y : List ℕ) → Contains (way_strings digest way) y → Has (set.from_list all) y
    of_ways y m =
        in_read y (Contains-append_right (edge_strings digest (map (row_at edge) (edge_levels edge.size)))
        (way_strings digest way) y m)

    of_row : (row : List (List ℕ)) → row ≡ map (leaf_hash digest) found → (y : List ℕ) →
        Contains (way_strings digest (row ∷ way)) y → Has (set.from_list all) y
    of_row row leaves y m = elim (Contains-append_cases (joins digest row) (way_strings digest way) y m) [
      | inl joined ↦ in_own y (joins_of_tree found y (subst (λ r. Contains (joins digest r) y) leaves joined))
      | inr ways ↦ of_ways y ways
    ]

  module _ (hash : IsDigest digest) (edge : Edge) (hashes : HasEdgeHashes edge) (small : edge.size < 2 ^ 64) (index : ℕ)
      (bytes : List ℕ) (entries : List (List ℕ)) where
    abbrev n : ℕ
    n = length entries

    end_is_true : (end : IsEndBundle digest edge index bytes) →
        IsBundleClear digest edge [] end.has_leaves.entries entries →
        IsTrueBundle entries index bytes
    end_is_true end c =
        let leaves = end.has_leaves in
        let w = width_of edge.size 0 in
        let clear = fewer edge [] leaves.entries entries c [] (of_ways edge [] leaves.entries entries c) in
        let t = true_way digest hash entries edge hashes small [] clear 0 index [] (omega arith, end.index_is)
        (of_way digest hash entries edge hashes small [] clear) in
        let count : length (row_at edge 0) ≡ w = (hashes 0 (omega arith)).count in
        let at : index ≡ edge_index_of n 0 = end.index_is ∙ ap (λ m. edge_index_of m 0) (sym c.size_is) in
        let wide : w ≡ row_width n 0 index =
        ap (λ m. width_of m 0) (sym c.size_is) ∙ (sym (width_at_edge n 0) ∙ ap (row_width n 0) (sym at)) in
        subst (λ k. IsBundle k bytes (part (256 * index) k entries)) wide
        (true_bundle edge [] leaves.entries entries c index w bytes (row_at edge 0) leaves.is_bundle leaves.row_is
        (t.is ∙ ap (level_row digest entries 0 (256 * index)) count) (omega (arith, t.within, count)))

    full_is_true : (full : IsFullBundle digest edge index bytes) →
        IsBundleClear digest edge full.shown.way full.has_leaves.entries entries →
        IsTrueBundle entries index bytes
    full_is_true full c =
        let leaves = full.has_leaves in
        let found = leaves.entries in
        let row = full.row in
        let way = full.shown.way in
        let above = row_of_way edge 1 way in
        let clear = fewer edge way found entries c (row ∷ way) (of_row edge way found entries c row leaves.row_is) in
        let count : length row ≡ 256 = ap length leaves.row_is ∙ (length-map found (leaf_hash digest) ∙ leaves.is_bundle.count) in
        let sizes : All (λ h. length h ≡ 32) row =
        subst (All (λ (h : List ℕ). length h ≡ 32)) (sym leaves.row_is)
        (All-map (λ (h : List ℕ). length h ≡ 32) (leaf_hash digest) found (λ k d p. hash _)) in
        let under : IsRowUnder digest above (index % 256) row = record {
          hashes = record { count = count; sizes = sizes };
          within = subst (λ (r : List (List ℕ)). index % 256 < length r) full.shown.row_is full.within;
          folds = full.folds ∙ ap (λ (r : List (List ℕ)). get_or r (index % 256) []) full.shown.row_is;
        } in
        let t = true_way digest hash entries edge hashes small (row ∷ way) clear 0 index (row ∷ way) (under, full.shown.is_way)
        (of_way digest hash entries edge hashes small (row ∷ way) clear) in
        let before : index < edge_index_of n 0 = omega (arith, t.within, count) in
        subst (λ k. IsBundle k bytes (part (256 * index) k entries)) (sym (width_full n 0 index before))
        (true_bundle edge way found entries c index 256 bytes row leaves.is_bundle leaves.row_is
        (t.is ∙ ap (level_row digest entries 0 (256 * index)) count) (omega (arith, t.within, count)))

pub shown_bundles_are_true : ShownBundlesAreTrue
shown_bundles_are_true digest hash edge hashes small index bytes entries = (
  λ end c. end_is_true digest hash edge hashes small index bytes entries end c,
  λ full c. full_is_true digest hash edge hashes small index bytes entries full c,
)
