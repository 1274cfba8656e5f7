-- Files that verify are true, if the strings of the log's tree and of the files do not clash.
use Rattle.std.proofs.Common.{◌≡◌, inl, inr, ℕ, ◌+◌, ◌*◌, ◌^◌, ◌<◌, ◌≤◌, All, List, [], ◌∷◌, ◌++◌, length, map, drop, get_or}
use Rattle.std.proofs.Common.{refl, sym, ap, subst, ◌∙◌, arith}
use Rattle.std.specs.FinSet as set
use Rattle.std.specs.List.{AllByRecursion, Contains}
use Rattle.std.proofs.lemmas.List.{append-nil, get_or-map, length-map}
use Rattle.std.proofs.lemmas.List.Elements.{All-contains_itself, All-drop, All-head, All-map, All-tail, All-take, All-weaker, Contains-append_left, Contains-append_right, recursion_from_All}
use Rattle.tlog_shape.specs.Edge.{edge_index_of, width_of}
use Rattle.tlog_hash.specs.Tree.{fold_of, joins, leaf_hash, mth, strings, tree_of}
use Rattle.tlog_hash.specs.Nodes.{IsJoin}
use Rattle.tlog_hash.specs.Rows.{level_row, part, ranges}
use Rattle.tlog_hash.proofs.Folds.{length-ranges}
use Rattle.tlog_hash.proofs.LeafRanges.{rows_of_leaves}
use Rattle.tlog_hash.proofs.NodeStrings.{string_of_node, to_joins}
use Rattle.tlog_tiles.specs.Bundle.{bundle_text}
use Rattle.tlog_tiles.specs.Row.{row_text}
use Rattle.tlog_tiles.specs.Tiles.{bundle_bytes, tile_bytes}
use Rattle.tlog_tiles.specs.declared.paths.Path.{Path}
use Rattle.tlog_tiles.specs.declared.paths.Path.TheVariants.{Tile, Entries}
use Rattle.tlog_tiles.proofs.EdgeLemmas.{hashes_of}
use Rattle.tlog_tiles.proofs.TileLemmas.{mth_size}
use Rattle.node_store.specs.Strings.{Has, NoClash, Strings}
use Rattle.mirror_model.specs.Edge.{edge_levels, edge_strings}
use Rattle.mirror_model.specs.Strings.{IsDigest}
use Rattle.mirror_model.proofs.StringSets.{has_from_listed}
use Rattle.mirror_model.proofs.TreeLaws.{full_row_joins}
use Rattle.log_reader.specs.EdgeRows.{Edge, RowIsTrue, row_at}
use Rattle.log_reader.specs.Truth.{IsListClear}
use Rattle.log_reader.specs.Verified.{HasLeaves}
use Rattle.log_reader.proofs.OneRow.{only_row}
use Rattle.log_reader.proofs.Truths.{shown_rows_are_true}
use Rattle.copy_reader.specs.Answering.{IsTreeFile}
use Rattle.copy_reader.specs.First.{AreClear, IsFileClear, VerifiedFilesAreTrue}
use Rattle.copy_reader.specs.Found.{AreTrue, AreVerified, Begins, EdgeRow, EndBundle, FileRead, Found, FullBundle, FullTile, IsOfEdge, IsTrueFound, IsVerified, TrueFile, paths_read}
use Rattle.copy_reader.proofs.FilePaths.{all_front, all_reads, log_files}

-- ---- strings of a tree

-- the string of an entry is one of the tree
leaf_there : (e : List ℕ) (es : List (List ℕ)) → Contains es e → Contains (map (λ (x : List ℕ). 0 ∷ x) es) (0 ∷ e)
leaf_there e es c =
    let f = λ (x : List ℕ). 0 ∷ x in
    let lt = c.1 in (
      c.0,
      omega (arith, lt, length-map es f),
      get_or-map f es c.0 e (0 ∷ e) lt ∙ ap f c.2,
    )

leaves_within : (digest : List ℕ → List ℕ) (es : List (List ℕ)) → All (λ e. Contains (strings digest es) (0 ∷ e)) es
unfolding strings
leaves_within digest es =
    All-weaker (Contains es) (λ e. Contains (strings digest es) (0 ∷ e))
    (λ e c. Contains-append_left (map (λ (x : List ℕ). 0 ∷ x) es) (joins digest (map (leaf_hash digest) es)) (0 ∷ e)
    (leaf_there e es c)) es (All-contains_itself es)

joins_within : (digest : List ℕ → List ℕ) (es : List (List ℕ)) (y : List ℕ) →
    Contains (joins digest (map (leaf_hash digest) es)) y → Contains (strings digest es) y
unfolding strings
joins_within digest es y c =
    Contains-append_right (map (λ (x : List ℕ). 0 ∷ x) es) (joins digest (map (leaf_hash digest) es)) y c

module _ (digest : List ℕ → List ℕ) (hash : IsDigest digest) (log : List (List ℕ)) where
  abbrev n : ℕ
  n = length log

  abbrev Sized : List ℕ → Type 0
  Sized h = length h ≡ 32

  true_sizes : (level first width : ℕ) → All Sized (level_row digest log level first width)
  true_sizes level first width =
      All-map Sized (mth digest) (ranges (256 ^ level) first width log) (λ k d p. mth_size digest hash _)

  true_count : (level first width : ℕ) → length (level_row digest log level first width) ≡ width
  true_count level first width =
      length-map (ranges (256 ^ level) first width log) (mth digest) ∙ length-ranges (256 ^ level) first width log

  -- ---- strings that do not clash

  module _ (others : List (List ℕ)) (clear : AreClear digest log others) where
    abbrev held : Strings
    held = set.from_list (strings digest log ++ others)

    of_tree : (y : List ℕ) → Contains (strings digest log) y → Has held y
    of_tree y m = has_from_listed _ y (Contains-append_left (strings digest log) others y m)

    of_others : (y : List ℕ) → Contains others y → Has held y
    of_others y m = has_from_listed _ y (Contains-append_right (strings digest log) others y m)

    -- a row with the fold of a full tile is its row
    same_row : (level index : ℕ) (row : List (List ℕ)) → (index + 1) * 256 ^ (level + 1) ≤ n → length row ≡ 256 → All Sized row →
        fold_of digest row ≡ fold_of digest (level_row digest log level (256 * index) 256) →
        ((y : List ℕ) → Contains (joins digest row) y → Contains others y) → row ≡ level_row digest log level (256 * index) 256
    same_row level index row fits count sizes folds within =
        let wanted = level_row digest log level (256 * index) 256 in
        let tree_held : (y : List ℕ) → IsJoin digest (tree_of wanted) y → Has held y =
        (λ y m. let at = (full_row_joins digest log level index fits y).0 (to_joins digest wanted y m) in
        subst (Has held) at.string_is (of_tree at.node.string (string_of_node digest log 0 at.node at.is))) in
        only_row digest hash held clear row wanted (true_count level (256 * index) 256 ∙ sym count) sizes
        (true_sizes level (256 * index) 256) (λ y m. of_others y (within y (to_joins digest row y m))) tree_held folds

    abbrev IsHeldLeaf : List ℕ → Type 0
    IsHeldLeaf e = Has held (0 ∷ e)

    same_leaves : (xs ys : List (List ℕ)) → AllByRecursion IsHeldLeaf xs → AllByRecursion IsHeldLeaf ys →
        map (leaf_hash digest) xs ≡ map (leaf_hash digest) ys → xs ≡ ys
    same_leaves [] [] a b e = refl
    same_leaves [] (y ∷ ys) a b e = absurd (cc e)
    same_leaves (x ∷ xs) [] a b e = absurd (cc e)
    same_leaves (x ∷ xs) (y ∷ ys) a b e =
        let first : digest (0 ∷ x) ≡ digest (0 ∷ y) = ap (λ (l : List (List ℕ)). get_or l 0 []) e in
        let same : x ≡ y = ap (drop 1) (clear.same (0 ∷ x) (0 ∷ y) a.0 b.0 first) in
        λ i. same i ∷ same_leaves xs ys a.1 b.1 (ap (drop 1) e) i

    -- entries with the leaf hashes of a bundle are its entries
    same_entries : (index width : ℕ) (es : List (List ℕ)) → 256 * index + width ≤ n →
        map (leaf_hash digest) es ≡ level_row digest log 0 (256 * index) width →
        ((y : List ℕ) → Contains (strings digest es) y → Contains others y) → es ≡ part (256 * index) width log
    same_entries index width es within row_is of_own =
        let there = part (256 * index) width log in
        let log_held : All IsHeldLeaf log =
        All-weaker (λ e. Contains (strings digest log) (0 ∷ e)) IsHeldLeaf (λ e c. of_tree (0 ∷ e) c) log
        (leaves_within digest log) in
        let part_held : All IsHeldLeaf there =
        All-take IsHeldLeaf width (drop (256 * index) log) (All-drop IsHeldLeaf (256 * index) log log_held) in
        let es_held : All IsHeldLeaf es =
        All-weaker (λ e. Contains (strings digest es) (0 ∷ e)) IsHeldLeaf
        (λ e c. of_others (0 ∷ e) (of_own (0 ∷ e) c)) es (leaves_within digest es) in
        same_leaves es there (recursion_from_All IsHeldLeaf es es_held) (recursion_from_All IsHeldLeaf there part_held)
        (row_is ∙ rows_of_leaves digest width (256 * index) log within)

  -- ---- files

  full_fits : (level index : ℕ) → IsTreeFile n (Tile level index 256) → (index + 1) * 256 ^ (level + 1) ≤ n
  full_fits level index (low, inl full) = full.fits
  full_fits level index (low, inr partial) = absurd (omega (arith, partial.width_is))

  bundle_fits : (index width : ℕ) → IsTreeFile n (Entries index width) → 256 * index + width ≤ n
  bundle_fits index width (inl full) =
      let fits = full.fits in
      omega (arith, fits, full.width_is)
  bundle_fits index width (inr partial) = omega (arith, partial.index_is, partial.width_is, hashes_of n 0)

  -- bytes with the leaf hashes of a bundle are its bytes
  bundle_is : (index width : ℕ) (bytes : List ℕ) (row : List (List ℕ)) (v : HasLeaves digest width bytes row) →
      AreClear digest log (strings digest v.entries) → IsTreeFile n (Entries index width) →
      row ≡ level_row digest log 0 (256 * index) width → bytes ≡ bundle_bytes log index width
  bundle_is index width bytes row v clear file is =
      v.is_bundle.text
      ∙ ap bundle_text (same_entries (strings digest v.entries) clear index width v.entries (bundle_fits index width file)
      (sym v.row_is ∙ is) (λ y c. c))

  full_bundle_is : (index : ℕ) (bytes : List ℕ) (row : List (List ℕ)) (v : HasLeaves digest 256 bytes row) →
      AreClear digest log (strings digest v.entries) → IsTreeFile n (Entries index 256) →
      fold_of digest row ≡ fold_of digest (level_row digest log 0 (256 * index) 256) → bytes ≡ bundle_bytes log index 256
  full_bundle_is index bytes row v clear file folds =
      let es = v.entries in
      let count : length row ≡ 256 = ap length v.row_is ∙ (length-map es (leaf_hash digest) ∙ v.is_bundle.count) in
      let sizes : All Sized row = subst (All Sized) (sym v.row_is) (All-map Sized (leaf_hash digest) es (λ k d p. hash _)) in
      let fits : (index + 1) * 256 ^ (0 + 1) ≤ n = omega (arith, bundle_fits index 256 file) in
      bundle_is index 256 bytes row v clear file
      (same_row (strings digest es) clear 0 index row fits count sizes folds
      (λ y c. joins_within digest es y (subst (λ (r : List (List ℕ)). Contains (joins digest r) y) v.row_is c)))

  module _ (edge : Edge) (size_is : edge.size ≡ n) (rows : (level : ℕ) → level ≤ 7 → RowIsTrue digest edge log level) where
    edge_row_is : (level index width : ℕ) → width < 256 → IsTreeFile n (Tile level index width) →
        row_text (row_at edge level) ≡ tile_bytes digest log level index width
    edge_row_is level index width low (upto, inl full) = absurd (omega (arith, full.width_is, low))
    edge_row_is level index width low (upto, inr partial) =
        let at : edge_index_of edge.size level ≡ index = ap (λ m. edge_index_of m level) size_is ∙ sym partial.index_is in
        let wide : width_of edge.size level ≡ width = ap (λ m. width_of m level) size_is ∙ sym partial.width_is in
        ap row_text (rows level upto ∙ (λ i. level_row digest log level (256 * at i) (wide i)))

    true_found : (path : Path) (found : Found) → IsVerified digest log path found → IsTreeFile n path → IsOfEdge edge path found →
        IsFileClear digest log path found → IsTrueFound digest log path found
    true_found _ _ (TrueFile path found t) file of_edge clear = t
    true_found _ _ (FullTile level index bytes row is folds) file of_edge clear =
        is.text
        ∙ ap row_text (same_row (joins digest row) (clear refl bytes row refl is) level index row (full_fits level index file) is.count
        is.sizes folds (λ y c. c))
    true_found _ _ (FullBundle index bytes row v folds) file of_edge clear =
        full_bundle_is index bytes row v (clear bytes v.entries refl v.is_bundle) file folds
    true_found _ _ (EndBundle index width found bytes begins v) file of_edge clear =
        subst (λ b. Begins (Entries index width) b found)
        (bundle_is index width bytes (level_row digest log 0 (256 * index) width) v (clear bytes v.entries begins v.is_bundle) file refl)
        begins
    true_found _ _ (EdgeRow level index width found bytes row low begins is) file of_edge clear =
        subst (λ b. Begins (Tile level index width) b found) (edge_row_is level index width low file) (of_edge low)

    abbrev IsFile : FileRead → Type 0
    IsFile r = IsTreeFile n r.path

    abbrev IsEdgeFile : FileRead → Type 0
    IsEdgeFile r = IsOfEdge edge r.path r.found

    abbrev IsClearFile : FileRead → Type 0
    IsClearFile r = IsFileClear digest log r.path r.found

    all_true : (reads : List FileRead) → All IsFile reads → All IsEdgeFile reads → All IsClearFile reads →
        AreVerified digest log reads → AreTrue digest log reads
    all_true [] files edges clear v = tt
    all_true (r ∷ rs) files edges clear v =
        let t = true_found r.path r.found v.0 (All-head IsFile r rs files) (All-head IsEdgeFile r rs edges)
        (All-head IsClearFile r rs clear) in (
          t,
          all_true rs (All-tail IsFile r rs files) (All-tail IsEdgeFile r rs edges) (All-tail IsClearFile r rs clear) (v.1 t),
        )

-- ---- the law

pub verified_files_are_true : VerifiedFilesAreTrue
verified_files_are_true digest hash size root small reads rest order e log l clear v =
    let edge = e.edge in
    let size_is : edge.size ≡ length log = e.size_is ∙ sym l.size_is in
    let others = edge_strings digest (map (row_at edge) (edge_levels edge.size)) in
    let list_clear : IsListClear digest edge [] log = record {
      size_is = sym size_is;
      root_is = l.root_is ∙ sym e.root_is;
      clear = subst (λ (s : List (List ℕ)). NoClash digest (set.from_list (strings digest log ++ s))) (sym (append-nil others))
          clear.edge_clear;
    } in
    all_true digest hash log edge size_is
    (λ level upto. shown_rows_are_true digest hash edge e.hashes (subst (λ m. m < 2 ^ 64) (sym e.size_is) small) level
    (edge_index_of edge.size level) [] (upto, refl) log list_clear
    ∙ ap (λ w. level_row digest log level (256 * edge_index_of edge.size level) w) (e.hashes level upto).count)
    reads
    (subst (λ m. All (λ (r : FileRead). IsTreeFile m r.path) reads) (sym l.size_is)
    (all_reads (IsTreeFile size) reads (all_front (IsTreeFile size) (paths_read reads) rest
    (subst (All (IsTreeFile size)) order (log_files size)))))
    e.rows clear.files_clear v
