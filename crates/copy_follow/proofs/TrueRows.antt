-- A file that verifies under a true hash is true, if the strings of the tree and of the file do not clash.
use Rattle.std.proofs.Common.{◌≡◌, ℕ, ◌+◌, ◌*◌, ◌^◌, ◌≤◌, All, List, [], ◌∷◌, ◌++◌, length, map, drop, get_or}
use Rattle.std.proofs.Common.{refl, sym, ap, subst, ◌∙◌, arith}
use Rattle.std.specs.FinSet as set
use Rattle.std.specs.List.{AllByRecursion, Contains}
use Rattle.std.proofs.lemmas.List.{get_or-map, length-map}
use Rattle.std.proofs.lemmas.List.Elements.{All-contains_itself, All-drop, All-map, All-take, All-weaker, Contains-append_left, Contains-append_right, recursion_from_All}
use Rattle.tlog_shape.proofs.Levels.{level_next}
use Rattle.tlog_hash.specs.Tree.{fold_of, joins, leaf_hash, mth, strings, tree_of}
use Rattle.tlog_hash.specs.Nodes.{IsJoin}
use Rattle.tlog_hash.specs.Rows.{level_row, part, ranges}
use Rattle.tlog_hash.proofs.LeafRanges.{rows_of_leaves}
use Rattle.tlog_hash.proofs.NodeStrings.{string_of_node, to_joins}
use Rattle.tlog_tiles.proofs.TileLemmas.{mth_size, row_folds}
use Rattle.node_store.specs.Strings.{Has, NoClash, Strings}
use Rattle.mirror_model.specs.Strings.{IsDigest}
use Rattle.mirror_model.proofs.StringSets.{has_from_listed}
use Rattle.mirror_model.proofs.TreeLaws.{full_row_joins}
use Rattle.mirror_model.proofs.TrueItems.{tile_end}
use Rattle.log_reader.proofs.OneRow.{only_row}
use Rattle.copy_follow.specs.Suffices.{IsTileHash}
use Rattle.copy_places.proofs.Cutting.{count_row}

-- the string of an entry is a string of the tree
leaf_there : (e : List ℕ) (es : List (List ℕ)) → Contains es e → Contains (map (λ (x : List ℕ). 0 ∷ x) es) (0 ∷ e)
leaf_there e es c =
    let f = λ (x : List ℕ). 0 ∷ x in
    let lt = c.1 in (
      c.0,
      omega (arith, lt, length-map es f),
      get_or-map f es c.0 e (0 ∷ e) lt ∙ ap f c.2,
    )

leaves_within : (digest : List ℕ → List ℕ) (es : List (List ℕ)) → All (λ e. Contains (strings digest es) (0 ∷ e)) es
unfolding strings
leaves_within digest es =
    All-weaker (Contains es) (λ e. Contains (strings digest es) (0 ∷ e))
    (λ e c. Contains-append_left (map (λ (x : List ℕ). 0 ∷ x) es) (joins digest (map (leaf_hash digest) es)) (0 ∷ e)
    (leaf_there e es c)) es (All-contains_itself es)

pub joins_within : (digest : List ℕ → List ℕ) (es : List (List ℕ)) (y : List ℕ) →
    Contains (joins digest (map (leaf_hash digest) es)) y → Contains (strings digest es) y
unfolding strings
joins_within digest es y c =
    Contains-append_right (map (λ (x : List ℕ). 0 ∷ x) es) (joins digest (map (leaf_hash digest) es)) y c

-- the strings of the folding of a full row of the log are strings of its tree
pub row_within : (digest : List ℕ → List ℕ) (log : List (List ℕ)) (level index : ℕ) → (index + 1) * 256 ^ (level + 1) ≤ length log →
    (y : List ℕ) → Contains (joins digest (level_row digest log level (256 * index) 256)) y → Contains (strings digest log) y
row_within digest log level index fits y m =
    let at = (full_row_joins digest log level index fits y).0 m in
    subst (λ s. Contains (strings digest log) s) at.string_is (string_of_node digest log 0 at.node at.is)

module _ (digest : List ℕ → List ℕ) (hash : IsDigest digest) (log others : List (List ℕ))
    (clean : NoClash digest (set.from_list (strings digest log ++ others))) where
  abbrev held : Strings
  held = set.from_list (strings digest log ++ others)

  of_tree : (y : List ℕ) → Contains (strings digest log) y → Has held y
  of_tree y m = has_from_listed _ y (Contains-append_left (strings digest log) others y m)

  of_others : (y : List ℕ) → Contains others y → Has held y
  of_others y m = has_from_listed _ y (Contains-append_right (strings digest log) others y m)

  pub true_row : (level index : ℕ) (row : List (List ℕ)) (value : List ℕ) → length row ≡ 256 →
      All (λ (h : List ℕ). length h ≡ 32) row → fold_of digest row ≡ value → IsTileHash digest log level index value →
      ((y : List ℕ) → Contains (joins digest row) y → Contains others y) →
      row ≡ level_row digest log level (256 * index) 256
  true_row level index row value count sized folds is within_others =
      let c = 256 ^ (level + 1) in
      let fits = is.within in
      let end : (256 * index + 256) * 256 ^ level ≡ (index + 1) * c = tile_end level index in
      let within : (256 * index + 256) * 256 ^ level ≤ length log = omega (arith, end, fits) in
      let wanted = level_row digest log level (256 * index) 256 in
      let next : c ≡ 256 * 256 ^ level = level_next level in
      let start : 256 * index * 256 ^ level ≡ index * c = omega (arith, ap (λ m. index * m) next) in
      let true_fold : fold_of digest wanted ≡ mth digest (part (index * c) c log) =
      row_folds digest log level (256 * index) 256 (omega arith) within
      ∙ (λ i. mth digest (part (start i) (sym next i) log)) in
      let tree_held : (y : List ℕ) → IsJoin digest (tree_of wanted) y → Has held y =
      (λ y m. let at = (full_row_joins digest log level index fits y).0 (to_joins digest wanted y m) in
      subst (Has held) at.string_is (of_tree at.node.string (string_of_node digest log 0 at.node at.is))) in
      only_row digest hash held clean row wanted (count_row digest log level (256 * index) 256 ∙ sym count) sized
      (All-map (λ (h : List ℕ). length h ≡ 32) (mth digest) (ranges (256 ^ level) (256 * index) 256 log)
      (λ k d p. mth_size digest hash _))
      (λ y m. of_others y (within_others y (to_joins digest row y m))) tree_held (folds ∙ (is.is ∙ sym true_fold))

  abbrev LeafHeld : List ℕ → Type 0
  LeafHeld e = Has held (0 ∷ e)

  same_leaves : (xs ys : List (List ℕ)) → AllByRecursion LeafHeld xs → AllByRecursion LeafHeld ys →
      map (leaf_hash digest) xs ≡ map (leaf_hash digest) ys → xs ≡ ys
  same_leaves [] [] a b e = refl
  same_leaves [] (y ∷ ys) a b e = absurd (cc e)
  same_leaves (x ∷ xs) [] a b e = absurd (cc e)
  same_leaves (x ∷ xs) (y ∷ ys) a b e =
      let first : digest (0 ∷ x) ≡ digest (0 ∷ y) = ap (λ (l : List (List ℕ)). get_or l 0 []) e in
      let same : x ≡ y = ap (drop 1) (clean.same (0 ∷ x) (0 ∷ y) a.0 b.0 first) in
      λ i. same i ∷ same_leaves xs ys a.1 b.1 (ap (drop 1) e) i

  -- entries whose leaf hashes are true are true
  pub true_entries : (index width : ℕ) (es : List (List ℕ)) → 256 * index + width ≤ length log →
      map (leaf_hash digest) es ≡ level_row digest log 0 (256 * index) width →
      ((y : List ℕ) → Contains (strings digest es) y → Contains others y) → es ≡ part (256 * index) width log
  true_entries index width es within row_is within_others =
      let there = part (256 * index) width log in
      let log_held : All LeafHeld log =
      All-weaker (λ e. Contains (strings digest log) (0 ∷ e)) LeafHeld (λ e c. of_tree (0 ∷ e) c) log
      (leaves_within digest log) in
      let part_held : All LeafHeld there =
      All-take LeafHeld width (drop (256 * index) log) (All-drop LeafHeld (256 * index) log log_held) in
      let es_held : All LeafHeld es =
      All-weaker (λ e. Contains (strings digest es) (0 ∷ e)) LeafHeld
      (λ e c. of_others (0 ∷ e) (within_others (0 ∷ e) c)) es (leaves_within digest es) in
      same_leaves es there (recursion_from_All LeafHeld es es_held) (recursion_from_All LeafHeld there part_held)
      (row_is ∙ rows_of_leaves digest width (256 * index) log within)
