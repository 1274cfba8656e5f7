-- The strings that files lead to.
use Rattle.std.proofs.Common.{◌≡◌, ℕ, zero, suc, ◌*◌, ◌^◌, ◌<◌, ◌≤◌, Bool, true, cond, not, ◌==◌, ◌&&◌, All, Contains, List, [], ◌∷◌, ◌++◌}
use Rattle.std.proofs.Common.{length, take, drop, map, inl, inr, refl, sym, ap, subst, ◌∙◌, append_assoc, length-append, eq-or-lt_of_le, arith}
use Rattle.std.specs.FinSet as set
use Rattle.std.specs.List.{flat_map, AllByRecursion}
use Rattle.std.specs.Int.{w16, to_be_bytes, from_be_bytes}
use Rattle.std.proofs.lemmas.Bool.Decides.{nat_tests}
use Rattle.std.proofs.lemmas.List.{take_at, drop_at}
use Rattle.std.proofs.lemmas.List.Elements.{All-nil, All-cons, All-head, All-tail, All-contains, All-weaker, filter_passes}
use Rattle.std.proofs.lemmas.List.Elements.{Contains-append_left, Contains-append_right, Contains-append_cases, recursion_from_All}
use Rattle.std.proofs.lemmas.Nat.{from_be_bytes-to_be_bytes_2}
use Rattle.tlog_shape.specs.Edge.{edge_index_of, width_of}
use Rattle.tlog_hash.specs.Tree.{joins, pairs_of, strings, tree_of, tree_within}
use Rattle.tlog_tiles.specs.Bundle.{entry_text, IsBundle}
use Rattle.tlog_tiles.specs.Row.{IsRow}
use Rattle.tlog_tiles.specs.declared.paths.Path.{Path}
use Rattle.tlog_tiles.specs.declared.paths.Path.TheVariants.{Tile, Entries}
use Rattle.tlog_tiles.proofs.RowLemmas.{length-row_text}
use Rattle.node_store.specs.Strings.{Has, NoClash}
use Rattle.mirror_model.specs.Edge.{all_levels, edge_levels, edge_strings}
use Rattle.mirror_model.specs.Item.{entries_of, row_of}
use Rattle.mirror_model.proofs.ItemBytes.{row_is_one}
use Rattle.mirror_model.proofs.StringSets.{has_from_listed, listed_from_has}
use Rattle.mirror_sources.specs.Source.{File}
use Rattle.log_reader.specs.EdgeRows.{Edge, row_at}
use Rattle.copy_follow.specs.FileStrings.{choices, edges_for, row_for, rows_for, strings_of_file, strings_of_files, strings_of_first}
use Rattle.copy_places.specs.Giving.{IsFirstOf}
use Rattle.copy_follow.specs.Repaired.{BeginsBundle, IsClearLog, IsEdgeCut}
use Rattle.copy_follow.specs.Scripted.{AreFilesClear}
use Rattle.copy_follow.proofs.Cuts.{part_begins}
use Rattle.copy_follow.proofs.Roots.{levels_within}

levels_wide : (n : ℕ) → All (λ level. not (width_of n level == 0) ≡ true) (edge_levels n)
unfolding edge_levels
levels_wide n = filter_passes (λ level. not (width_of n level == 0)) all_levels

some_width : (w : ℕ) → not (w == 0) ≡ true → 1 ≤ w
some_width w some = grind (arith, nat_tests)

-- ---- lists

pub head_has : {X : Type 0} (x y : X) (xs : List X) → y ≡ x → Contains (y ∷ xs) x
head_has x y xs e = (0, omega arith, e)

-- the lists that the elements lead to have each element of one of them
pub flat_map_has : {X A : Type 0} (f : X → List A) (xs : List X) (x : X) (y : A) → Contains xs x → Contains (f x) y →
    Contains (flat_map f xs) y
flat_map_has {X} f xs x y c m = All-contains (λ z. Contains (f z) y → Contains (flat_map f xs) y) xs x (each xs) c m
  where
    each : (zs : List X) → All (λ z. Contains (f z) y → Contains (flat_map f zs) y) zs
    each [] = All-nil (λ z. Contains (f z) y → Contains (flat_map f []) y)
    each (z ∷ zs) =
        All-cons (λ w. Contains (f w) y → Contains (flat_map f (z ∷ zs)) y) z zs
        (λ h. Contains-append_left (f z) (flat_map f zs) y h)
        (All-weaker (λ w. Contains (f w) y → Contains (flat_map f zs) y) (λ w. Contains (f w) y → Contains (flat_map f (z ∷ zs)) y)
        (λ w k h. Contains-append_right (f z) (flat_map f zs) y (k h)) zs (each zs))

pub map_has : {X A : Type 0} (f : X → A) (xs : List X) (x : X) → Contains xs x → Contains (map f xs) (f x)
map_has {X} f xs x c = All-contains (λ z. Contains (map f xs) (f z)) xs x (each xs) c
  where
    each : (zs : List X) → All (λ z. Contains (map f zs) (f z)) zs
    each [] = All-nil (λ z. Contains (map f []) (f z))
    each (z ∷ zs) =
        All-cons (λ w. Contains (map f (z ∷ zs)) (f w)) z zs (head_has (f z) (f z) (map f zs) refl)
        (All-weaker (λ w. Contains (map f zs) (f w)) (λ w. Contains (map f (z ∷ zs)) (f w))
        (λ w h. Contains-append_right (f z ∷ []) (map f zs) (f w) h) zs (each zs))

-- one element of each list is a choice
chosen : {A : Type 0} (f : ℕ → A) (g : ℕ → List A) (levels : List ℕ) → All (λ level. Contains (g level) (f level)) levels →
    Contains (choices (map g levels)) (map f levels)
chosen f g [] all = head_has [] [] [] refl
chosen f g (x ∷ xs) all =
    let P = λ (level : ℕ). Contains (g level) (f level) in
    let others = choices (map g xs) in
    flat_map_has (λ y. map (λ c. y ∷ c) others) (g x) (f x) (f x ∷ map f xs) (All-head P x xs all)
    (map_has (λ c. f x ∷ c) others (map f xs) (chosen f g xs (All-tail P x xs all)))

-- ---- rows

pub same : (x : ℕ) → (x == x) ≡ true
same x = grind (arith, nat_tests)

first_row : (width : ℕ) (whole bytes : List ℕ) (row : List (List ℕ)) → IsRow width bytes row → IsFirstOf whole bytes →
    row_of (take (32 * width) whole) ≡ row
first_row width whole bytes row is first =
    let long : length bytes ≡ 32 * width = ap length is.text ∙ length-row_text row is.sizes ∙ ap (λ n. 32 * n) is.count in
    ap (λ x. row_of (take (32 * width) x)) first.full_is ∙ ap row_of (take_at bytes first.rest (32 * width) long)
    ∙ sym (row_is_one width bytes row is)

row_given : (n level width : ℕ) (files : List File) (whole bytes : List ℕ) (row : List (List ℕ)) → IsRow (width_of n level) bytes row →
    IsFirstOf whole bytes → Contains files (Tile level (edge_index_of n level) width, whole) → Contains (rows_for n files level) row
unfolding rows_for
row_given n level width files whole bytes row is first c =
    let at = edge_index_of n level in
    let own = row_of (take (32 * width_of n level) whole) in
    let both : ((level == level) && (at == at)) ≡ true = ap (λ b. b && (at == at)) (same level) ∙ same at in
    flat_map_has (λ (file : File). row_for n level file.0 file.1) files (Tile level at width, whole) row c
    (subst (λ (b : Bool). Contains (cond b (own ∷ []) []) row) (sym both)
    (head_has row own [] (first_row (width_of n level) whole bytes row is first)))

-- ---- entries

-- the entries at the start of the bytes
entries_at : (es : List (List ℕ)) (after : List ℕ) → AllByRecursion (λ e. length e < 2 ^ 16) es →
    entries_of (length es) (flat_map entry_text es ++ after) ≡ es
entries_at [] after short = refl
entries_at (e ∷ es) after short =
    let len : from_be_bytes w16 (to_be_bytes w16 (length e)) ≡ length e =
    from_be_bytes-to_be_bytes_2 (length e) short.0 in
    let rest = flat_map entry_text es ++ after in
    let text : (e ++ flat_map entry_text es) ++ after ≡ e ++ rest = append_assoc e (flat_map entry_text es) after in
    (λ i. take (len i) (text i) ∷ entries_of (length es) (drop (len i) (text i)))
    ∙ (λ i. take_at e rest (length e) refl i ∷ entries_of (length es) (drop_at e rest (length e) refl i))
    ∙ ap (λ xs. e ∷ xs) (entries_at es after short.1)

-- each entry of a bundle has at least one byte of its own
fewer : (es : List (List ℕ)) → length es ≤ length (flat_map entry_text es)
fewer [] = omega arith
fewer (e ∷ es) =
    omega (arith, fewer es, length-append (entry_text e) (flat_map entry_text es), length-append (to_be_bytes w16 (length e)) e)

module _ (digest : List ℕ → List ℕ) where
  nothing : (y : List ℕ) → Contains (strings digest []) y → ⊥
  unfolding strings joins pairs_of tree_of tree_within
  nothing y c = let bad = c.1 in omega arith

  first_has : (count n : ℕ) → count ≤ n → (bytes y : List ℕ) → Contains (strings digest (entries_of count bytes)) y →
      Contains (strings_of_first digest n bytes) y
  unfolding strings_of_first
  first_has count zero le bytes y c =
      let none : count ≡ 0 = omega arith in
      absurd (nothing y (subst (λ k. Contains (strings digest (entries_of k bytes)) y) none c))
  first_has count (suc n) le bytes y c = elim (eq-or-lt_of_le le) [
    | inl e ↦
        Contains-append_right (strings_of_first digest n bytes) (strings digest (entries_of (suc n) bytes)) y
        (subst (λ k. Contains (strings digest (entries_of k bytes)) y) e c)
    | inr lt ↦
        Contains-append_left (strings_of_first digest n bytes) (strings digest (entries_of (suc n) bytes)) y
        (first_has count n (omega arith) bytes y c)
  ]

  bundle_has : (width : ℕ) (whole bytes : List ℕ) (es : List (List ℕ)) → IsBundle width bytes es → IsFirstOf whole bytes →
      (y : List ℕ) → Contains (strings digest es) y → Contains (strings_of_first digest (length whole) whole) y
  bundle_has width whole bytes es is first y c =
      let text : whole ≡ flat_map entry_text es ++ first.rest = first.full_is ∙ ap (λ (x : List ℕ). x ++ first.rest) is.text in
      let own : entries_of (length es) whole ≡ es =
      ap (entries_of (length es)) text
      ∙ entries_at es first.rest (recursion_from_All (λ e. length e < 2 ^ 16) es is.fits) in
      let long : length es ≤ length whole =
      omega (arith, fewer es, ap length text, length-append (flat_map entry_text es) first.rest) in
      first_has (length es) (length whole) long whole y (subst (λ x. Contains (strings digest x) y) (sym own) c)

  -- ---- sets

  clear_within : (tree own all : List (List ℕ)) → ((y : List ℕ) → Contains own y → Contains all y) →
      NoClash digest (set.from_list (tree ++ all)) → NoClash digest (set.from_list (tree ++ own))
  clear_within tree own all within clear =
      record { same = λ x y hx hy e. clear.same x y (held x hx) (held y hy) e }
    where
      held : (x : List ℕ) → Has (set.from_list (tree ++ own)) x → Has (set.from_list (tree ++ all)) x
      held x h = has_from_listed _ x
          (elim (Contains-append_cases tree own x (listed_from_has _ x h)) [
            | inl m ↦ Contains-append_left tree all x m
            | inr m ↦ Contains-append_right tree all x (within x m)
          ])

  module _ (log : List (List ℕ)) (files : List File)
      (clear : AreFilesClear digest log files) where
    abbrev n : ℕ
    n = length log

    file_has : (path : Path) (bytes : List ℕ) → Contains files (path, bytes) → (y : List ℕ) →
        Contains (strings_of_file digest path bytes) y → Contains (strings_of_files digest n files) y
    unfolding strings_of_files
    file_has path bytes c y m =
        Contains-append_left (flat_map (λ (file : File). strings_of_file digest file.0 file.1) files)
        (flat_map (edge_strings digest) (edges_for n files)) y
        (flat_map_has (λ (file : File). strings_of_file digest file.0 file.1) files (path, bytes) y c m)

    tile_clear : (level index width : ℕ) (bytes : List ℕ) (row : List (List ℕ)) → Contains files (Tile level index width, bytes) →
        IsRow width bytes row → NoClash digest (set.from_list (strings digest log ++ joins digest row))
    tile_clear level index width bytes row c is =
        clear_within (strings digest log) (joins digest row) (strings_of_files digest n files)
        (λ y m. file_has (Tile level index width) bytes c y
        (subst (λ x. Contains (joins digest x) y) (row_is_one width bytes row is) m))
        clear

    bundle_clear : (index width : ℕ) (bytes : List ℕ) (entries : List (List ℕ)) →
        BeginsBundle (λ path b. Contains files (path, b)) index bytes → IsBundle width bytes entries →
        NoClash digest (set.from_list (strings digest log ++ strings digest entries))
    bundle_clear index width bytes entries begins is =
        clear_within (strings digest log) (strings digest entries) (strings_of_files digest n files)
        (λ y m. file_has (Entries index begins.0) begins.1 begins.2 y (bundle_has width begins.1 bytes entries is begins.3 y m))
        clear

    row_there : (edge : Edge) → IsEdgeCut (λ path b. Contains files (path, b)) n edge → (level : ℕ) → level ≤ 7 →
        not (width_of n level == 0) ≡ true → Contains (rows_for n files level) (row_at edge level)
    row_there edge cut level low some =
        let row = cut.rows_are level low in
        let t = row.taken (some_width (width_of n level) some) in
        row_given n level t.0 files t.1 row.bytes (row_at edge level) row.is_row t.3 t.2

    edge_given : (edge : Edge) → IsEdgeCut (λ path b. Contains files (path, b)) n edge →
        Contains (edges_for n files) (map (row_at edge) (edge_levels n))
    unfolding edges_for
    edge_given edge cut =
        chosen (row_at edge) (rows_for n files) (edge_levels n)
        (λ k d lt. row_there edge cut _ (levels_within n k d lt) (levels_wide n k d lt))

    edge_clear : (edge : Edge) → IsEdgeCut (λ path b. Contains files (path, b)) n edge →
        NoClash digest (set.from_list (strings digest log ++ edge_strings digest (map (row_at edge) (edge_levels edge.size))))
    unfolding strings_of_files
    edge_clear edge cut =
        clear_within (strings digest log) (edge_strings digest (map (row_at edge) (edge_levels edge.size)))
        (strings_of_files digest n files)
        (λ y m.
        Contains-append_right (flat_map (λ (file : File). strings_of_file digest file.0 file.1) files)
        (flat_map (edge_strings digest) (edges_for n files)) y
        (flat_map_has (edge_strings digest) (edges_for n files) (map (row_at edge) (edge_levels n)) y (edge_given edge cut)
        (subst (λ k. Contains (edge_strings digest (map (row_at edge) (edge_levels k))) y) cut.size_is m)))
        clear

    -- nothing that the files have clashes with the log
    pub files_are_clear : IsClearLog digest log (λ path b. Contains files (path, b))
    files_are_clear = record {
      files = record {
        tile = λ level index above bytes row c is. tile_clear level index 256 bytes row c is;
        bundle = λ index width bytes entries part is.
            bundle_clear index width bytes entries
            (part_begins (λ path b. Contains files (path, b)) index width bytes part) is;
      };
      leaf_tiles = λ index bytes row c is. tile_clear 0 index 256 bytes row c is;
      ends = bundle_clear;
      edge = edge_clear;
    }
