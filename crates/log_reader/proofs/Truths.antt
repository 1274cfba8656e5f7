-- Shown rows are true.
use Rattle.std.proofs.Common.{◌≡◌, ◌⊎◌, ℕ, zero, suc, ◌+◌, ◌*◌, ◌/◌, ◌%◌, ◌^◌, ◌<◌, ◌≤◌, Bool, true, false, cond, not, ◌==◌}
use Rattle.std.proofs.Common.{List, [], ◌∷◌, ◌++◌, length, map, drop, get_or, inl, inr, refl, sym, ap, subst, ◌∙◌, arith}
use Rattle.std.specs.FinSet as set
use Rattle.std.specs.List.{AllByRecursion, Contains, filter}
use Rattle.std.proofs.Math.Nat.{div-mul-le_self}
use Rattle.std.proofs.lemmas.Bool.{cases_lt}
use Rattle.std.proofs.lemmas.Bool.Decides.{nat_tests}
use Rattle.std.proofs.lemmas.List.{get_or-map, length-map, nil_from_length}
use Rattle.std.proofs.lemmas.List.Elements.{All-map, Contains-append_left, Contains-append_right}
use Rattle.std.proofs.lemmas.Nat.{mul-le}
use Rattle.tlog_shape.specs.Edge.{edge_index_of, width_of}
use Rattle.tlog_shape.proofs.Levels.{level_next, level_positive}
use Rattle.tlog_hash.specs.Tree.{fold_of, joins, mth, strings, tree_of}
use Rattle.tlog_hash.specs.Nodes.{IsJoin}
use Rattle.tlog_hash.specs.Rows.{level_row, part, ranges}
use Rattle.tlog_hash.proofs.Folds.{length-ranges}
use Rattle.tlog_hash.proofs.NodeStrings.{string_of_node, to_joins}
use Rattle.tlog_tiles.specs.Row.{IsRow, row_text}
use Rattle.tlog_tiles.proofs.EdgeLemmas.{hashes_of}
use Rattle.tlog_tiles.proofs.RowLemmas.{length-row_text}
use Rattle.tlog_tiles.proofs.TileLemmas.{mth_size, row_folds}
use Rattle.node_store.specs.Strings.{Has, HasAll, NoClash, Strings}
use Rattle.mirror_model.specs.Edge.{all_levels, edge_levels, edge_root, edge_row, edge_rows, edge_strings}
use Rattle.mirror_model.specs.Item.{HasEdgeRows, row_of}
use Rattle.mirror_model.specs.Strings.{IsDigest}
use Rattle.mirror_model.specs.TrueLaws.{edge_bytes}
use Rattle.mirror_model.proofs.EdgeStrings.{edge_strings_within}
use Rattle.mirror_model.proofs.ItemBytes.{row_is_one}
use Rattle.mirror_model.proofs.OneEdge.{edge_is_one}
use Rattle.mirror_model.proofs.RowLaws.{get_or-ranges}
use Rattle.mirror_model.proofs.StringSets.{has_from_listed, held_from_holds}
use Rattle.mirror_model.proofs.TreeLaws.{full_row_joins}
use Rattle.mirror_model.proofs.TrueItems.{edges_are_true, tile_end}
use Rattle.log_reader.specs.EdgeRows.{Edge, RowIsTrue, hash_of_edge, row_at}
use Rattle.log_reader.specs.Truth.{IsListClear, ShownRowsAreTrue, read_strings}
use Rattle.log_reader.specs.Ways.{AreHashesOf, HasEdgeHashes, IsWay, row_of_way, way_strings}
use Rattle.log_reader.proofs.OneRow.{only_row}

-- ---- levels

abbrev pub IsIn : ℕ → List ℕ → Type 0
IsIn level [] = ⊥
IsIn level (l ∷ ls) = (level ≡ l) ⊎ IsIn level ls

in_rest : (level l : ℕ) (ls : List ℕ) (b : Bool) → IsIn level ls → IsIn level (cond b (l ∷ ls) ls)
in_rest level l ls true m = inr m
in_rest level l ls false m = m

in_filter : (test : ℕ → Bool) (level : ℕ) (ls : List ℕ) → test level ≡ true → IsIn level ls → IsIn level (filter test ls)
in_filter test level [] t m = m
in_filter test level (l ∷ ls) t (inl e) =
    subst (λ b. IsIn level (cond b (l ∷ filter test ls) (filter test ls))) (sym (ap test (sym e) ∙ t)) (inl e)
in_filter test level (l ∷ ls) t (inr m) = in_rest level l (filter test ls) (test l) (in_filter test level ls t m)

in_all : (level : ℕ) → level ≤ 7 → IsIn level all_levels
in_all zero low = inl refl
in_all (suc zero) low = inr (inl refl)
in_all (suc (suc zero)) low = inr (inr (inl refl))
in_all (suc (suc (suc zero))) low = inr (inr (inr (inl refl)))
in_all (suc (suc (suc (suc zero)))) low = inr (inr (inr (inr (inl refl))))
in_all (suc (suc (suc (suc (suc zero))))) low = inr (inr (inr (inr (inr (inl refl)))))
in_all (suc (suc (suc (suc (suc (suc zero)))))) low = inr (inr (inr (inr (inr (inr (inl refl))))))
in_all (suc (suc (suc (suc (suc (suc (suc zero))))))) low = inr (inr (inr (inr (inr (inr (inr (inl refl)))))))
in_all (suc (suc (suc (suc (suc (suc (suc (suc level)))))))) low = absurd (omega arith)

some_width : (w : ℕ) → 0 < w → not (w == 0) ≡ true
some_width w some = grind (arith, nat_tests)

in_edge : (n level : ℕ) → level ≤ 7 → 0 < width_of n level → IsIn level (edge_levels n)
unfolding edge_levels
in_edge n level low some =
    in_filter (λ l. not (width_of n l == 0)) level all_levels (some_width (width_of n level) some) (in_all level low)

from_maps : (f g : ℕ → List (List ℕ)) (level : ℕ) (ls : List ℕ) → map f ls ≡ map g ls → IsIn level ls → f level ≡ g level
from_maps f g level [] e m = absurd m
from_maps f g level (l ∷ ls) e (inl i) = ap f i ∙ (ap (λ rows. get_or rows 0 []) e ∙ ap g (sym i))
from_maps f g level (l ∷ ls) e (inr m) = from_maps f g level ls (ap (drop 1) e) m

-- a fact about each level up to 7 holds for the levels of an edge
all_within : (P : ℕ → Type 0) → ((level : ℕ) → level ≤ 7 → P level) → (ls : List ℕ) →
    ((level : ℕ) → IsIn level ls → level ≤ 7) → AllByRecursion P ls
all_within P each [] low = tt
all_within P each (l ∷ ls) low = (each l (low l (inl refl)), all_within P each ls (λ level m. low level (inr m)))

low_all : (level : ℕ) → IsIn level all_levels → level ≤ 7
low_all level (inl e) = omega (arith, e)
low_all level (inr (inl e)) = omega (arith, e)
low_all level (inr (inr (inl e))) = omega (arith, e)
low_all level (inr (inr (inr (inl e)))) = omega (arith, e)
low_all level (inr (inr (inr (inr (inl e))))) = omega (arith, e)
low_all level (inr (inr (inr (inr (inr (inl e)))))) = omega (arith, e)
low_all level (inr (inr (inr (inr (inr (inr (inl e))))))) = omega (arith, e)
low_all level (inr (inr (inr (inr (inr (inr (inr (inl e)))))))) = omega (arith, e)
low_all level (inr (inr (inr (inr (inr (inr (inr (inr m)))))))) = absurd m

of_rest : (level l : ℕ) (ls : List ℕ) (b : Bool) → IsIn level (cond b (l ∷ ls) ls) → (level ≡ l) ⊎ IsIn level ls
of_rest level l ls true m = m
of_rest level l ls false m = inr m

of_filter : (test : ℕ → Bool) (level : ℕ) (ls : List ℕ) → IsIn level (filter test ls) → IsIn level ls
of_filter test level [] m = m
of_filter test level (l ∷ ls) m = elim (of_rest level l (filter test ls) (test l) m) [
  | inl e ↦ inl e
  | inr i ↦ inr (of_filter test level ls i)
]

pub low_edge : (n level : ℕ) → IsIn level (edge_levels n) → level ≤ 7
unfolding edge_levels
low_edge n level m = low_all level (of_filter (λ l. not (width_of n l == 0)) level all_levels m)

-- ---- rows as bytes and back

back : (f : ℕ → List (List ℕ)) (w : ℕ → ℕ) (ls : List ℕ) → AllByRecursion (λ l. AreHashesOf (w l) (f l)) ls →
    map row_of (map row_text (map f ls)) ≡ map f ls
back f w [] a = refl
back f w (l ∷ ls) a =
    let r : IsRow (w l) (row_text (f l)) (f l) = record { count = a.0.count; sizes = a.0.sizes; text = refl } in
    λ i. sym (row_is_one (w l) (row_text (f l)) (f l) r) i ∷ back f w ls a.1 i

wide : (f : ℕ → List (List ℕ)) (w : ℕ → ℕ) (ls : List ℕ) → AllByRecursion (λ l. AreHashesOf (w l) (f l)) ls →
    map length (map row_text (map f ls)) ≡ map (λ width. 32 * width) (map w ls)
wide f w [] a = refl
wide f w (l ∷ ls) a =
    λ i. (length-row_text (f l) a.0.sizes ∙ ap (λ n. 32 * n) a.0.count) i ∷ wide f w ls a.1 i

module _ (digest : List ℕ → List ℕ) (hash : IsDigest digest) (entries : List (List ℕ)) where
  pub true_hashes : (level first width : ℕ) → AreHashesOf width (level_row digest entries level first width)
  true_hashes level first width = record {
    count = length-map (ranges (256 ^ level) first width entries) (mth digest) ∙ length-ranges (256 ^ level) first width entries;
    sizes = All-map (λ (h : List ℕ). length h ≡ 32) (mth digest) (ranges (256 ^ level) first width entries)
        (λ k d p. mth_size digest hash _);
  }

  module _ (edge : Edge) (hashes : HasEdgeHashes edge) (small : edge.size < 2 ^ 64) (way : List (List (List ℕ)))
      (c : IsListClear digest edge way entries) where
    abbrev held : Strings
    held = set.from_list (strings digest entries ++ read_strings digest edge way)

    abbrev rows : List (List (List ℕ))
    rows = map (row_at edge) (edge_levels edge.size)

    of_tree : (y : List ℕ) → Contains (strings digest entries) y → Has held y
    of_tree y m = has_from_listed _ y (Contains-append_left (strings digest entries) (read_strings digest edge way) y m)

    of_read : (y : List ℕ) → Contains (read_strings digest edge way) y → Has held y
    of_read y m = has_from_listed _ y (Contains-append_right (strings digest entries) (read_strings digest edge way) y m)

    of_edge : (y : List ℕ) → Contains (edge_strings digest rows) y → Has held y
    of_edge y m = of_read y (Contains-append_left (edge_strings digest rows) (way_strings digest way) y m)

    pub of_way : (y : List ℕ) → Contains (way_strings digest way) y → Has held y
    of_way y m = of_read y (Contains-append_right (edge_strings digest rows) (way_strings digest way) y m)

    n_is : edge.size ≡ length entries
    n_is = sym c.size_is

    abbrev root : List ℕ
    root = hash_of_edge digest edge

    edge_all : AllByRecursion (λ l. AreHashesOf (width_of edge.size l) (row_at edge l)) (edge_levels edge.size)
    edge_all = all_within (λ l. AreHashesOf (width_of edge.size l) (row_at edge l)) hashes (edge_levels edge.size)
        (low_edge edge.size)

    true_all : AllByRecursion (λ l. AreHashesOf (width_of (length entries) l) (edge_row digest entries l))
        (edge_levels (length entries))
    true_all = all_within (λ l. AreHashesOf (width_of (length entries) l) (edge_row digest entries l))
        (λ l low. true_hashes l (256 * edge_index_of (length entries) l) (width_of (length entries) l))
        (edge_levels (length entries)) (low_edge (length entries))

    edge_back : map row_of (map row_text rows) ≡ rows
    edge_back = back (row_at edge) (width_of edge.size) (edge_levels edge.size) edge_all

    true_back : map row_of (edge_bytes digest entries) ≡ edge_rows digest entries
    true_back = back (edge_row digest entries) (width_of (length entries)) (edge_levels (length entries)) true_all

    edge_has : HasEdgeRows digest edge.size root (map row_text rows)
    edge_has = record {
      widths = wide (row_at edge) (width_of edge.size) (edge_levels edge.size) edge_all;
      root_is = ap (edge_root digest) edge_back;
    }

    true_has : HasEdgeRows digest edge.size root (edge_bytes digest entries)
    true_has =
        let low : length entries < 256 ^ 8 = omega (arith, small, c.size_is) in
        subst (λ r. HasEdgeRows digest edge.size r (edge_bytes digest entries)) c.root_is
        (subst (λ m. HasEdgeRows digest m (mth digest entries) (edge_bytes digest entries)) c.size_is
        (edges_are_true digest hash entries low).has_edge)

    edge_held : HasAll held (edge_strings digest (map row_of (map row_text rows)))
    edge_held = subst (λ rs. HasAll held (edge_strings digest rs)) (sym edge_back)
        (held_from_holds held (edge_strings digest rows) of_edge)

    true_held : HasAll held (edge_strings digest (map row_of (edge_bytes digest entries)))
    true_held = subst (λ rs. HasAll held (edge_strings digest rs)) (sym true_back)
        (held_from_holds held (edge_strings digest (edge_rows digest entries))
        (λ y m. of_tree y (edge_strings_within digest entries y m)))

    rows_same : rows ≡ edge_rows digest entries
    rows_same =
        sym edge_back
        ∙ (ap (map row_of)
        (edge_is_one digest hash held c.clear edge.size root (map row_text rows) (edge_bytes digest entries) edge_has true_has
        edge_held true_held)
        ∙ true_back)

    row_there : (level : ℕ) → level ≤ 7 → 0 < width_of edge.size level → RowIsTrue digest edge entries level
    row_there level low some =
        let same : map (row_at edge) (edge_levels edge.size) ≡ map (edge_row digest entries) (edge_levels edge.size) =
        rows_same ∙ ap (λ m. map (edge_row digest entries) (edge_levels m)) c.size_is in
        from_maps (row_at edge) (edge_row digest entries) level (edge_levels edge.size) same (in_edge edge.size level low some)
        ∙ ap (λ m. level_row digest entries level (256 * edge_index_of m level) (width_of m level)) c.size_is

    row_none : (level : ℕ) → level ≤ 7 → width_of edge.size level ≡ 0 → RowIsTrue digest edge entries level
    row_none level low none =
        nil_from_length (row_at edge level) ((hashes level low).count ∙ none)
        ∙ ap (λ w. level_row digest entries level (256 * edge_index_of edge.size level) w) (sym none)

    edge_true : (level : ℕ) → level ≤ 7 → RowIsTrue digest edge entries level
    edge_true level low = elim (cases_lt 0 (width_of edge.size level)) [
      | inl some ↦ row_there level low some
      | inr none ↦ row_none level low (omega (arith, none))
    ]

    -- ---- down the way

    pub record IsTrueRow (level index : ℕ) (row : List (List ℕ)) : Type 0 where
      pub low : level ≤ 7
      pub within : (256 * index + length row) * 256 ^ level ≤ length entries
      pub is : row ≡ level_row digest entries level (256 * index) (length row)

    at_edge : (level index : ℕ) → level ≤ 7 → index ≡ edge_index_of edge.size level → IsTrueRow level index (row_at edge level)
    at_edge level index low at =
        let n = edge.size in
        let count : length (row_at edge level) ≡ width_of n level = (hashes level low).count in
        let sum : 256 * index + length (row_at edge level) ≡ n / 256 ^ level =
        omega (arith, at, count, hashes_of n level) in
        record {
          low = low;
          within = subst (λ m. m * 256 ^ level ≤ length entries) (sym sum)
              (subst (λ m. n / 256 ^ level * 256 ^ level ≤ m) n_is (div-mul-le_self n (256 ^ level)));
          is = edge_true level low
              ∙ (λ i. level_row digest entries level (256 * sym at i) (sym count i));
        }

    below : (level index : ℕ) (above row : List (List ℕ)) → IsTrueRow (level + 1) (index / 256) above →
        AreHashesOf 256 row → index % 256 < length above → fold_of digest row ≡ get_or above (index % 256) [] →
        ((y : List ℕ) → Contains (joins digest row) y → Has held y) → IsTrueRow level index row
    below level index above row up sized lt folds row_held =
        let c = 256 ^ (level + 1) in
        let first = 256 * (index / 256) in
        let j = index % 256 in
        let whole : first + j ≡ index = omega arith in
        let fits : (index + 1) * c ≤ length entries =
        (let most : (index + 1) * c ≤ (first + length above) * c = mul-le _ _ _ _ (omega (arith, whole, lt)) (omega arith) in
        omega (arith, most, up.within)) in
        let end : (256 * index + 256) * 256 ^ level ≡ (index + 1) * c = tile_end level index in
        let within : (256 * index + 256) * 256 ^ level ≤ length entries = omega (arith, end, fits) in
        let blocks = ranges c first (length above) entries in
        let there : get_or above j [] ≡ mth digest (part (index * c) c entries) =
        ap (λ (l : List (List ℕ)). get_or l j []) up.is
        ∙ (get_or-map (mth digest) blocks j [] [] (omega (arith, lt, length-ranges c first (length above) entries))
        ∙ (ap (mth digest) (get_or-ranges c (level_positive (level + 1)) first (length above) j entries lt)
        ∙ ap (λ m. mth digest (part (m * c) c entries)) whole)) in
        let wanted = level_row digest entries level (256 * index) 256 in
        let next : c ≡ 256 * 256 ^ level = level_next level in
        let start : 256 * index * 256 ^ level ≡ index * c = omega (arith, ap (λ m. index * m) next) in
        let true_fold : fold_of digest wanted ≡ mth digest (part (index * c) c entries) =
        row_folds digest entries level (256 * index) 256 (omega arith) within
        ∙ (λ i. mth digest (part (start i) (sym next i) entries)) in
        let true_sized = true_hashes level (256 * index) 256 in
        let tree_held : (y : List ℕ) → IsJoin digest (tree_of wanted) y → Has held y =
        (λ y m. let at = (full_row_joins digest entries level index fits y).0 (to_joins digest wanted y m) in
        subst (Has held) at.string_is (of_tree at.node.string (string_of_node digest entries 0 at.node at.is))) in
        let same : row ≡ wanted =
        only_row digest hash held clean row wanted (true_sized.count ∙ sym sized.count) sized.sizes true_sized.sizes
        (λ y m. row_held y (to_joins digest row y m)) tree_held (folds ∙ (there ∙ sym true_fold)) in
        record {
          low = omega (arith, up.low);
          within = subst (λ w. (256 * index + w) * 256 ^ level ≤ length entries) (sym sized.count) within;
          is = same ∙ ap (λ w. level_row digest entries level (256 * index) w) (sym sized.count);
        }
      where
        clean : NoClash digest held
        clean = c.clear

    pub true_way : (level index : ℕ) (rest : List (List (List ℕ))) → IsWay digest edge level index rest →
        ((y : List ℕ) → Contains (way_strings digest rest) y → Has held y) →
        IsTrueRow level index (row_of_way edge level rest)
    true_way level index [] w all = at_edge level index w.0 w.1
    true_way level index (row ∷ above) w all =
        below level index (row_of_way edge (level + 1) above) row
        (true_way (level + 1) (index / 256) above w.1
        (λ y m. all y (Contains-append_right (joins digest row) (way_strings digest above) y m)))
        w.0.hashes w.0.within w.0.folds
        (λ y m. all y (Contains-append_left (joins digest row) (way_strings digest above) y m))

pub shown_rows_are_true : ShownRowsAreTrue
shown_rows_are_true digest hash edge hashes small level index way is_way entries clear =
    (true_way digest hash entries edge hashes small way clear level index way is_way
    (of_way digest hash entries edge hashes small way clear)).is
