-- A full bundle instead of a partial one.
use Rattle.std.proofs.Common.{suc, ◌≡◌, ◌⊎◌, ℕ, ◌+◌, ◌*◌, ◌/◌, ◌%◌, ◌^◌, ◌<◌, ◌≤◌, List, [], ◌∷◌, length, map}
use Rattle.std.proofs.Common.{take, drop, length-take, Bool, true, false, sym, ◌∙◌, ap, subst, inl, inr}
use Rattle.std.proofs.Common.{arith}
use Rattle.std.specs.List.{Contains, filter}
use Rattle.std.specs.Prelude.{if◌then◌else◌}
use Rattle.std.proofs.lemmas.List.{drop-take, take-take, take-append-drop, map-append}
use Rattle.std.proofs.lemmas.List.Elements.{Contains-append_left, Contains-append_cases}
use Rattle.tlog_hash.specs.Tree.{strings, joins, leaf_hash, fold_of}
use Rattle.std.proofs.lemmas.Bool.Decides.{nat_tests}
use Rattle.tlog_hash.specs.Rows.{part, level_row}
use Rattle.tlog_hash.proofs.LeafRanges.{rows_of_leaves}
use Rattle.std.specs.Prelude.{not, ◌==◌, ◌-◌}
use Rattle.tlog_shape.specs.Edge.{width_of, edge_index_of}
use Rattle.mirror_model.specs.Edge.{edge_levels, edge_row, edge_rows, edge_strings, strings_from}
use Rattle.mirror_model.specs.FetchLaws.{FullBundleServesPartial}

strings_cases : (digest : List ℕ → List ℕ) (es : List (List ℕ)) (y : List ℕ) → Contains (strings digest es) y →
    Contains (map (λ e. 0 ∷ e) es) y ⊎ Contains (joins digest (map (leaf_hash digest) es)) y
unfolding strings
strings_cases digest es y c = Contains-append_cases (map (λ e. 0 ∷ e) es) (joins digest (map (leaf_hash digest) es)) y c

pub strings_leaf : (digest : List ℕ → List ℕ) (es : List (List ℕ)) (y : List ℕ) → Contains (map (λ e. 0 ∷ e) es) y →
    Contains (strings digest es) y
unfolding strings
strings_leaf digest es y c = Contains-append_left (map (λ e. 0 ∷ e) es) (joins digest (map (leaf_hash digest) es)) y c

leaf_more : (w n : ℕ) (xs : List (List ℕ)) (y : List ℕ) → w ≤ n → Contains (map (λ e. 0 ∷ e) (take w xs)) y →
    Contains (map (λ e. 0 ∷ e) (take n xs)) y
leaf_more w n xs y le c =
    let f : List ℕ → List ℕ = λ e. 0 ∷ e in
    let zs = take n xs in
    let c' : Contains (map f (take w zs)) y = subst (λ l. Contains (map f l) y) (sym (take-take w n xs le)) c in
    subst (λ l. Contains (map f l) y) (take-append-drop w zs)
    (subst (λ l. Contains l y) (sym (map-append f (take w zs) (drop w zs)))
    (Contains-append_left (map f (take w zs)) (map f (drop w zs)) y c'))

pub filter_first : (p : ℕ → Bool) (x : ℕ) (xs : List ℕ) → p x ≡ true → filter p (x ∷ xs) ≡ x ∷ filter p xs
filter_first p x xs e = ap (λ b. if b then x ∷ filter p xs else filter p xs) e

zero_not : (k : ℕ) → (suc k == 0) ≡ false
zero_not k = grind (arith, nat_tests)

-- if level 0 has a partial tile, it is the first level of the right edge
levels_first : (n k : ℕ) → width_of n 0 ≡ suc k →
    edge_levels n ≡ 0 ∷ filter (λ level. not (width_of n level == 0)) (1 ∷ 2 ∷ 3 ∷ 4 ∷ 5 ∷ 6 ∷ 7 ∷ [])
unfolding edge_levels
levels_first n k e =
    filter_first (λ level. not (width_of n level == 0)) 0 (1 ∷ 2 ∷ 3 ∷ 4 ∷ 5 ∷ 6 ∷ 7 ∷ [])
    (ap (λ m. not (m == 0)) e ∙ ap not (zero_not k))

join_on_edge : (digest : List ℕ → List ℕ) (es : List (List ℕ)) (index width : ℕ) → length es ≡ 256 * index + width →
    1 ≤ width → width < 256 → (y : List ℕ) →
    Contains (joins digest (map (leaf_hash digest) (take width (drop (256 * index) es)))) y →
    Contains (edge_strings digest (edge_rows digest es)) y
join_on_edge digest es index width total some partial y c =
    let n = length es in
    let unit : n / 256 ^ 0 ≡ n = omega arith in
    let wide : width_of n 0 ≡ width = ap (λ m. m % 256) unit ∙ omega arith in
    let at : edge_index_of n 0 ≡ index = omega arith in
    let one_more : width_of n 0 ≡ suc (width - 1) = wide ∙ omega arith in
    let levels = levels_first n (width - 1) one_more in
    let others = filter (λ level. not (width_of n level == 0)) (1 ∷ 2 ∷ 3 ∷ 4 ∷ 5 ∷ 6 ∷ 7 ∷ []) in
    let row : edge_row digest es 0 ≡ map (leaf_hash digest) (take width (drop (256 * index) es)) =
    ap (λ w. level_row digest es 0 (256 * edge_index_of n 0) w) wide ∙
    (ap (λ i. level_row digest es 0 (256 * i) width) at ∙
    rows_of_leaves digest width (256 * index) es (omega (arith, total))) in
    let first : Contains (joins digest (edge_row digest es 0)) y =
    subst (λ r. Contains (joins digest r) y) (sym row) c in
    subst (λ ls. Contains (edge_strings digest (map (edge_row digest es) ls)) y) (sym levels)
    (Contains-append_left (joins digest (edge_row digest es 0))
    (strings_from digest (fold_of digest (edge_row digest es 0)) (map (edge_row digest es) others)) y first)

pub full_bundles_serve : FullBundleServesPartial
full_bundles_serve digest entries size index width le total some partial full y c =
    let es = take size entries in
    let long : length es ≡ 256 * index + width = omega (arith, length-take size entries) in
    let whole : size ≡ 256 * index + width = omega arith in
    let same : part (256 * index) width es ≡ take width (drop (256 * index) entries) =
    ap (λ k. take width (drop (256 * index) (take k entries))) whole ∙
    (ap (take width) (drop-take (256 * index) width entries) ∙
    take-take width width (drop (256 * index) entries) (omega arith)) in
    elim (strings_cases digest (part (256 * index) width es) y c) [
      | inl leaf ↦ inl
          (strings_leaf digest (part (256 * index) 256 entries) y
          (leaf_more width 256 (drop (256 * index) entries) y (omega arith)
          (subst (λ l. Contains (map (λ e. 0 ∷ e) l) y) same leaf)))
      | inr join ↦ inr (join_on_edge digest es index width long some partial y join)
    ]
