-- The edge rows of a tree head: their widths, how they are read, and their strings.
use Rattle.std.proofs.Common.{◌≡◌, ◌≢◌, ℕ, zero, suc, ◌+◌, ◌*◌, ◌/◌, ◌<◌, Bool, true, false, cond, List, [], ◌∷◌}
use Rattle.std.proofs.Common.{◌++◌, length, map, take, get_or, Vec, Global, All, refl, sym, ap}
use Rattle.std.proofs.Common.{subst, ◌∙◌, arith, if◌then◌else◌}
use Rattle.std.specs.Prelude.{not, ◌==◌}
use denote.Bor.{Bor}
use Rattle.std.specs.FinSet as set
use Rattle.std.specs.List.{filter, remove, AllByRecursion}
use Rattle.std.proofs.lemmas.List.{map-append, get_or-map, take_more}
use Rattle.tlog_tiles.specs.Row.{IsRow}
use Rattle.tlog_tiles.proofs.RowLemmas.{length-row_text}
use Rattle.mirror_model.proofs.ItemBytes.{row_is_one}
use Rattle.std.proofs.lemmas.List.Elements.{filter-append, All-from_recursion}
use Rattle.std.proofs.lemmas.Bool.Decides.{nat_tests}
use Rattle.tlog_shape.specs.Edge.{width_of}
use Rattle.tlog_hash.specs.Tree.{fold_of, joins}
use Rattle.tlog_hash.proofs.Folds.{length-ranges}
use Rattle.node_store.specs.Strings.{Strings}
use Rattle.mirror_model.specs.Edge.{all_levels, edge_levels, edge_widths, edge_root, edge_strings, root_from}
use Rattle.mirror_model.specs.Edge.{strings_from}
use Rattle.mirror_model.specs.Item.{row_of}
use Rattle.mirror_model.specs.Strings.{HasClash}
use Rattle.mirror_trees.proofs.BuiltTrees.{added_both}
use Rattle.mirror_trees.specs.Edges.{HaveWidths}
use Rattle.mirror_model.proofs.StringSets.{has_left, clash_within}

-- ---- widths

-- the widths of the levels below a level
abbrev pub widths_below : ℕ → ℕ → List ℕ
widths_below n zero = []
widths_below n (suc level) = widths_below n level ++ (if width_of n level == 0 then [] else width_of n level ∷ [])

abbrev levels_below : ℕ → List ℕ
levels_below zero = []
levels_below (suc level) = levels_below level ++ level ∷ []

module _ (n : ℕ) where
  abbrev has_some : ℕ → Bool
  has_some level = not (width_of n level == 0)

  one_width : (level : ℕ) (b : Bool) →
      cond b [] (width_of n level ∷ []) ≡ map (width_of n) (cond (not b) (level ∷ []) [])
  one_width level true = refl
  one_width level false = refl

  widths_filtered : (k : ℕ) → widths_below n k ≡ map (width_of n) (filter has_some (levels_below k))
  widths_filtered zero = refl
  widths_filtered (suc k) =
      (λ i. widths_filtered k i ++ one_width k (width_of n k == 0) i)
      ∙ sym (map-append (width_of n) (filter has_some (levels_below k)) (filter has_some (k ∷ [])))
      ∙ ap (map (width_of n)) (sym (filter-append has_some (levels_below k) (k ∷ [])))

  pub widths_below_all : widths_below n 8 ≡ edge_widths n
  unfolding edge_levels
  widths_below_all = widths_filtered 8

  above_zero : (w : ℕ) → (w == 0) ≡ false → 0 < w
  above_zero w e = grind (arith, nat_tests)

  some_more :
      (x : ℕ) (xs : List ℕ) (b : Bool) → (width_of n x == 0) ≡ b →
      AllByRecursion (λ w. 0 < w) (map (width_of n) (filter has_some xs)) →
      AllByRecursion (λ w. 0 < w) (map (width_of n) (cond (not b) (x ∷ filter has_some xs) (filter has_some xs)))
  some_more x xs true e some = some
  some_more x xs false e some = (above_zero (width_of n x) e, some)

  some_of : (levels : List ℕ) → AllByRecursion (λ w. 0 < w) (map (width_of n) (filter has_some levels))
  some_of [] = tt
  some_of (x ∷ xs) = some_more x xs (width_of n x == 0) refl (some_of xs)

  pub widths_some : AllByRecursion (λ w. 0 < w) (edge_widths n)
  unfolding edge_levels
  widths_some = some_of all_levels

-- ---- rows

abbrev pub items_of : List (Vec (List ℕ) Global) → List (List (List ℕ))
items_of rows = map (λ row. row.items) rows

abbrev pub bytes_of : List (Bor (List ℕ)) → List (List ℕ)
bytes_of rows = map (λ row. row.now) rows

-- a row whose width is not 0 has hashes
rows_some_at :
    (vs : List (Vec (List ℕ) Global)) (rows : List (List ℕ)) (widths : List ℕ) → items_of vs ≡ map row_of rows →
    HaveWidths widths rows → AllByRecursion (λ w. 0 < w) widths → AllByRecursion (λ row. 0 < length row.items) vs
rows_some_at [] rows widths e f some = tt
rows_some_at (v ∷ vs) [] widths e f some = absurd (cc e)
rows_some_at (v ∷ vs) (r ∷ rs) [] e f some = absurd (cc f)
rows_some_at (v ∷ vs) (r ∷ rs) (w ∷ ws) e f some =
    let first : v.items ≡ row_of r = cc e in
    let others : items_of vs ≡ map row_of rs = cc e in
    let len : length r ≡ 32 * w = cc f in
    let lens : HaveWidths ws rs = cc f in
    let count : length v.items ≡ length r / 32 = ap length first ∙ length-ranges 32 0 (length r / 32) r in
    (omega (arith, count, len, some.0), rows_some_at vs rs ws others lens some.1)

pub rows_some :
    (n : ℕ) (vs : List (Vec (List ℕ) Global)) (rows : List (List ℕ)) → items_of vs ≡ map row_of rows →
    HaveWidths (edge_widths n) rows → All (λ row. 0 < length row.items) vs
rows_some n vs rows e f =
    All-from_recursion (λ row. 0 < length row.items) vs (rows_some_at vs rows (edge_widths n) e f (widths_some n))

-- one more result of a function
pub mapped_more :
    {X Y : Type 0} (f : X → Y) (xs more : List X) (x : X) (ys : List Y) (y : Y) → more ≡ xs ++ x ∷ [] →
    map f xs ≡ ys → f x ≡ y → map f more ≡ ys ++ y ∷ []
mapped_more f xs more x ys y is old new = ap (map f) is ∙ map-append f xs (x ∷ []) ∙ (λ i. old i ++ new i ∷ [])

-- if a row has another length, the rows do not have these widths
pub other_width :
    (widths : List ℕ) (rows : List (Bor (List ℕ))) (i : ℕ) (d : Bor (List ℕ)) → i < length rows →
    length rows ≡ length widths → length (get_or rows i d).now ≢ 32 * get_or widths i 0 →
    HaveWidths widths (bytes_of rows) → ⊥
other_width widths rows i d lt same differs have =
    let left : get_or (map length (bytes_of rows)) i 0 ≡ length (get_or rows i d).now =
    get_or-map length (bytes_of rows) i d.now 0 (omega (arith, length_bytes rows)) ∙
    ap length (get_or-map (λ (row : Bor (List ℕ)). row.now) rows i d d.now lt) in
    let right : get_or (map (λ width. 32 * width) widths) i 0 ≡ 32 * get_or widths i 0 =
    get_or-map (λ width. 32 * width) widths i 0 0 (omega (arith, same, lt)) in
    differs (sym left ∙ ap (λ xs. get_or xs i 0) have ∙ right)
  where
    length_bytes : (xs : List (Bor (List ℕ))) → length (bytes_of xs) ≡ length xs
    length_bytes [] = refl
    length_bytes (x ∷ xs) = ap suc (length_bytes xs)

-- one more row is read
pub rows_more :
    (es : List (Bor (List ℕ))) (ws : List ℕ) (i : ℕ) (d : Bor (List ℕ)) (rows more : List (Vec (List ℕ) Global))
    (row : Vec (List ℕ) Global) → i < length es → i < length ws → more ≡ rows ++ row ∷ [] →
    IsRow (get_or ws i 0) (get_or es i d).now row.items → items_of rows ≡ map row_of (bytes_of (take i es)) →
    HaveWidths (take i ws) (bytes_of (take i es)) →
    (items_of more ≡ map row_of (bytes_of (take (i + 1) es)))
    × HaveWidths (take (i + 1) ws) (bytes_of (take (i + 1) es))
rows_more es ws i d rows more row in_es in_ws is read hashes lengths =
    let e = get_or es i d in
    let w = get_or ws i 0 in
    let bs : List (List ℕ) = bytes_of (take i es) in
    let bs_more : bytes_of (take (i + 1) es) ≡ bs ++ e.now ∷ [] =
    mapped_more (λ (x : Bor (List ℕ)). x.now) (take i es) (take (i + 1) es) e bs e.now
    (take_more es i d in_es) refl refl in
    let ws_more : take (i + 1) ws ≡ take i ws ++ w ∷ [] = take_more ws i 0 in_ws in
    let len : length e.now ≡ 32 * w =
    ap length read.text ∙ length-row_text row.items read.sizes ∙ ap (λ n. 32 * n) read.count in (
      mapped_more (λ (x : Vec (List ℕ) Global). x.items) rows more row (map row_of bs) (row_of e.now) is hashes
          (row_is_one w e.now row.items read)
          ∙ sym (mapped_more row_of bs (bytes_of (take (i + 1) es)) e.now (map row_of bs)
          (row_of e.now) bs_more refl refl),
      mapped_more length bs (bytes_of (take (i + 1) es)) e.now (map (λ width. 32 * width) (take i ws))
          (32 * w) bs_more lengths len
          ∙ sym (mapped_more (λ width. 32 * width) (take i ws) (take (i + 1) ws) w
          (map (λ width. 32 * width) (take i ws)) (32 * w) ws_more refl refl),
    )

-- ---- strings

-- the first row and the others
pub split_rows :
    (rows : List (Vec (List ℕ) Global)) (lowest : Vec (List ℕ) Global) → 0 < length rows →
    lowest ≡ get_or rows 0 lowest → rows ≡ lowest ∷ remove rows 0
split_rows [] lowest some is = absurd (omega (arith, some))
split_rows (x ∷ xs) lowest some is = ap (λ y. y ∷ xs) (sym is)

module _ (digest : List ℕ → List ℕ) where
  module _ (lowest : List (List ℕ)) (rest : List (List (List ℕ))) (start : List ℕ)
      (start_is : start ≡ fold_of digest lowest) where
    pub edge_root_is : root_from digest start rest ≡ edge_root digest (lowest ∷ rest)
    edge_root_is = ap (λ h. root_from digest h rest) start_is

    pub edge_strings_are :
        (v v1 : Strings) → v1 ≡ set.union v (set.from_list (joins digest lowest)) →
        set.union v1 (set.from_list (strings_from digest start rest))
        ≡ set.union v (set.from_list (edge_strings digest (lowest ∷ rest)))
    edge_strings_are v v1 v1_is =
        (λ i. set.union (v1_is i) (set.from_list (strings_from digest (start_is i) rest)))
        ∙ added_both v (joins digest lowest) (strings_from digest (fold_of digest lowest) rest)

  pub edge_clash :
      (lowest : List (List ℕ)) (rest : List (List (List ℕ))) (v : Strings) →
      HasClash digest (set.union v (set.from_list (joins digest lowest))) →
      HasClash digest (set.union v (set.from_list (edge_strings digest (lowest ∷ rest))))
  edge_clash lowest rest v c =
      let u = set.union v (set.from_list (joins digest lowest)) in
      let more = strings_from digest (fold_of digest lowest) rest in
      subst (HasClash digest) (added_both v (joins digest lowest) more)
      (clash_within digest u (set.union u (set.from_list more)) (λ q h. has_left u (set.from_list more) q h) c)
