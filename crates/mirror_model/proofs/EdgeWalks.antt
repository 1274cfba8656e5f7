-- The walk from the root of a tree head whose right edge is held: it fails only below the hashes of the edge's rows.
use Rattle.std.proofs.Common.{subst, get_or, Bool, true, false, inl, inr, ◌⊎◌, ◌≡◌, ℕ, zero, suc, ◌+◌, ◌*◌, ◌/◌, ◌^◌}
use Rattle.std.proofs.Common.{◌<◌, ◌≤◌, List, [], ◌∷◌, ◌++◌, length, take, drop, map, cond, nat_eq, not, sym, refl, ap}
use Rattle.std.proofs.Common.{◌∙◌, arith, length-append, length-take, length-drop, take-append-drop}
use Rattle.std.specs.List.{Contains, AllByRecursion, filter}
use Rattle.std.proofs.lemmas.List.{append-nil, nil_from_length, get_or-append-add, get_or_append_left}
use Rattle.std.proofs.lemmas.List.{take_all}
use Rattle.std.proofs.lemmas.List.Concat.{flat_map-cons}
use Rattle.std.proofs.lemmas.List.Elements.{Contains-append_left, Contains-append_right, recursion_from_All}
use Rattle.std.proofs.lemmas.Nat.{mul-le}
use Rattle.std.proofs.lemmas.Bool.{cases_lt, eqb-true, eqb-false}
use Rattle.std.proofs.Math.Nat.{div-mul-le_self}
use Rattle.tlog_shape.specs.Split.{split_of}
use Rattle.tlog_shape.specs.Edge.{width_of}
use Rattle.tlog_shape.proofs.Levels.{level_power}
use Rattle.tlog_hash.specs.Tree.{Join, tree_of, size_of, fold_of, joins}
use Rattle.tlog_hash.specs.Blocks.{IsCut, joined_up}
use Rattle.tlog_hash.specs.Nodes.{IsJoin}
use Rattle.tlog_hash.specs.Rows.{part, ranges}
use Rattle.tlog_hash.proofs.Cuts.{cut_induction, IsSplit}
use Rattle.tlog_hash.proofs.Folds.{length-ranges, joined_ranges, all_ranges, cut_full}
use Rattle.tlog_hash.proofs.NodeStrings.{size_of-tree, to_joins}
use Rattle.tlog_hash.proofs.PairStrings.{left_is, right_is}
use Rattle.tlog_hash.proofs.Trees.{tree_of-none, tree_of-append, fold_of-one, fold_of-append, all-append}
use Rattle.tlog_hash.proofs.Trees.{all-left, all-right}
use Rattle.node_store.specs.Strings.{Strings, Has, NoClash}
use Rattle.mirror_model.specs.Edge.{edge_levels, edge_widths, edge_root, root_from, edge_strings, strings_from}
use Rattle.mirror_model.specs.Item.{row_of}
use Rattle.mirror_model.specs.Walk.{WalkFails}
use Rattle.mirror_model.proofs.EdgeRoots.{IsLevel, level_is, levels_from, row_and_rest}
use Rattle.mirror_model.proofs.ItemBytes.{row_is_row}
use Rattle.mirror_model.proofs.ItemStrings.{fold_length}
use Rattle.mirror_model.proofs.MissingPaths.{fails_inside}
use Rattle.mirror_model.proofs.RowLaws.{get_or-ranges}

-- each hash has 32 bytes
abbrev pub AreHashes : List (List ℕ) → Type 0
AreHashes row = AllByRecursion (λ hash. length hash ≡ 32) row

-- ---- the rows of a tree head, level by level

-- the rows have the widths of the right edge of n at these levels, lowest first
abbrev pub Fit : ℕ → ℕ → ℕ → List (List (List ℕ)) → Type 0
Fit n zero level rows = rows ≡ []
Fit n (suc levels) level rows =
    ((width_of n level ≡ 0) × Fit n levels (level + 1) rows)
    ⊎ ((row : List (List ℕ)) × (rest : List (List (List ℕ))) × (rows ≡ row ∷ rest) × (0 < width_of n level)
    × (length row ≡ width_of n level) × AreHashes row × Fit n levels (level + 1) rest)

-- those of the levels that have a partial tile
abbrev pub widths_from : ℕ → ℕ → ℕ → List ℕ
widths_from n levels level = filter (λ l. not (nat_eq (width_of n l) 0)) (levels_from levels level)

-- the rows have 32 bytes for each hash of these levels
abbrev pub HaveWidths : ℕ → List ℕ → List (List ℕ) → Type 0
HaveWidths n levels rows = map length rows ≡ map (λ width. 32 * width) (map (width_of n) levels)

fit_level : (n levels level : ℕ) (x : Bool) → nat_eq (width_of n level) 0 ≡ x →
    ((rows : List (List ℕ)) → HaveWidths n (widths_from n levels (level + 1)) rows →
    Fit n levels (level + 1) (map row_of rows)) → (rows : List (List ℕ)) →
    HaveWidths n (cond (not x) (level ∷ widths_from n levels (level + 1)) (widths_from n levels (level + 1))) rows →
    Fit n (suc levels) level (map row_of rows)
fit_level n levels level true z later rows e = inl (eqb-true _ _ z, later rows e)
fit_level n levels level false z later [] e = absurd (let wrong = ap length e in omega (arith, wrong))
fit_level n levels level false z later (row ∷ rows) e =
    let some : width_of n level ≡ 0 → ⊥ = eqb-false _ _ z in
    let len : length row ≡ 32 * width_of n level = ap (λ ls. get_or ls 0 0) e in
    let r = row_is_row (width_of n level) row len in
    inr (
      row_of row,
      map row_of rows,
      refl,
      omega (arith, some),
      r.count,
      recursion_from_All (λ hash. length hash ≡ 32) (row_of row) r.sizes,
      later rows (ap (drop 1) e),
    )

fit_levels : (n levels level : ℕ) (rows : List (List ℕ)) → HaveWidths n (widths_from n levels level) rows →
    Fit n levels level (map row_of rows)
fit_levels n zero level [] e = refl
fit_levels n zero level (row ∷ rows) e = absurd (let wrong = ap length e in omega (arith, wrong))
fit_levels n (suc levels) level rows e =
    fit_level n levels level (nat_eq (width_of n level) 0) refl (fit_levels n levels (level + 1)) rows e

pub rows_fit : (n : ℕ) (rows : List (List ℕ)) → map length rows ≡ map (λ width. 32 * width) (edge_widths n) →
    Fit n 8 0 (map row_of rows)
unfolding edge_levels
rows_fit n rows widths = fit_levels n 8 0 rows widths

-- ---- the walk over a row

module _ (digest : List ℕ → List ℕ) (hash : (s : List ℕ) → length (digest s) ≡ 32) (held : Strings)
    (clean : NoClash digest held) where
  -- all pairs of the row's fold are held
  abbrev JoinsHeld : List (List ℕ) → Type 0
  JoinsHeld row = (y : List ℕ) → IsJoin digest (tree_of row) y → Has held y

  -- the walk from the hash of a block fails in that block
  pub record FailsInBlock (b : ℕ) (bs : List (List ℕ)) (row : List (List ℕ)) (s at many : ℕ) : Type 0 where
    pub index : ℕ
    pub below : index < length bs
    pub fails : WalkFails digest held (tree_of (get_or bs index [])) (s + index * b) (get_or row index []) at many

  abbrev Descends : ℕ → List (List ℕ) → Type 0
  Descends b bs =
      (row : List (List ℕ)) → length row ≡ length bs → AreHashes row → JoinsHeld row → (s at many : ℕ) →
      WalkFails digest held (tree_of (joined_up bs)) s (fold_of digest row) at many → FailsInBlock b bs row s at many

  pub same_join : (us vs : List (List ℕ)) →
      IsJoin digest (Join (tree_of us) (tree_of vs)) (1 ∷ fold_of digest us ++ fold_of digest vs)
  unfolding fold_of
  same_join us vs = inl refl

  one_block : (b : ℕ) (x : List ℕ) → Descends b (x ∷ [])
  one_block b x [] len all joined s at many f = absurd (omega arith)
  one_block b x (h ∷ i ∷ row) len all joined s at many f = absurd (omega arith)
  one_block b x (h ∷ []) len all joined s at many f =
      let z : s ≡ s + 0 * b = omega arith in
      let whole : joined_up (x ∷ []) ≡ x = flat_map-cons (λ y. y) x [] ∙ append-nil x in
      record {
        index =
            0;
        below =
            omega arith;
        fails =
            subst (λ m. WalkFails digest held (tree_of x) m h at many) z
            (subst (λ v. WalkFails digest held (tree_of x) s v at many) (fold_of-one digest h)
            (subst (λ zs. WalkFails digest held (tree_of zs) s (fold_of digest (h ∷ [])) at many) whole f));
      }

  module _ (b : ℕ) (xs ys : List (List ℕ)) (split : IsSplit b xs ys) (left : Descends b xs)
      (right : Descends b ys) where
    two_parts : (us vs : List (List ℕ)) → length us ≡ length xs → length vs ≡ length ys → AreHashes (us ++ vs) →
        JoinsHeld (us ++ vs) → (s at many : ℕ) →
        WalkFails digest held (tree_of (joined_up (xs ++ ys))) s (fold_of digest (us ++ vs)) at many →
        FailsInBlock b (xs ++ ys) (us ++ vs) s at many
    two_parts us vs la lc all joined s at many f =
        let two : 2 ≤ length us + length vs = omega (arith, la, lc, split.some_left, split.some_right) in
        let sum : length xs + length ys ≡ length us + length vs = omega (arith, la, lc) in
        let place : length us ≡ split_of (length us + length vs) = la ∙ split.at ∙ ap split_of sum in
        let tree : tree_of (us ++ vs) ≡ Join (tree_of us) (tree_of vs) = tree_of-append us vs two place in
        let fold : fold_of digest (us ++ vs) ≡ digest (1 ∷ fold_of digest us ++ fold_of digest vs) =
        fold_of-append digest us vs two place in
        let all_a = all-left (λ (h : List ℕ). length h ≡ 32) us vs all in
        let all_c = all-right (λ (h : List ℕ). length h ≡ 32) us vs all in
        let len_a = fold_length digest hash us all_a in
        let len_c = fold_length digest hash vs all_c in
        let here : Has held (1 ∷ fold_of digest us ++ fold_of digest vs) =
        joined _ (subst (λ t. IsJoin digest t (1 ∷ fold_of digest us ++ fold_of digest vs)) (sym tree)
        (same_join us vs)) in
        let f' : WalkFails digest held (Join (tree_of (joined_up xs)) (tree_of (joined_up ys))) s
        (digest (1 ∷ fold_of digest us ++ fold_of digest vs)) at many =
        subst (λ v. WalkFails digest held (Join (tree_of (joined_up xs)) (tree_of (joined_up ys))) s v at many) fold
        (subst (λ t. WalkFails digest held t s (fold_of digest (us ++ vs)) at many) split.tree_is f) in
        elim f' [
          | inl none ↦ absurd
              (none.1 (fold_of digest us) (fold_of digest vs)
              (record { left_len = len_a; right_len = len_c; is = record { is_held = here; digest_is = refl } }))
          | inr on ↦
              let same : 1 ∷ on.0 ++ on.1 ≡ 1 ∷ fold_of digest us ++ fold_of digest vs =
              clean.same _ _ on.2.is.is_held here on.2.is.digest_is in
              let lens : length on.0 ≡ length (fold_of digest us) = on.2.left_len ∙ sym len_a in
              let l_is : on.0 ≡ fold_of digest us =
              left_is on.0 on.1 (fold_of digest us) (fold_of digest vs) lens same in
              let r_is : on.1 ≡ fold_of digest vs =
              right_is on.0 on.1 (fold_of digest us) (fold_of digest vs) lens same in
              let start : s + size_of (tree_of (joined_up xs)) ≡ s + length xs * b =
              ap (λ n. s + n) (size_of-tree (joined_up xs) ∙ split.total) in
              elim on.3 [
                | inl a ↦
                    let k = left us la all_a
                    (λ y j. joined y (subst (λ t. IsJoin digest t y) (sym tree) (inr (inl j)))) s at many
                    (subst (λ v. WalkFails digest held (tree_of (joined_up xs)) s v at many) l_is a) in
                    record {
                      index = k.index;
                      below = omega (arith, k.below, length-append xs ys);
                      fails = subst
                          (λ blk. WalkFails digest held (tree_of blk) (s + k.index * b)
                          (get_or (us ++ vs) k.index []) at many) (sym (get_or_append_left xs ys [] k.index k.below))
                          (subst (λ v. WalkFails digest held (tree_of (get_or xs k.index []))
                          (s + k.index * b) v at many)
                          (sym (get_or_append_left us vs [] k.index (omega (arith, k.below, la)))) k.fails);
                    }
                | inr a ↦
                    let k = right vs lc all_c
                    (λ y j. joined y (subst (λ t. IsJoin digest t y) (sym tree) (inr (inr j))))
                    (s + length xs * b) at many
                    (subst (λ n. WalkFails digest held (tree_of (joined_up ys)) n (fold_of digest vs) at many) start
                    (subst (λ v. WalkFails digest held (tree_of (joined_up ys))
                    (s + size_of (tree_of (joined_up xs))) v at many) r_is a)) in
                    let at_sum : (s + length xs * b) + k.index * b ≡ s + (length xs + k.index) * b = omega arith in
                    let hash_at : get_or vs k.index [] ≡ get_or (us ++ vs) (length xs + k.index) [] =
                    sym (get_or-append-add us vs k.index []) ∙ ap (λ n. get_or (us ++ vs) (n + k.index) []) la in
                    record {
                      index = length xs + k.index;
                      below = omega (arith, k.below, length-append xs ys);
                      fails = subst
                          (λ n. WalkFails digest held (tree_of (get_or (xs ++ ys) (length xs + k.index) [])) n
                          (get_or (us ++ vs) (length xs + k.index) []) at many) at_sum
                          (subst (λ v. WalkFails digest held (tree_of (get_or (xs ++ ys) (length xs + k.index) []))
                          ((s + length xs * b) + k.index * b) v at many) hash_at
                          (subst (λ blk. WalkFails digest held (tree_of blk) ((s + length xs * b) + k.index * b)
                          (get_or vs k.index []) at many) (sym (get_or-append-add xs ys k.index [])) k.fails));
                    }
              ]
        ]

    more_blocks : Descends b (xs ++ ys)
    more_blocks row len all joined s at many f =
        let k = length xs in
        let sum : length row ≡ length xs + length ys = len ∙ length-append xs ys in
        let la : length (take k row) ≡ length xs = length-take k row ∙ omega (arith, sum) in
        let lc : length (drop k row) ≡ length ys = length-drop k row ∙ omega (arith, sum) in
        let whole : take k row ++ drop k row ≡ row = take-append-drop k row in
        subst (λ r. FailsInBlock b (xs ++ ys) r s at many) whole
        (two_parts (take k row) (drop k row) la lc (subst AreHashes (sym whole) all)
        (subst JoinsHeld (sym whole) joined) s at many
        (subst (λ r. WalkFails digest held (tree_of (joined_up (xs ++ ys))) s (fold_of digest r) at many)
        (sym whole) f))

  pub descends : (level : ℕ) (bs : List (List ℕ)) → IsCut (256 ^ level) bs → Descends (256 ^ level) bs
  descends level =
      subst (λ b. (bs : List (List ℕ)) → IsCut b bs → Descends b bs) (sym (level_power level))
      (cut_induction (8 * level) (Descends (2 ^ (8 * level))) (λ x some upto. one_block (2 ^ (8 * level)) x)
      (more_blocks (2 ^ (8 * level))))

  -- ---- level by level, over a list of n items

  module _ (zs : List ℕ) where
    -- the node is among the items of one hash of a level, and the tree has all of them
    pub record IsBelowHash (at many : ℕ) : Type 0 where
      pub level : ℕ
      pub index : ℕ
      pub from : index * 256 ^ level ≤ at
      pub upto : at + many ≤ (index + 1) * 256 ^ level
      pub full : (index + 1) * 256 ^ level ≤ length zs

    -- from that item and that hash on, the walk fails only below such hashes
    abbrev Below : ℕ → List ℕ → Type 0
    Below start value =
        (at many : ℕ) → WalkFails digest held (tree_of (drop start zs)) start value at many → IsBelowHash at many

    in_hash : (level q p w c i at many : ℕ) (h : List ℕ) → IsLevel (length zs) (256 ^ level) c q p w → i < w →
        WalkFails digest held (tree_of (part ((256 * p + i) * 256 ^ level) (256 ^ level) zs))
        (p * c + i * 256 ^ level) h at many → IsBelowHash at many
    in_hash level q p w c i at many h n lt f =
        let b = 256 ^ level in
        let span = fails_inside digest held (tree_of (part ((256 * p + i) * b) b zs)) (p * c + i * b) h at many f in
        let short : size_of (tree_of (part ((256 * p + i) * b) b zs)) ≤ b =
        omega (arith, size_of-tree (part ((256 * p + i) * b) b zs), length-take b (drop ((256 * p + i) * b) zs)) in
        let place : (256 * p + i) * b ≡ (256 * p) * b + i * b = omega arith in
        let next : (256 * p + i + 1) * b ≡ ((256 * p) * b + i * b) + b = omega arith in
        let more : (i + 1) * b ≤ w * b = mul-le _ _ _ _ (omega arith) (omega arith) in
        let more' : (i + 1) * b ≡ i * b + b = omega arith in
        record {
          level =
              level;
          index =
              256 * p + i;
          from =
              omega (arith, span.from, n.start, place);
          upto =
              omega (arith, span.upto, n.start, next, short);
          full = omega (arith, next, more, more', n.done, n.upto);
        }

    pub row_below : (level q p w c : ℕ) (row : List (List ℕ)) (value : List ℕ) →
        IsLevel (length zs) (256 ^ level) c q p w → q * 256 ^ level < length zs → length row ≡ w → AreHashes row →
        length value ≡ 32 → JoinsHeld (row ++ value ∷ []) → Below (q * 256 ^ level) value →
        Below (p * c) (fold_of digest (row ++ value ∷ []))
    row_below level q p w c row value n more count sizes value_len joined below at many f =
        let b = 256 ^ level in
        let bs = ranges b (256 * p) w zs in
        let rest = drop (q * b) zs in
        let parts = row_and_rest zs level c q p w n more in
        let cut : IsCut b (bs ++ rest ∷ []) = parts.0 in
        let whole : joined_up (bs ++ rest ∷ []) ≡ drop (p * c) zs = parts.1 in
        let len_bs : length bs ≡ w = length-ranges b (256 * p) w zs in
        let len : length (row ++ value ∷ []) ≡ length (bs ++ rest ∷ []) =
        omega (arith, length-append row (value ∷ []), length-append bs (rest ∷ []), len_bs, count) in
        let hashes : AreHashes (row ++ value ∷ []) =
        all-append (λ (h : List ℕ). length h ≡ 32) row (value ∷ []) sizes (value_len, tt) in
        let d = descends level (bs ++ rest ∷ []) cut (row ++ value ∷ []) len hashes joined (p * c) at many
        (subst (λ xs. WalkFails digest held (tree_of xs) (p * c) (fold_of digest (row ++ value ∷ [])) at many)
        (sym whole) f) in
        elim (cases_lt d.index w) [
          | inl lt ↦
              let blk : get_or (bs ++ rest ∷ []) d.index [] ≡ part ((256 * p + d.index) * b) b zs =
              get_or_append_left bs (rest ∷ []) [] d.index (omega (arith, len_bs, lt)) ∙
              get_or-ranges b n.some (256 * p) w d.index zs lt in
              in_hash level q p w c d.index at many (get_or (row ++ value ∷ []) d.index []) n lt
              (subst (λ x. WalkFails digest held (tree_of x) (p * c + d.index * b)
              (get_or (row ++ value ∷ []) d.index []) at many) blk d.fails)
          | inr le ↦
              let last : d.index ≡ w = omega (arith, d.below, length-append bs (rest ∷ []), len_bs, le) in
              let blk : get_or (bs ++ rest ∷ []) w [] ≡ rest =
              ap (λ m. get_or (bs ++ rest ∷ []) m []) (omega (arith, len_bs)) ∙
              get_or-append-add bs (rest ∷ []) 0 [] in
              let hash_at : get_or (row ++ value ∷ []) w [] ≡ value =
              ap (λ m. get_or (row ++ value ∷ []) m []) (omega (arith, count)) ∙
              get_or-append-add row (value ∷ []) 0 [] in
              let start : p * c + w * b ≡ q * b = omega (arith, n.start, n.done) in
              below at many
              (subst (λ m. WalkFails digest held (tree_of rest) m value at many) start
              (subst (λ v. WalkFails digest held (tree_of rest) (p * c + w * b) v at many) hash_at
              (subst (λ x. WalkFails digest held (tree_of x) (p * c + w * b)
              (get_or (row ++ value ∷ []) w []) at many) blk
              (subst (λ i. WalkFails digest held (tree_of (get_or (bs ++ rest ∷ []) i [])) (p * c + i * b)
              (get_or (row ++ value ∷ []) i []) at many) last d.fails))))
        ]

    pub first_row_below : (level q p w c : ℕ) (row : List (List ℕ)) → IsLevel (length zs) (256 ^ level) c q p w →
        length zs ≡ q * 256 ^ level → 0 < w → length row ≡ w → AreHashes row → JoinsHeld row →
        Below (p * c) (fold_of digest row)
    first_row_below level q p w c row n end some count sizes joined at many f =
        let b = 256 ^ level in
        let bs = ranges b (256 * p) w zs in
        let fits : (256 * p + w) * b ≤ length zs = rw (← n.sum) n.upto in
        let len_bs : length bs ≡ w = length-ranges b (256 * p) w zs in
        let cut : IsCut b bs = cut_full b bs (all_ranges b (256 * p) w zs fits) (omega (arith, len_bs, some)) n.some in
        let whole : joined_up bs ≡ drop (p * c) zs =
        joined_ranges b (256 * p) w zs ∙
        take_all (w * b) (drop ((256 * p) * b) zs) (omega (arith, length-drop ((256 * p) * b) zs, n.done)) ∙
        ap (λ m. drop m zs) (sym n.start) in
        let d = descends level bs cut row (omega (arith, len_bs, count)) sizes joined (p * c) at many
        (subst (λ xs. WalkFails digest held (tree_of xs) (p * c) (fold_of digest row) at many) (sym whole) f) in
        let lt : d.index < w = omega (arith, d.below, len_bs) in
        let blk : get_or bs d.index [] ≡ part ((256 * p + d.index) * b) b zs =
        get_or-ranges b n.some (256 * p) w d.index zs lt in
        in_hash level q p w c d.index at many (get_or row d.index []) n lt
        (subst (λ x. WalkFails digest held (tree_of x) (p * c + d.index * b)
        (get_or row d.index []) at many) blk d.fails)

    none_left : (level : ℕ) → length zs < 256 ^ (level + 0) → length zs / 256 ^ level ≡ 0
    none_left level small =
        let e : level + 0 ≡ level = omega arith in
        zero_from (length zs / 256 ^ level) (256 ^ level)
        (omega (arith, subst (λ m. length zs < 256 ^ m) e small, div-mul-le_self (length zs) (256 ^ level)))
      where
        zero_from : (q b : ℕ) → q * b < b → q ≡ 0
        zero_from zero b h = refl
        zero_from (suc q) b h = let e : suc q * b ≡ b + q * b = omega arith in absurd (omega (arith, e))

    abbrev AllHeld : List (List ℕ) → Type 0
    AllHeld strings = (y : List ℕ) → Contains strings y → Has held y

    rest_below : (levels level : ℕ) (value : List ℕ) (rows : List (List (List ℕ))) →
        length zs < 256 ^ (level + levels) → length zs / 256 ^ level * 256 ^ level < length zs → length value ≡ 32 →
        Fit (length zs) levels level rows → AllHeld (strings_from digest value rows) →
        Below (length zs / 256 ^ level * 256 ^ level) value → Below 0 (root_from digest value rows)
    rest_below zero level value rows small more len fit all below =
        let z : length zs / 256 ^ level * 256 ^ level ≡ 0 =
        ap (λ q. q * 256 ^ level) (none_left level small) ∙ omega arith in
        subst (λ rs. Below 0 (root_from digest value rs)) (sym fit) (subst (λ m. Below m value) z below)
    rest_below (suc levels) level value rows small more len (inl later) all below =
        let n = level_is (length zs) level in
        let e : level + suc levels ≡ (level + 1) + levels = omega arith in
        let zb : width_of (length zs) level * 256 ^ level ≡ 0 = ap (λ m. m * 256 ^ level) later.0 ∙ omega arith in
        let same : length zs / 256 ^ level * 256 ^ level ≡ length zs / 256 ^ (level + 1) * 256 ^ (level + 1) =
        omega (arith, n.start, n.done, zb) in
        rest_below levels (level + 1) value rows (subst (λ m. length zs < 256 ^ m) e small)
        (omega (arith, same, more)) len later.1 all (subst (λ m. Below m value) same below)
    rest_below (suc levels) level value rows small more len (inr here) all below =
        let n = level_is (length zs) level in
        let e : level + suc levels ≡ (level + 1) + levels = omega arith in
        let row = here.0 in
        let rest = here.1 in
        let all' = subst (λ rs. AllHeld (strings_from digest value rs)) here.2 all in
        let next = fold_of digest (row ++ value ∷ []) in
        let next_len : length next ≡ 32 =
        fold_length digest hash (row ++ value ∷ [])
        (all-append (λ (h : List ℕ). length h ≡ 32) row (value ∷ []) here.5 (len, tt)) in
        let step =
        row_below level (length zs / 256 ^ level) (length zs / 256 ^ (level + 1)) (width_of (length zs) level)
        (256 ^ (level + 1)) row value n more here.4 here.5 len
        (λ y j. all' y
        (Contains-append_left (joins digest (row ++ value ∷ [])) (strings_from digest next rest) y
        (to_joins digest (row ++ value ∷ []) y j))) below in
        subst (λ rs. Below 0 (root_from digest value rs)) (sym here.2)
        (rest_below levels (level + 1) next rest (subst (λ m. length zs < 256 ^ m) e small)
        (omega (arith, n.start, n.done, more)) next_len here.6
        (λ y c. all' y
        (Contains-append_right (joins digest (row ++ value ∷ [])) (strings_from digest next rest) y c)) step)

    first_below : (levels level : ℕ) (rows : List (List (List ℕ))) → length zs < 256 ^ (level + levels) →
        length zs ≡ length zs / 256 ^ level * 256 ^ level → Fit (length zs) levels level rows →
        AllHeld (edge_strings digest rows) → Below 0 (edge_root digest rows)
    first_below zero level rows small end fit all =
        let z : length zs ≡ 0 = end ∙ ap (λ q. q * 256 ^ level) (none_left level small) ∙ omega arith in
        λ at many f. absurd
        (subst (λ t. WalkFails digest held t 0 (edge_root digest rows) at many)
        (ap tree_of (nil_from_length zs z) ∙ tree_of-none) f)
    first_below (suc levels) level rows small end (inl later) all =
        let n = level_is (length zs) level in
        let e : level + suc levels ≡ (level + 1) + levels = omega arith in
        let zb : width_of (length zs) level * 256 ^ level ≡ 0 = ap (λ m. m * 256 ^ level) later.0 ∙ omega arith in
        first_below levels (level + 1) rows (subst (λ m. length zs < 256 ^ m) e small)
        (omega (arith, n.start, n.done, zb, end)) later.1 all
    first_below (suc levels) level rows small end (inr here) all =
        let n = level_is (length zs) level in
        let e : level + suc levels ≡ (level + 1) + levels = omega arith in
        let row = here.0 in
        let rest = here.1 in
        let all' = subst (λ rs. AllHeld (edge_strings digest rs)) here.2 all in
        let next = fold_of digest row in
        let one : 1 * 256 ^ level ≤ width_of (length zs) level * 256 ^ level =
        mul-le _ _ _ _ (omega (arith, here.3)) (omega arith) in
        let step =
        first_row_below level (length zs / 256 ^ level) (length zs / 256 ^ (level + 1)) (width_of (length zs) level)
        (256 ^ (level + 1)) row n end here.3 here.4 here.5
        (λ y j. all' y
        (Contains-append_left (joins digest row) (strings_from digest next rest) y (to_joins digest row y j))) in
        subst (λ rs. Below 0 (edge_root digest rs)) (sym here.2)
        (rest_below levels (level + 1) next rest (subst (λ m. length zs < 256 ^ m) e small)
        (omega (arith, n.start, n.done, n.some, one, end)) (fold_length digest hash row here.5) here.6
        (λ y c. all' y (Contains-append_right (joins digest row) (strings_from digest next rest) y c)) step)

    pub edge_below : (rows : List (List (List ℕ))) → length zs < 256 ^ 8 → Fit (length zs) 8 0 rows →
        AllHeld (edge_strings digest rows) → Below 0 (edge_root digest rows)
    edge_below rows small fit all = first_below 8 0 rows small (one (length zs)) fit all
      where
        one : (n : ℕ) → n ≡ n / 256 ^ 0 * 256 ^ 0
        one n = omega arith
