-- The strings of the true edge rows.
use Rattle.std.proofs.Common.{subst, Bool, true, false, inl, inr, ◌⊎◌, ◌≡◌, ℕ, zero, suc, ◌+◌, ◌-◌, ◌*◌, ◌/◌, ◌%◌, ◌^◌}
use Rattle.std.proofs.Common.{◌<◌, ◌≤◌, List, [], ◌∷◌, ◌++◌, length, take, drop, map, sym, refl, ap, ◌∙◌, arith}
use Rattle.std.proofs.Common.{length-take, length-drop}
use Rattle.std.proofs.lemmas.List.{map-append, take_all}
use Rattle.std.proofs.lemmas.List.Elements.{Contains-append_left, Contains-append_right, Contains-append_cases}
use Rattle.std.proofs.lemmas.List.Elements.{All-contains, All-nil}
use Rattle.std.proofs.lemmas.Nat.{mul-le, div-mul-add}
use Rattle.std.proofs.lemmas.Bool.{eqb-true, eqb-false, cases_lt}
use Rattle.std.specs.Prelude.{nat_eq, if◌then◌else◌, ◌↔◌}
use Rattle.std.specs.List.{Contains}
use Rattle.tlog_hash.specs.Tree.{tree_of, fold_of, mth, joins, strings}
use Rattle.tlog_hash.specs.Rows.{part, ranges, level_row}
use Rattle.mirror_model.specs.Edge.{edge_rows, strings_from, edge_strings}
use Rattle.tlog_hash.specs.Nodes.{Node, IsNode}
use Rattle.tlog_hash.proofs.Folds.{joined_ranges, ranges_more}
use Rattle.tlog_shape.proofs.Levels.{level_positive, level_power}
use Rattle.mirror_model.proofs.EdgeRoots.{edge_rows_from, edge_rows-levels, IsLevel, level_is, fold_row, fold_row_rest}
use Rattle.tlog_hash.proofs.NodeStrings.{string_of_node}
use Rattle.mirror_model.proofs.NodeBlocks.{IsInside, node_inside}
use Rattle.mirror_model.proofs.RowLaws.{cut_ranges, row_law, HasTileNode, IsWholeRow, IsAtBlock, to_block}

module _ (digest : List ℕ → List ℕ) (es : List (List ℕ)) where
  -- the row with the value after it is the row with one more hash
  row_more : (level p q w : ℕ) → IsLevel (length es) (256 ^ level) (256 ^ (level + 1)) q p w →
      level_row digest es level (256 * p) w ++ mth digest (drop (q * 256 ^ level) es) ∷ []
      ≡ map (mth digest) (ranges (256 ^ level) (256 * p) (w + 1) es)
  row_more level p q w h =
      let b = 256 ^ level in
      let at : (256 * p + w) * b ≡ q * b = ap (λ m. m * b) (sym h.sum) in
      sym (ap (map (mth digest)) (ranges_more b (256 * p) w es) ∙
      map-append (mth digest) (ranges b (256 * p) w es) (part ((256 * p + w) * b) b es ∷ []) ∙
      ap (λ xs. map (mth digest) (ranges b (256 * p) w es) ++ mth digest xs ∷ [])
      (ap (λ m. take b (drop m es)) at ∙
      take_all b (drop (q * b) es) (omega (arith, length-drop (q * b) es, h.above))))

  whole_row : (level p q w v : ℕ) → IsLevel (length es) (256 ^ level) (256 ^ (level + 1)) q p w →
      v * 256 ^ level + (256 * p) * 256 ^ level < length es + 256 ^ level →
      length es ≤ v * 256 ^ level + (256 * p) * 256 ^ level → 0 < v → w < 256 →
      IsWholeRow digest es (256 ^ level) (256 ^ (level + 1)) p v
  whole_row level p q w v h above upto some small =
      let b = 256 ^ level in
      let c = 256 ^ (level + 1) in
      let sum : (256 * p + v) * b ≡ v * b + (256 * p) * b = omega arith in
      let few : (w + 1) * b ≤ 256 * b = mul-le _ _ _ _ (omega arith) (omega arith) in
      let w1 : (w + 1) * b ≡ w * b + b = omega arith in
      let one : 1 * b ≤ v * b = mul-le _ _ _ _ (omega arith) (omega arith) in
      let start = h.start in
      record {
        cut = cut_ranges b h.some (256 * p) v es some (omega (arith, sum, above));
        covers = joined_ranges b (256 * p) v es ∙
            take_all (v * b) (drop ((256 * p) * b) es) (omega (arith, length-drop ((256 * p) * b) es, upto)) ∙
            ap (λ m. drop m es) (sym start) ∙
            sym (take_all c (drop (p * c) es)
            (omega (arith, length-drop (p * c) es, h.above, h.done, h.next, few, w1, start)));
        below = omega (arith, above, upto, one, h.some, start, h.upto, h.done, h.above);
      }

  -- a level of width 0 has no such node at its end
  none_here : (level p q w : ℕ) → IsLevel (length es) (256 ^ level) (256 ^ (level + 1)) q p w → w ≡ 0 → (y : List ℕ) →
      HasTileNode digest es (256 ^ level) (256 ^ (level + 1)) p y → ⊥
  none_here level p q w h z y n =
      let zb : w * 256 ^ level ≡ 0 = ap (λ m. m * 256 ^ level) z ∙ omega arith in
      let whole = node_inside digest es 0 n.node n.is in
      omega (arith, whole.upto, n.inside.start_in, n.long, h.above, h.done, h.start, zb)

  -- a node at the end of one of these levels
  pub record HasEdgeNode (level levels : ℕ) (y : List ℕ) : Type 0 where
    pub at : ℕ
    pub low : level ≤ at
    pub high : at < level + levels
    pub has : HasTileNode digest es (256 ^ at) (256 ^ (at + 1)) (length es / 256 ^ (at + 1)) y

  abbrev Here : ℕ → List ℕ → Type 0
  Here level y = HasTileNode digest es (256 ^ level) (256 ^ (level + 1)) (length es / 256 ^ (level + 1)) y

  first_or_later : (level levels : ℕ) (y : List ℕ) →
      (Here level y ⊎ HasEdgeNode (level + 1) levels y) ↔ HasEdgeNode level (suc levels) y
  first_or_later level levels y = (
    λ h. elim h [
      | inl a ↦ record { at = level; low = omega arith; high = omega arith; has = a }
      | inr a ↦ record { at = a.at; low = omega (arith, a.low); high = omega (arith, a.high); has = a.has }
    ],
    λ h. elim (cases_lt level h.at) [
      | inl lt ↦ inr (record { at = h.at; low = omega (arith, lt); high = omega (arith, h.high); has = h.has })
      | inr le ↦ let same : h.at ≡ level = omega (arith, le, h.low) in inl (subst (λ l. Here l y) same h.has)
    ],
  )

  abbrev Rest : ℕ → List (List (List ℕ)) → List ℕ → Type 0
  Rest start rows y = Contains (strings_from digest (mth digest (drop start es)) rows) y

  both : (xs ys : List (List ℕ)) (y : List ℕ) (X Y : Type 0) → Contains xs y ↔ X → Contains ys y ↔ Y →
      Contains (xs ++ ys) y ↔ (X ⊎ Y)
  both xs ys y X Y f g = (
    λ c. elim (Contains-append_cases xs ys y c) [ inl a ↦ inl (f.0 a) | inr a ↦ inr (g.0 a) ],
    λ s. elim s [ inl a ↦ Contains-append_left xs ys y (f.1 a) | inr a ↦ Contains-append_right xs ys y (g.1 a) ],
  )

  strings_step : (level w p q : ℕ) (rows : List (List (List ℕ))) (x : Bool) → nat_eq w 0 ≡ x → w < 256 →
      IsLevel (length es) (256 ^ level) (256 ^ (level + 1)) q p w → q * 256 ^ level < length es →
      (y : List ℕ) (L : Type 0) → (p * 256 ^ (level + 1) < length es → Rest (p * 256 ^ (level + 1)) rows y ↔ L) →
      Rest (q * 256 ^ level) (if x then rows else level_row digest es level (256 * p) w ∷ rows) y
      ↔ (HasTileNode digest es (256 ^ level) (256 ^ (level + 1)) p y ⊎ L)
  strings_step level w p q rows true e small h more y L ih =
      let z : w ≡ 0 = eqb-true _ _ e in
      let zb : w * 256 ^ level ≡ 0 = ap (λ m. m * 256 ^ level) z ∙ omega arith in
      let same : p * 256 ^ (level + 1) ≡ q * 256 ^ level = omega (arith, h.start, h.done, zb) in
      let f : Rest (q * 256 ^ level) rows y ↔ L = subst (λ n. Rest n rows y ↔ L) same (ih (omega (arith, same))) in
      (λ c. inr (f.0 c), λ s. elim s [ inl a ↦ absurd (none_here level p q w h z y a) | inr a ↦ f.1 a ])
  strings_step level w p q rows false e small h more y L ih =
      let b = 256 ^ level in
      let v1 : (w + 1) * b ≡ w * b + b = omega arith in
      let row =
      whole_row level p q w (w + 1) h (omega (arith, v1, h.done)) (omega (arith, v1, h.done, h.above))
      (omega arith) small in
      let g = row_law digest es level p (w + 1) row y in
      let here : Contains (joins digest (level_row digest es level (256 * p) w ++ mth digest (drop (q * b) es) ∷ [])) y
      ↔ HasTileNode digest es b (256 ^ (level + 1)) p y =
      subst (λ r. Contains (joins digest r) y ↔ HasTileNode digest es b (256 ^ (level + 1)) p y)
      (sym (row_more level p q w h)) g in
      let rest : Contains
      (strings_from digest
      (fold_of digest (level_row digest es level (256 * p) w ++ mth digest (drop (q * b) es) ∷ [])) rows) y ↔ L =
      subst (λ value. Contains (strings_from digest value rows) y ↔ L)
      (sym (fold_row_rest digest es level (256 ^ (level + 1)) q p w h more))
      (ih (omega (arith, h.start, h.done))) in
      both _ _ y _ L here rest

  first_step : (level w p q : ℕ) (rows : List (List (List ℕ))) (x : Bool) → nat_eq w 0 ≡ x → w < 256 →
      IsLevel (length es) (256 ^ level) (256 ^ (level + 1)) q p w → length es ≡ q * 256 ^ level →
      (y : List ℕ) (L : Type 0) → (length es ≡ p * 256 ^ (level + 1) → Contains (edge_strings digest rows) y ↔ L) →
      (p * 256 ^ (level + 1) < length es → Rest (p * 256 ^ (level + 1)) rows y ↔ L) →
      Contains (edge_strings digest (if x then rows else level_row digest es level (256 * p) w ∷ rows)) y
      ↔ (HasTileNode digest es (256 ^ level) (256 ^ (level + 1)) p y ⊎ L)
  first_step level w p q rows true e small h end y L ih next =
      let z : w ≡ 0 = eqb-true _ _ e in
      let zb : w * 256 ^ level ≡ 0 = ap (λ m. m * 256 ^ level) z ∙ omega arith in
      let f = ih (omega (arith, h.start, h.done, zb)) in
      (λ c. inr (f.0 c), λ s. elim s [ inl a ↦ absurd (none_here level p q w h z y a) | inr a ↦ f.1 a ])
  first_step level w p q rows false e small h end y L ih next =
      let b = 256 ^ level in
      let some : w ≡ 0 → ⊥ = eqb-false _ _ e in
      let one : 1 * b ≤ w * b = mul-le _ _ _ _ (omega arith) (omega arith) in
      let row = whole_row level p q w w h (omega (arith, h.done, h.some)) (omega (arith, h.done)) (omega arith) small in
      let here = row_law digest es level p w row y in
      let rest : Contains (strings_from digest (fold_of digest (level_row digest es level (256 * p) w)) rows) y ↔ L =
      subst (λ value. Contains (strings_from digest value rows) y ↔ L)
      (sym (fold_row digest es level (256 ^ (level + 1)) q p w h end (omega arith)))
      (next (omega (arith, h.start, h.done, h.some, one))) in
      both _ _ y _ L here rest

  no_levels : (level : ℕ) (y : List ℕ) → Contains {X = List ℕ} [] y ↔ HasEdgeNode level 0 y
  no_levels level y =
      (λ c. absurd (All-contains (λ z. ⊥) [] y (All-nil (λ z. ⊥)) c), λ h. absurd (omega (arith, h.low, h.high)))

  through : {X Y Z : Type 0} → X ↔ Y → Y ↔ Z → X ↔ Z
  through f g = (λ x. g.0 (f.0 x), λ z. f.1 (g.1 z))

  rest_strings : (levels level : ℕ) → length es / 256 ^ level * 256 ^ level < length es → (y : List ℕ) →
      Rest (length es / 256 ^ level * 256 ^ level) (edge_rows_from digest levels level es) y
      ↔ HasEdgeNode level levels y
  rest_strings zero level more y = no_levels level y
  rest_strings (suc levels) level more y =
      through (strings_step level (length es / 256 ^ level % 256) (length es / 256 ^ (level + 1))
      (length es / 256 ^ level) (edge_rows_from digest levels (level + 1) es) _ refl (omega arith)
      (level_is (length es) level) more y (HasEdgeNode (level + 1) levels y)
      (λ m. rest_strings levels (level + 1) m y)) (first_or_later level levels y)

  all_strings : (levels level : ℕ) → length es ≡ length es / 256 ^ level * 256 ^ level → (y : List ℕ) →
      Contains (edge_strings digest (edge_rows_from digest levels level es)) y ↔ HasEdgeNode level levels y
  all_strings zero level end y = no_levels level y
  all_strings (suc levels) level end y =
      through (first_step level (length es / 256 ^ level % 256) (length es / 256 ^ (level + 1))
      (length es / 256 ^ level) (edge_rows_from digest levels (level + 1) es) _ refl (omega arith)
      (level_is (length es) level) end y (HasEdgeNode (level + 1) levels y)
      (λ m. all_strings levels (level + 1) m y) (λ m. rest_strings levels (level + 1) m y))
      (first_or_later level levels y)

  -- the strings of the right edge are exactly those of the nodes at the ends of the levels
  pub edge_strings_are : (y : List ℕ) → Contains (edge_strings digest (edge_rows digest es)) y ↔ HasEdgeNode 0 8 y
  edge_strings_are y =
      subst (λ rows. Contains (edge_strings digest rows) y ↔ HasEdgeNode 0 8 y) (sym (edge_rows-levels digest es))
      (all_strings 8 0 (one (length es)) y)
    where
      one : (n : ℕ) → n ≡ n / 256 ^ 0 * 256 ^ 0
      one n = omega arith

  pub edge_strings_within : (y : List ℕ) → Contains (edge_strings digest (edge_rows digest es)) y →
      Contains (strings digest es) y
  edge_strings_within y c =
      let n = ((edge_strings_are y).0 c).has in
      subst (Contains (strings digest es)) n.string_is (string_of_node digest es 0 n.node n.is)

  -- a node of more than 256^level and at most 256^(level + 1) entries is in the range of a full tile, or its string
  -- is one of the right edge
  pub record IsInFullTile (level : ℕ) (x : Node) : Type 0 where
    pub index : ℕ
    pub full : (index + 1) * 256 ^ (level + 1) ≤ length es
    pub inside : IsInside (index * 256 ^ (level + 1)) (256 ^ (level + 1)) x

  pub full_or_edge : (level : ℕ) (x : Node) → level < 8 → 256 ^ level < x.len → x.len ≤ 256 ^ (level + 1) →
      IsNode digest (tree_of es) 0 x →
      IsInFullTile level x ⊎ Contains (edge_strings digest (edge_rows digest es)) x.string
  full_or_edge level x low long short n =
      let whole = node_inside digest es 0 x n in
      let c = 256 ^ (level + 1) in
      let some : 0 < c = level_positive (level + 1) in
      at c some short (level_power (level + 1))
      (to_block digest es (8 * (level + 1)) (omega (arith, whole.upto, whole.some)) x n)
    where
      same_index : (i n c : ℕ) → i * c < n → n < (i + 1) * c → n / c ≡ i
      same_index i n c low high =
          let e : (i + 1) * c ≡ i * c + c =
          omega arith in ap (λ m. m / c) (omega (arith, e)) ∙ div-mul-add i c (n - i * c) (omega (arith, e))

      at : (c : ℕ) → 0 < c → x.len ≤ 256 ^ (level + 1) → 256 ^ (level + 1) ≡ 2 ^ (8 * (level + 1)) →
          (2 ^ (8 * (level + 1)) < x.len) ⊎ IsAtBlock digest es (2 ^ (8 * (level + 1))) x →
          IsInFullTile level x ⊎ Contains (edge_strings digest (edge_rows digest es)) x.string
      at c some short e (inl too_long) = absurd (omega (arith, e))
      at c some short e (inr blk) =
          let d = 2 ^ (8 * (level + 1)) in
          let i = blk.index in
          let here = node_inside digest (part (i * d) d es) (i * d) x blk.is in
          let inside : IsInside (i * 256 ^ (level + 1)) (256 ^ (level + 1)) x =
          subst (λ m. IsInside (i * m) m x) (sym e)
          (record {
            start_in =
                here.start_in;
            upto = omega (arith, here.upto, length-take d (drop (i * d) es));
            some = here.some;
          }) in
          let below : i * 256 ^ (level + 1) < length es = subst (λ m. i * m < length es) (sym e) blk.below in
          elim (cases_lt (length es) ((i + 1) * 256 ^ (level + 1))) [
            | inr le ↦ inl (record { index = i; full = le; inside = inside })
            | inl lt ↦
                let same = same_index i (length es) (256 ^ (level + 1)) below lt in
                inr ((edge_strings_are x.string).1
                (record {
                  at =
                      level;
                  low =
                      omega arith;
                  high =
                      omega arith;
                  has =
                      subst (λ m. HasTileNode digest es (256 ^ level) (256 ^ (level + 1)) m x.string) (sym same)
                      (record { node = x; is = n; inside = inside; long = long; string_is = refl });
                }))
          ]
