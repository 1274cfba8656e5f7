-- The laws of specs/FetchLaws.antt.
use Rattle.std.proofs.Common.{min, zero, suc, ◌≡◌, ◌⊎◌, ℕ, ◌+◌, ◌-◌, ◌*◌, ◌/◌, ◌^◌, ◌≤◌, List, [], ◌∷◌, ◌++◌}
use Rattle.std.proofs.Common.{length, map, take, drop, length-take, length-drop, refl, sym, ◌∙◌, ap, subst, inl, inr}
use Rattle.std.proofs.Common.{arith}
use Rattle.std.specs.Prelude.{Contains}
use Rattle.std.specs.FinSet as set
use Rattle.std.proofs.lemmas.List.{take_min}
use Rattle.tlog_hash.specs.Tree.{tree_of, mth, strings, joins}
use Rattle.tlog_hash.specs.Rows.{part, ranges, level_row}
use Rattle.tlog_hash.proofs.Trees.{length-mth}
use Rattle.tlog_tiles.specs.declared.paths.Path.TheVariants.{Checkpoint, Tile, Entries}
use Rattle.tlog_tiles.specs.Row.{row_text}
use Rattle.node_store.specs.Strings.{Has}
use Rattle.mirror_model.specs.Edge.{edge_rows, edge_strings}
use Rattle.mirror_model.specs.Rounds.{true_strings}
use Rattle.mirror_model.specs.Item.{notes_of, strings_of}
use Rattle.mirror_model.specs.Strings.{IsDigest}
use Rattle.mirror_model.proofs.StringSets.{has_left, has_right, has_cases, listed_from_has, has_from_listed}
use Rattle.mirror_model.proofs.StringSets.{holds_from_held}
use Rattle.mirror_model.proofs.NodeBlocks.{node_inside}
use Rattle.mirror_model.proofs.RowLaws.{to_block, bundle, full_tile}
use Rattle.mirror_model.proofs.EdgeStrings.{full_or_edge}
use Rattle.mirror_model.proofs.Fronts.{front_node, front_unheld, index_of}
use Rattle.mirror_model.proofs.TreeLaws.{missing_is_front}
use Rattle.tlog_shape.proofs.Levels.{level_positive}
use Rattle.mirror_model.specs.Walk.{NoClashWith}
use Rattle.mirror_model.proofs.TrueItems.{front_tile}
use Rattle.mirror_model.specs.FetchLaws.{FullTileBeginsWithPartial, AnsweredIsNotAgain, MissingIsFrontList}
use Rattle.mirror_model.specs.FetchLaws.{PlusHoldsJustBoth}

-- ---- the first hashes of a tile

take_past : (xs ys : List ℕ) (k m : ℕ) → k ≡ length xs + m → take k (xs ++ ys) ≡ xs ++ take m ys
take_past [] ys k m e = let same : k ≡ m = omega arith in ap (λ n. take n ys) same
take_past (x ∷ xs) ys k m e =
    let same : k ≡ suc (length xs + m) = omega arith in
    ap (λ n. take n (x ∷ (xs ++ ys))) same ∙ ap (λ (l : List ℕ). x ∷ l) (take_past xs ys (length xs + m) m refl)

begins : (digest : List ℕ → List ℕ) → IsDigest digest → (b first w n : ℕ) (es : List (List ℕ)) → w ≤ n →
    take (32 * w) (row_text (map (mth digest) (ranges b first n es)))
    ≡ row_text (map (mth digest) (ranges b first w es))
begins digest hash b first zero n es le = refl
begins digest hash b first (suc w) zero es le = absurd (omega arith)
begins digest hash b first (suc w) (suc n) es le =
    let h = mth digest (part (first * b) b es) in
    let len : length h ≡ 32 = length-mth digest hash (part (first * b) b es) in
    let more : 32 * suc w ≡ length h + 32 * w = omega (arith, len) in
    take_past h (row_text (map (mth digest) (ranges b (first + 1) n es))) (32 * suc w) (32 * w) more
    ∙ ap (λ (l : List ℕ). h ++ l) (begins digest hash b (first + 1) w n es (omega arith))

pub full_tiles_begin : FullTileBeginsWithPartial
full_tiles_begin digest hash entries level index width le =
    begins digest hash (256 ^ level) (256 * index) width 256 entries le

-- ---- a path whose bytes were taken

pub answered_is_not_again : AnsweredIsNotAgain
answered_is_not_again digest held es small edge Checkpoint all f = f.path_is
answered_is_not_again digest held es small edge (Tile level index width) all f =
    let x = f.node in
    let t = f.path_is in
    let n = front_node digest held (tree_of es) 0 x f.is in
    let unheld = front_unheld digest held (tree_of es) 0 x f.is in
    let on_edge_held = holds_from_held held (edge_strings digest (edge_rows digest es)) edge in
    let ft = front_tile digest held es small on_edge_held level index width f in
    elim (full_or_edge digest es level x (omega (arith, ft.1)) t.tile.above t.tile.upto n) [
      | inr on_edge ↦ unheld (on_edge_held x.string on_edge)
      | inl u ↦
          let c = 256 ^ (level + 1) in
          let at : x.start / c ≡ u.index =
          index_of u.index c x.start x.len
          (level_positive (level + 1)) u.inside.start_in u.inside.upto u.inside.some in
          let same : index ≡ u.index = t.tile.index_is ∙ at in
          let has : Contains (joins digest (level_row digest es level (256 * u.index) 256)) x.string =
          (full_tile digest es level u.index u.full x.string).1
          (record { node = x; is = n; inside = u.inside; long = t.tile.above; string_is = refl }) in
          let here : Contains (joins digest (level_row digest es level (256 * index) width)) x.string =
          subst (λ w. Contains (joins digest (level_row digest es level (256 * index) w)) x.string) (sym ft.0)
          (subst (λ i. Contains (joins digest (level_row digest es level (256 * i) 256)) x.string)
          (sym same) has) in
          unheld (holds_from_held held (true_strings digest es (Tile level index width)) all x.string here)
    ]
answered_is_not_again digest held es small edge (Entries index width) all f =
    let x = f.node in
    let b = f.path_is in
    let n = front_node digest held (tree_of es) 0 x f.is in
    let unheld = front_unheld digest held (tree_of es) 0 x f.is in
    let inside = node_inside digest es 0 x n in
    elim (to_block digest es 8 (omega (arith, inside.upto, inside.some)) x n) [
      | inl long ↦ absurd (omega (arith, long, b.few))
      | inr blk ↦
          let i = blk.index in
          let here = node_inside digest (part (i * 256) 256 es) (i * 256) x blk.is in
          let part_short = length-take 256 (drop (i * 256) es) in
          let at : x.start / 256 ≡ i =
          index_of i 256 x.start x.len (omega arith) here.start_in
          (omega (arith, here.upto, part_short)) here.some in
          let same : index ≡ i = b.index_is ∙ at in
          let place : 256 * index ≡ i * 256 = omega (arith, same) in
          let has : Contains (strings digest (part (i * 256) 256 es)) x.string =
          (bundle digest es i blk.below x.string).1
          (record {
            node =
                x;
            is = n;
            inside =
                record { start_in = here.start_in; upto = omega (arith, here.upto, part_short); some = here.some };
            string_is = refl;
          }) in
          let wide : width ≡ min 256 (length (drop (i * 256) es)) =
          b.width_is ∙
          (let len : length (drop (i * 256) es) ≡ length es - 256 * index =
          length-drop (i * 256) es ∙ omega (arith, place) in ap (λ m. min 256 m) (sym len)) in
          let same_part : part (256 * index) width es ≡ part (i * 256) 256 es =
          ap (λ m. take width (drop m es)) place ∙
          (ap (λ m. take m (drop (i * 256) es)) wide ∙ take_min 256 (drop (i * 256) es)) in
          unheld (holds_from_held held (true_strings digest es (Entries index width)) all x.string
          (subst (λ zs. Contains (strings digest zs) x.string) (sym same_part) has))
    ]

-- ---- missing paths

pub missing_is_front_list : MissingIsFrontList
missing_is_front_list digest hash v entries clash paths m = record {
  sorted = m.sorted;
  exact = λ path. (
    λ c. (missing_is_front digest hash v.strings entries apart path).0 ((m.exact path).0 c),
    λ f. (m.exact path).1 ((missing_is_front digest hash v.strings entries apart path).1 f),
  );
}
  where
    among : (x : List ℕ) → Has v.strings x ⊎ Contains (strings digest entries) x →
        Has (set.union v.strings (set.from_list (strings digest entries))) x
    among x (inl h) = has_left v.strings (set.from_list (strings digest entries)) x h
    among x (inr c) =
        has_right v.strings (set.from_list (strings digest entries)) x (has_from_listed (strings digest entries) x c)

    apart : NoClashWith digest v.strings entries
    apart x y a b e = clash.same x y (among x a) (among y b) e

-- ---- views

pub plus_holds : PlusHoldsJustBoth
plus_holds digest v item y = record {
  string = λ h. elim
      (has_cases v.strings (set.from_list (strings_of digest item)) y h) [
        | inl a ↦ inl a
        | inr b ↦ inr
            (listed_from_has (strings_of digest item) y b)
      ];
  string_held =
      elim [
        | inl a ↦ has_left v.strings (set.from_list (strings_of digest item)) y a
        | inr b ↦ has_right v.strings
            (set.from_list (strings_of digest item)) y (has_from_listed (strings_of digest item) y b)
      ];
  note = λ h. elim
      (has_cases v.notes (set.from_list (notes_of item)) y h) [
        | inl a ↦ inl a
        | inr b ↦ inr
            (listed_from_has (notes_of item) y b)
      ];
  note_held =
      elim [
        | inl a ↦ has_left v.notes (set.from_list (notes_of item)) y a
        | inr b ↦ has_right v.notes
            (set.from_list (notes_of item)) y (has_from_listed (notes_of item) y b)
      ];
}
