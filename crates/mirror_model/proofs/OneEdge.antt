-- A size and a root have at most one right edge, if its strings are held and nothing collides.
use Rattle.std.proofs.Common.{inl, inr, subst, get_or, ◌≡◌, ℕ, ◌+◌, ◌-◌, ◌*◌, ◌^◌, ◌<◌, ◌≤◌, List, [], ◌∷◌, ◌++◌}
use Rattle.std.proofs.Common.{length, take, drop, map, sym, refl, ap, ◌∙◌, arith, length-append, length-take}
use Rattle.std.proofs.Common.{length-drop, take-append-drop}
use Rattle.std.specs.List.{Contains}
use Rattle.std.proofs.lemmas.List.{nil_from_length}
use Rattle.std.proofs.lemmas.List.Elements.{Contains-append_left, Contains-append_right, recursion_from_All}
use Rattle.std.proofs.Math.Seq.{take-append_seam, drop-append_seam}
use Rattle.tlog_shape.specs.Split.{split_of}
use Rattle.tlog_shape.proofs.Splits.{split_of-below}
use Rattle.tlog_hash.specs.Tree.{Join, tree_of, root, fold_of, joins, strings}
use Rattle.tlog_hash.specs.Nodes.{IsJoin}
use Rattle.tlog_hash.proofs.Trees.{tree_of-append, induction, fold_of-one, fold_of-append}
use Rattle.tlog_hash.proofs.Trees.{all-append, all-left, all-right}
use Rattle.tlog_hash.proofs.NodeStrings.{to_joins}
use Rattle.tlog_hash.proofs.PairStrings.{left_is, right_is}
use Rattle.tlog_tiles.specs.Row.{row_text}
use Rattle.node_store.specs.Strings.{Strings, Has, HasAll, NoClash}
use Rattle.mirror_model.specs.Edge.{edge_widths, edge_rows, edge_root, root_from, edge_strings, strings_from}
use Rattle.mirror_model.specs.Item.{row_of, HasEdgeRows}
use Rattle.mirror_model.specs.TrueLaws.{edge_bytes}
use Rattle.mirror_model.specs.Strings.{IsDigest}
use Rattle.mirror_model.specs.EdgeLaws.{EdgeIsOne, LawfulEdgeIsTrue}
use Rattle.mirror_model.proofs.StringSets.{holds_from_held, held_from_holds}
use Rattle.mirror_model.proofs.ItemBytes.{row_is_row}
use Rattle.mirror_model.proofs.EdgeStrings.{edge_strings_within}
use Rattle.mirror_model.proofs.ItemStrings.{fold_length}
use Rattle.mirror_model.proofs.EdgeWalks.{AreHashes, same_join}
use Rattle.mirror_model.proofs.TrueItems.{edges_are_true}

-- the rows have the same lengths, one by one
abbrev Alike : List (List (List ℕ)) → List (List (List ℕ)) → Type 0
Alike [] [] = Unit {0}
Alike [] (other ∷ others) = ⊥
Alike (row ∷ rows) [] = ⊥
Alike (row ∷ rows) (other ∷ others) = (length row ≡ length other) × AreHashes row × AreHashes other × Alike rows others

alike : (widths : List ℕ) (rows others : List (List ℕ)) → map length rows ≡ map (λ width. 32 * width) widths →
    map length others ≡ map (λ width. 32 * width) widths → Alike (map row_of rows) (map row_of others)
alike [] [] [] e f = tt
alike [] (row ∷ rows) others e f = absurd (let wrong = ap length e in omega (arith, wrong))
alike [] [] (other ∷ others) e f = absurd (let wrong = ap length f in omega (arith, wrong))
alike (width ∷ widths) [] others e f = absurd (let wrong = ap length e in omega (arith, wrong))
alike (width ∷ widths) (row ∷ rows) [] e f = absurd (let wrong = ap length f in omega (arith, wrong))
alike (width ∷ widths) (row ∷ rows) (other ∷ others) e f =
    let r = row_is_row width row (ap (λ ls. get_or ls 0 0) e) in
    let s = row_is_row width other (ap (λ ls. get_or ls 0 0) f) in (
      r.count ∙ sym s.count,
      recursion_from_All (λ hash. length hash ≡ 32) (row_of row) r.sizes,
      recursion_from_All (λ hash. length hash ≡ 32) (row_of other) s.sizes,
      alike widths rows others (ap (drop 1) e) (ap (drop 1) f),
    )

-- the bytes of rows are the bytes of their hashes
written : (widths : List ℕ) (rows : List (List ℕ)) → map length rows ≡ map (λ width. 32 * width) widths →
    rows ≡ map row_text (map row_of rows)
written widths [] e = refl
written [] (row ∷ rows) e = absurd (let wrong = ap length e in omega (arith, wrong))
written (width ∷ widths) (row ∷ rows) e =
    let r = row_is_row width row (ap (λ ls. get_or ls 0 0) e) in
    λ i. r.text i ∷ written widths rows (ap (drop 1) e) i

module _ (digest : List ℕ → List ℕ) (hash : IsDigest digest) (held : Strings) (clean : NoClash digest held) where
  abbrev JoinsHeld : List (List ℕ) → Type 0
  JoinsHeld row = (y : List ℕ) → IsJoin digest (tree_of row) y → Has held y

  -- ---- rows with the same fold are equal

  abbrev IsOnlyRow : List (List ℕ) → Type 0
  IsOnlyRow xs =
      (ys : List (List ℕ)) → length ys ≡ length xs → AreHashes xs → AreHashes ys → JoinsHeld xs → JoinsHeld ys →
      fold_of digest xs ≡ fold_of digest ys → xs ≡ ys

  only_append : (xs ys us vs : List (List ℕ)) → 2 ≤ length xs + length ys →
      length xs ≡ split_of (length xs + length ys) → length us ≡ length xs → length vs ≡ length ys → IsOnlyRow xs →
      IsOnlyRow ys → AreHashes (xs ++ ys) → AreHashes (us ++ vs) → JoinsHeld (xs ++ ys) → JoinsHeld (us ++ vs) →
      fold_of digest (xs ++ ys) ≡ fold_of digest (us ++ vs) → xs ++ ys ≡ us ++ vs
  only_append xs ys us vs two place lu lv left right a b p q e =
      let two' : 2 ≤ length us + length vs = omega (arith, lu, lv) in
      let sum : length xs + length ys ≡ length us + length vs = omega (arith, lu, lv) in
      let place' : length us ≡ split_of (length us + length vs) = lu ∙ place ∙ ap split_of sum in
      let tree = tree_of-append xs ys two place in
      let tree' = tree_of-append us vs two' place' in
      let ax = all-left (λ (h : List ℕ). length h ≡ 32) xs ys a in
      let ay = all-right (λ (h : List ℕ). length h ≡ 32) xs ys a in
      let au = all-left (λ (h : List ℕ). length h ≡ 32) us vs b in
      let av = all-right (λ (h : List ℕ). length h ≡ 32) us vs b in
      let p' : (y : List ℕ) → IsJoin digest (Join (tree_of xs) (tree_of ys)) y → Has held y =
      (λ y j. p y (subst (λ t. IsJoin digest t y) (sym tree) j)) in
      let q' : (y : List ℕ) → IsJoin digest (Join (tree_of us) (tree_of vs)) y → Has held y =
      (λ y j. q y (subst (λ t. IsJoin digest t y) (sym tree') j)) in
      let same : 1 ∷ fold_of digest xs ++ fold_of digest ys ≡ 1 ∷ fold_of digest us ++ fold_of digest vs =
      clean.same _ _ (p' _ (same_join digest hash held clean xs ys)) (q' _ (same_join digest hash held clean us vs))
      (sym (fold_of-append digest xs ys two place) ∙ e ∙ fold_of-append digest us vs two' place') in
      let lens : length (fold_of digest xs) ≡ length (fold_of digest us) =
      fold_length digest hash xs ax ∙ sym (fold_length digest hash us au) in
      let l = left us lu ax au (λ y j. p' y (inr (inl j))) (λ y j. q' y (inr (inl j)))
      (left_is (fold_of digest xs) (fold_of digest ys) (fold_of digest us) (fold_of digest vs) lens same) in
      let r = right vs lv ay av (λ y j. p' y (inr (inr j))) (λ y j. q' y (inr (inr j)))
      (right_is (fold_of digest xs) (fold_of digest ys) (fold_of digest us) (fold_of digest vs) lens same) in
      λ i. l i ++ r i

  only_one : (x : List ℕ) → IsOnlyRow (x ∷ [])
  only_one x [] len a b p q e = absurd (omega arith)
  only_one x (y ∷ z ∷ ys) len a b p q e = absurd (omega arith)
  only_one x (y ∷ []) len a b p q e = ap (λ h. h ∷ []) (sym (fold_of-one digest x) ∙ e ∙ fold_of-one digest y)

  only_join : (xs : List (List ℕ)) → 2 ≤ length xs → IsOnlyRow (take (split_of (length xs)) xs) →
      IsOnlyRow (drop (split_of (length xs)) xs) → IsOnlyRow xs
  only_join xs two left right ys len a b p q e =
      let k = split_of (length xs) in
      let below : k < length xs = split_of-below (length xs) two in
      let la : length (take k xs) ≡ k = length-take k xs ∙ omega arith in
      let lb : length (drop k xs) ≡ length xs - k = length-drop k xs in
      let la' : length (take k ys) ≡ k = length-take k ys ∙ omega arith in
      let lb' : length (drop k ys) ≡ length ys - k = length-drop k ys in
      let whole : xs ≡ take k xs ++ drop k xs = sym (take-append-drop k xs) in
      let whole' : ys ≡ take k ys ++ drop k ys = sym (take-append-drop k ys) in
      let total : length (take k xs) + length (drop k xs) ≡ length xs = omega arith in
      whole ∙ only_append (take k xs) (drop k xs) (take k ys) (drop k ys) (omega arith) (la ∙ ap split_of (sym total))
      (la' ∙ sym la) (omega arith) left right (subst AreHashes whole a) (subst AreHashes whole' b)
      (subst JoinsHeld whole p) (subst JoinsHeld whole' q)
      (ap (fold_of digest) (sym whole) ∙ e ∙ ap (fold_of digest) whole')
      ∙ sym whole'

  only_row : (xs : List (List ℕ)) → IsOnlyRow xs
  only_row xs = induction IsOnlyRow (λ ys len a b p q e. sym (nil_from_length ys len)) only_one only_join xs

  -- ---- level by level, from the root down

  abbrev AllHeld : List (List ℕ) → Type 0
  AllHeld wanted = (y : List ℕ) → Contains wanted y → Has held y

  same_from : (rows others : List (List (List ℕ))) (value other : List ℕ) → Alike rows others → length value ≡ 32 →
      length other ≡ 32 → AllHeld (strings_from digest value rows) → AllHeld (strings_from digest other others) →
      root_from digest value rows ≡ root_from digest other others → (value ≡ other) × (rows ≡ others)
  same_from [] [] value other alike lv lo p q e = (e, refl)
  same_from [] (o ∷ os) value other alike lv lo p q e = absurd alike
  same_from (r ∷ rs) [] value other alike lv lo p q e = absurd alike
  same_from (r ∷ rs) (o ∷ os) value other alike lv lo p q e =
      let row = r ++ value ∷ [] in
      let row' = o ++ other ∷ [] in
      let a : AreHashes row = all-append (λ (h : List ℕ). length h ≡ 32) r (value ∷ []) alike.1 (lv, tt) in
      let b : AreHashes row' = all-append (λ (h : List ℕ). length h ≡ 32) o (other ∷ []) alike.2 (lo, tt) in
      let above =
      same_from rs os (fold_of digest row) (fold_of digest row') alike.3 (fold_length digest hash row a)
      (fold_length digest hash row' b)
      (λ y c. p y (Contains-append_right (joins digest row) (strings_from digest (fold_of digest row) rs) y c))
      (λ y c. q y
      (Contains-append_right (joins digest row') (strings_from digest (fold_of digest row') os) y c)) e in
      let len : length row' ≡ length row =
      omega (arith, length-append r (value ∷ []), length-append o (other ∷ []), alike.0) in
      let same : row ≡ row' =
      only_row row row' len a b
      (λ y j. p y
      (Contains-append_left (joins digest row) (strings_from digest (fold_of digest row) rs) y
      (to_joins digest row y j)))
      (λ y j. q y
      (Contains-append_left (joins digest row') (strings_from digest (fold_of digest row') os) y
      (to_joins digest row' y j))) above.0 in
      let first : r ≡ o =
      sym (take-append_seam r (value ∷ [])) ∙ (λ i. take (alike.0 i) (same i)) ∙ take-append_seam o (other ∷ []) in
      let last : value ∷ [] ≡ other ∷ [] =
      sym (drop-append_seam r (value ∷ [])) ∙ (λ i. drop (alike.0 i) (same i)) ∙ drop-append_seam o (other ∷ []) in
      (ap (λ l. get_or l 0 []) last, λ i. first i ∷ above.1 i)

  same_rows : (rows others : List (List (List ℕ))) → Alike rows others → AllHeld (edge_strings digest rows) →
      AllHeld (edge_strings digest others) → edge_root digest rows ≡ edge_root digest others → rows ≡ others
  same_rows [] [] alike p q e = refl
  same_rows [] (o ∷ os) alike p q e = absurd alike
  same_rows (r ∷ rs) [] alike p q e = absurd alike
  same_rows (r ∷ rs) (o ∷ os) alike p q e =
      let above =
      same_from rs os (fold_of digest r) (fold_of digest o) alike.3 (fold_length digest hash r alike.1)
      (fold_length digest hash o alike.2)
      (λ y c. p y (Contains-append_right (joins digest r) (strings_from digest (fold_of digest r) rs) y c))
      (λ y c. q y (Contains-append_right (joins digest o) (strings_from digest (fold_of digest o) os) y c)) e in
      let same : r ≡ o =
      only_row r o (sym alike.0) alike.1 alike.2
      (λ y j. p y
      (Contains-append_left (joins digest r) (strings_from digest (fold_of digest r) rs) y (to_joins digest r y j)))
      (λ y j. q y
      (Contains-append_left (joins digest o) (strings_from digest (fold_of digest o) os) y
      (to_joins digest o y j))) above.0 in
      λ i. same i ∷ above.1 i

pub edge_is_one : EdgeIsOne
edge_is_one digest hash held clean size root rows others p q all others_all =
    let like = alike (edge_widths size) rows others p.widths q.widths in
    let same =
    same_rows digest hash held clean (map row_of rows) (map row_of others) like
    (holds_from_held held (edge_strings digest (map row_of rows)) all)
    (holds_from_held held (edge_strings digest (map row_of others)) others_all) (p.root_is ∙ sym q.root_is) in
    written (edge_widths size) rows p.widths ∙ ap (map row_text) same ∙ sym (written (edge_widths size) others q.widths)

pub lawful_edge_is_true : LawfulEdgeIsTrue
lawful_edge_is_true digest hash v lawful size root entries complete rows edge all =
    let tree = complete.tree in
    let small : size < 256 ^ 8 = omega (arith, complete.head.holds.is_head.is_checkpoint.in_range) in
    let true_edge = edges_are_true digest hash entries (omega (arith, small, tree.size_is)) in
    let has : HasEdgeRows digest size root (edge_bytes digest entries) =
    subst (λ n. HasEdgeRows digest n root (edge_bytes digest entries)) tree.size_is
    (subst (λ r. HasEdgeRows digest (length entries) r
    (edge_bytes digest entries)) tree.root_is true_edge.has_edge) in
    let tree_held = holds_from_held v.strings (strings digest entries) tree.are_held in
    let held : HasAll v.strings (edge_strings digest (map row_of (edge_bytes digest entries))) =
    subst (HasAll v.strings) (sym true_edge.strings_are)
    (held_from_holds v.strings (edge_strings digest (edge_rows digest entries))
    (λ y c. tree_held y (edge_strings_within digest entries y c))) in
    edge_is_one digest hash v.strings lawful.no_clash size root rows (edge_bytes digest entries) edge has all held
