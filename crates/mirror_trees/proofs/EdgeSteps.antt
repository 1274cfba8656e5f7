-- Held rows and right edges, found from the hash over them.
use Rattle.std.proofs.Common.{◌≡◌, inl, inr, ℕ, zero, suc, ◌+◌, ◌-◌, ◌<◌, ◌≤◌, List, [], ◌∷◌, ◌++◌, length, take}
use Rattle.std.proofs.Common.{drop, get_or, map, refl, sym, ap, subst, ◌∙◌, append_assoc, arith, length-append}
use Rattle.std.proofs.Common.{length-take, length-drop, take-append-drop}
use Rattle.std.specs.List.{AllByRecursion}
use Rattle.std.proofs.lemmas.List.{nil_from_length, map-append, take_more, take_all}
use Rattle.tlog_shape.specs.Split.{split_of}
use Rattle.tlog_shape.proofs.Splits.{split_of-below, split_of-positive}
use Rattle.tlog_hash.specs.Tree.{fold_of, joins, joined, pairs_of}
use Rattle.tlog_hash.proofs.Trees.{fold_of-one, fold_of-append, fold_of-join, pairs_of-one, pairs_of-append, all-append}
use Rattle.tlog_hash.proofs.Trees.{all-left, all-right}
use Rattle.tlog_hash.proofs.PairStrings.{left_is, right_is}
use Rattle.node_store.specs.Strings.{Strings, Has, HasAll, IsHeldAt, NoClash}
use Rattle.mirror_model.proofs.StringSets.{all_from_held, held_from_all}
use Rattle.std.proofs.Common.{Option, Some, None, IfSome, IfNone, Bool, true, false, nat_eq, eqb, cond, not, All, ◌*◌}
use Rattle.std.proofs.lemmas.Bool.{eqb-true, eqb-false}
use Rattle.std.proofs.lemmas.List.Elements.{All-from_recursion}
use Rattle.tlog_tiles.specs.Row.{row_text}
use Rattle.tlog_tiles.proofs.RowLemmas.{length-row_text}
use Rattle.mirror_model.proofs.ItemBytes.{row_is_one}
use Rattle.std.specs.Prelude.{IsTrue, ◌↔◌, is_some}
use Rattle.std.specs.Cmp.Lexicographic.{pointwise}
use Rattle.std.proofs.lemmas.Slice.Eq.{slice_eq-Decides}
use Rattle.std.proofs.lemmas.Bool.Decides.{Decides-eqb}
use Rattle.tlog_shape.specs.Edge.{width_of}
use Rattle.mirror_model.specs.Edge.{root_from, strings_from, edge_root, edge_strings, edge_levels}
use Rattle.mirror_model.proofs.EdgeWalks.{Fit, HaveWidths, widths_from, rows_fit}
use Rattle.mirror_model.specs.Item.{row_of}
use Rattle.mirror_model.specs.Complete.{HoldsEdge}
use Rattle.mirror_trees.specs.HeldEdge.{AreEdgeRows, HasRow, LeadsUp, HoldsEdgeFrom}

module _ (digest : List ℕ → List ℕ) where
  joins-one : (h : List ℕ) → joins digest (h ∷ []) ≡ []
  unfolding joins
  joins-one h = ap (map joined) (pairs_of-one digest h)

  joins-append : (xs ys : List (List ℕ)) → 2 ≤ length xs + length ys → length xs ≡ split_of (length xs + length ys) →
      joins digest (xs ++ ys)
      ≡ (joins digest xs ++ joins digest ys) ++ (1 ∷ fold_of digest xs ++ fold_of digest ys) ∷ []
  unfolding joins
  joins-append xs ys two at =
      ap (map joined) (pairs_of-append digest xs ys two at)
      ∙ map-append joined (pairs_of digest xs ++ pairs_of digest ys) ((fold_of digest xs, fold_of digest ys) ∷ [])
      ∙ ap (λ zs. zs ++ (1 ∷ fold_of digest xs ++ fold_of digest ys) ∷ [])
      (map-append joined (pairs_of digest xs) (pairs_of digest ys))

module _ (digest : List ℕ → List ℕ) (held : Strings) where
  -- one hash
  pub row_one : (count : ℕ) (hash : List ℕ) → count ≡ 1 → length hash ≡ 32 → HasRow digest held count hash hash
  row_one count hash one len =
      record {
        front =
            [];
        count_is =
            sym one;
        hashes =
            (len, tt);
        fold_is = fold_of-one digest hash;
        are_held = subst (HasAll held) (sym (joins-one digest hash)) tt;
      }

  pub one_row : (count : ℕ) (hash last : List ℕ) → count ≡ 1 → HasRow digest held count hash last → last ≡ hash
  one_row count hash last one r =
      let none : length r.front ≡ 0 = omega (arith, r.count_is) in
      let front : r.front ≡ [] = nil_from_length r.front none in
      sym (fold_of-one digest last) ∙
      (ap (λ (f : List (List ℕ)). fold_of digest (f ++ last ∷ [])) (sym front) ∙ r.fold_is)

  -- two rows are one
  pub rows_join : (n k : ℕ) (hash l r x y : List ℕ) → 2 ≤ n → k ≡ split_of n → IsHeldAt digest held hash (1 ∷ l ++ r) →
      HasRow digest held k l x → HasRow digest held (n - k) r y → HasRow digest held n hash y
  rows_join n k hash l r x y two k_is at a b =
      let xs : List (List ℕ) = a.front ++ x ∷ [] in
      let ys : List (List ℕ) = b.front ++ y ∷ [] in
      let below : split_of n < n = split_of-below n two in
      let lx : length xs ≡ k = length-append a.front (x ∷ []) ∙ a.count_is in
      let ly : length ys ≡ n - k = length-append b.front (y ∷ []) ∙ b.count_is in
      let sum : length xs + length ys ≡ n = omega (arith, lx, ly, k_is, below) in
      let two_parts : 2 ≤ length xs + length ys = omega (arith, sum) in
      let place : length xs ≡ split_of (length xs + length ys) = lx ∙ (k_is ∙ ap split_of (sym sum)) in
      let whole : (xs ++ b.front) ++ y ∷ [] ≡ xs ++ ys = append_assoc xs b.front (y ∷ []) in
      let fold : fold_of digest (xs ++ ys) ≡ hash =
      fold_of-append digest xs ys two_parts place ∙
      (ap (λ v. digest (1 ∷ v ++ fold_of digest ys)) a.fold_is ∙
      (ap (λ v. digest (1 ∷ l ++ v)) b.fold_is ∙ at.digest_is)) in
      let here : Has held (1 ∷ fold_of digest xs ++ fold_of digest ys) =
      subst (λ v. Has held (1 ∷ v ++ fold_of digest ys)) (sym a.fold_is)
      (subst (λ v. Has held (1 ∷ l ++ v)) (sym b.fold_is) at.is_held) in
      let both =
      all-append (Has held) (joins digest xs) (joins digest ys) (all_from_held held _ a.are_held)
      (all_from_held held _ b.are_held) in
      let all =
      all-append (Has held) (joins digest xs ++ joins digest ys)
      ((1 ∷ fold_of digest xs ++ fold_of digest ys) ∷ []) both (here, tt) in
      let joined_held : HasAll held (joins digest (xs ++ ys)) =
      held_from_all held _
      (subst (AllByRecursion (Has held)) (sym (joins-append digest xs ys two_parts place)) all) in
      record {
        front = xs ++ b.front;
        count_is = omega (arith, length-append xs b.front, lx, b.count_is, k_is, below);
        hashes = subst (AllByRecursion (λ (h : List ℕ). length h ≡ 32)) (sym whole)
            (all-append (λ (h : List ℕ). length h ≡ 32) xs ys a.hashes b.hashes);
        fold_is = ap (fold_of digest) whole ∙ fold;
        are_held = subst (λ row. HasAll held (joins digest row)) (sym whole) joined_held;
      }

module _ (digest : List ℕ → List ℕ) (size : (s : List ℕ) → length (digest s) ≡ 32) (held : Strings)
    (clean : NoClash digest held) where
  fold_len : (row : List (List ℕ)) → 0 < length row → AllByRecursion (λ (h : List ℕ). length h ≡ 32) row →
      length (fold_of digest row) ≡ 32
  fold_len [] some all = absurd (omega arith)
  fold_len (h ∷ []) some all = ap length (fold_of-one digest h) ∙ all.0
  fold_len (h ∷ i ∷ row) some all = ap length (fold_of-join digest (h ∷ i ∷ row) (omega arith)) ∙ size _

  -- the parts of a row of two or more, found from the held pair
  pub record HasParts (n k : ℕ) (l r last : List ℕ) : Type 0 where
    pub left_last : List ℕ
    pub left : HasRow digest held k l left_last
    pub right : HasRow digest held (n - k) r last

  pub parts_of_row : (n k : ℕ) (hash l r last : List ℕ) → 2 ≤ n → k ≡ split_of n → length l ≡ 32 →
      IsHeldAt digest held hash (1 ∷ l ++ r) → HasRow digest held n hash last → HasParts n k l r last
  parts_of_row n k hash l r last two k_is len at row =
      let f = row.front in
      let below : split_of n < n = split_of-below n two in
      let positive : 0 < split_of n = split_of-positive n two in
      let k_le : k ≤ length f = omega (arith, row.count_is, k_is, below) in
      let start : k - 1 < length f = omega (arith, k_le, positive, k_is) in
      let back : k - 1 + 1 ≡ k = omega (arith, positive, k_is) in
      let x : List ℕ = get_or f (k - 1) [] in
      let front : take k f ≡ take (k - 1) f ++ x ∷ [] =
      ap (λ (i : ℕ). take i f) (sym back) ∙ take_more f (k - 1) [] start in
      let xs : List (List ℕ) = take (k - 1) f ++ x ∷ [] in
      let ys : List (List ℕ) = drop k f ++ last ∷ [] in
      let whole : f ++ last ∷ [] ≡ xs ++ ys =
      ap (λ z. z ++ last ∷ []) (sym (take-append-drop k f) ∙ ap (λ z. z ++ drop k f) front) ∙
      append_assoc xs (drop k f) (last ∷ []) in
      let lt : length (take (k - 1) f) ≡ k - 1 = omega (arith, length-take (k - 1) f, start) in
      let lx : length xs ≡ k = omega (arith, length-append (take (k - 1) f) (x ∷ []), lt, back) in
      let ld : length (drop k f) + 1 ≡ n - k = omega (arith, length-drop k f, row.count_is, k_le) in
      let ly : length ys ≡ n - k = omega (arith, length-append (drop k f) (last ∷ []), ld) in
      let sum : length xs + length ys ≡ n = omega (arith, lx, ly, k_is, below) in
      let two_parts : 2 ≤ length xs + length ys = omega (arith, sum) in
      let place : length xs ≡ split_of (length xs + length ys) = lx ∙ (k_is ∙ ap split_of (sym sum)) in
      let hashes = subst (AllByRecursion (λ (h : List ℕ). length h ≡ 32)) whole row.hashes in
      let hx = all-left (λ (h : List ℕ). length h ≡ 32) xs ys hashes in
      let hy = all-right (λ (h : List ℕ). length h ≡ 32) xs ys hashes in
      let fold : digest (1 ∷ fold_of digest xs ++ fold_of digest ys) ≡ hash =
      sym (fold_of-append digest xs ys two_parts place) ∙ (ap (fold_of digest) (sym whole) ∙ row.fold_is) in
      let all =
      subst (AllByRecursion (Has held)) (ap (joins digest) whole ∙ joins-append digest xs ys two_parts place)
      (all_from_held held _ row.are_held) in
      let both =
      all-left (Has held) (joins digest xs ++ joins digest ys)
      ((1 ∷ fold_of digest xs ++ fold_of digest ys) ∷ []) all in
      let here =
      (all-right (Has held) (joins digest xs ++ joins digest ys)
      ((1 ∷ fold_of digest xs ++ fold_of digest ys) ∷ []) all).0 in
      let same : 1 ∷ fold_of digest xs ++ fold_of digest ys ≡ 1 ∷ l ++ r =
      clean.same _ _ here at.is_held (fold ∙ sym at.digest_is) in
      let lens : length (fold_of digest xs) ≡ length l = fold_len xs (omega (arith, lx, positive, k_is)) hx ∙ sym len in
      record {
        left_last = x;
        left = record {
          front =
              take (k - 1) f;
          count_is =
              omega (arith, lt, back);
          hashes =
              hx;
          fold_is =
              left_is (fold_of digest xs) (fold_of digest ys) l r lens same;
          are_held =
              held_from_all held _ (all-left (Has held) (joins digest xs) (joins digest ys) both);
        };
        right = record {
          front =
              drop k f;
          count_is =
              ld;
          hashes =
              hy;
          fold_is =
              right_is (fold_of digest xs) (fold_of digest ys) l r lens same;
          are_held =
              held_from_all held _ (all-right (Has held) (joins digest xs) (joins digest ys) both);
        };
      }

  -- if no pair has that digest, there is no row of two or more
  pub no_row : (n : ℕ) (hash last : List ℕ) → 2 ≤ n → ((l r : List ℕ) → IsHeldAt digest held hash (1 ∷ l ++ r) → ⊥) →
      HasRow digest held n hash last → ⊥
  no_row n hash last two none row =
      let whole : List (List ℕ) = row.front ++ last ∷ [] in
      let len : length whole ≡ n = length-append row.front (last ∷ []) ∙ row.count_is in
      let many : 2 ≤ length whole = omega (arith, len) in
      let k = split_of (length whole) in
      let below : k < length whole = split_of-below (length whole) many in
      let xs = take k whole in
      let ys = drop k whole in
      let parts : xs ++ ys ≡ whole = take-append-drop k whole in
      let lx : length xs ≡ k = omega (arith, length-take k whole, below) in
      let sum : length xs + length ys ≡ length whole = sym (length-append xs ys) ∙ ap length parts in
      let two_parts : 2 ≤ length xs + length ys = omega (arith, sum, many) in
      let place : length xs ≡ split_of (length xs + length ys) = lx ∙ ap split_of (sym sum) in
      let all =
      subst (AllByRecursion (Has held)) (ap (joins digest) (sym parts) ∙ joins-append digest xs ys two_parts place)
      (all_from_held held _ row.are_held) in
      let here =
      (all-right (Has held) (joins digest xs ++ joins digest ys)
      ((1 ∷ fold_of digest xs ++ fold_of digest ys) ∷ []) all).0 in
      none (fold_of digest xs) (fold_of digest ys)
      (record {
        is_held =
            here;
        digest_is =
            sym (fold_of-append digest xs ys two_parts place) ∙ (ap (fold_of digest) parts ∙ row.fold_is);
      })

-- one property from another, for an answer with a value or without one
pub some_from : {X : Type 0} (P Q : X → Type 0) (o : Option X) → ((x : X) → P x → Q x) → IfSome o P → IfSome o Q
some_from P Q None f h = tt
some_from P Q (Some x) f h = f x h

pub none_from : {X : Type 0} (P Q : Type 0) (o : Option X) → (P → Q) → IfNone o P → IfNone o Q
none_from P Q None f h = f h
none_from P Q (Some x) f h = tt

-- ---- rows of levels

module _ (digest : List ℕ → List ℕ) (held : Strings) (n level : ℕ) (root : List ℕ) where
  -- above all levels
  pub top_value : level ≡ 8 → length root ≡ 32 → LeadsUp digest held n level root root
  top_value top len =
      record {
        rows =
            [];
        fit =
            subst (λ m. AreEdgeRows n m level []) (let e : 0 ≡ 8 - level = omega arith in e) refl;
        value_len =
            len;
        root_is = refl;
        are_held = tt;
      }

  pub value_top : (value : List ℕ) → level ≡ 8 → LeadsUp digest held n level root value → value ≡ root
  value_top value top up =
      let none : up.rows ≡ [] = subst (λ m. AreEdgeRows n m level up.rows) (let e : 8 - level ≡ 0 = omega arith in e) up.fit in
      subst (λ rows. root_from digest value rows ≡ root) none up.root_is

  module _ (below : level < 8) where
    levels_left : suc (8 - (level + 1)) ≡ 8 - level
    levels_left = omega arith

    -- a level without a row
    pub skip_level : (value : List ℕ) → width_of n level ≡ 0 → LeadsUp digest held n (level + 1) root value →
        LeadsUp digest held n level root value
    skip_level value none up =
        record {
          rows =
              up.rows;
          fit =
              subst (λ m. AreEdgeRows n m level up.rows) levels_left (inl (none, up.fit));
          value_len =
              up.value_len;
          root_is = up.root_is;
          are_held = up.are_held;
        }

    -- a level with a row
    pub add_level : (width : ℕ) (above value : List ℕ) → width ≡ width_of n level → 0 < width →
        LeadsUp digest held n (level + 1) root above → HasRow digest held (width + 1) above value →
        LeadsUp digest held n level root value
    add_level width above value width_is some up row =
        let P = λ (h : List ℕ). length h ≡ 32 in
        let len : length row.front ≡ width_of n level = omega (arith, row.count_is, width_is) in
        let strings_held =
        all-append (Has held) (joins digest (row.front ++ value ∷ []))
        (strings_from digest (fold_of digest (row.front ++ value ∷ [])) up.rows) (all_from_held held _ row.are_held)
        (all_from_held held _
        (subst (λ v. HasAll held (strings_from digest v up.rows)) (sym row.fold_is) up.are_held)) in
        record {
          rows = row.front ∷ up.rows;
          fit = subst (λ m. AreEdgeRows n m level (row.front ∷ up.rows)) levels_left
              (inr (
                row.front,
                up.rows,
                refl,
                subst (λ w. 0 < w) width_is some,
                len,
                all-left P row.front (value ∷ []) row.hashes,
                up.fit,
              ));
          value_len = (all-right P row.front (value ∷ []) row.hashes).0;
          root_is = ap (λ v. root_from digest v up.rows) row.fold_is ∙ up.root_is;
          are_held = held_from_all held _ strings_held;
        }

  module _ (size : (s : List ℕ) → length (digest s) ≡ 32) (clean : NoClash digest held) (below : level < 8) where
    left_levels : 8 - level ≡ suc (8 - (level + 1))
    left_levels = omega arith

    pub skipped : (value : List ℕ) → width_of n level ≡ 0 → LeadsUp digest held n level root value →
        LeadsUp digest held n (level + 1) root value
    skipped value none up = at (subst (λ m. AreEdgeRows n m level up.rows) left_levels up.fit)
      where
        at : AreEdgeRows n (suc (8 - (level + 1))) level up.rows → LeadsUp digest held n (level + 1) root value
        at (inl f) =
            record { rows = up.rows; fit = f.1; value_len = up.value_len; root_is = up.root_is; are_held = up.are_held }
        at (inr f) = absurd (omega (arith, f.3, none))

    -- the row of the level, and the value to which it leads
    pub record HasLevel (width : ℕ) (value : List ℕ) : Type 0 where
      pub above : List ℕ
      pub up : LeadsUp digest held n (level + 1) root above
      pub row : HasRow digest held (width + 1) above value

    pub level_of : (width : ℕ) (value : List ℕ) → width ≡ width_of n level → 0 < width →
        LeadsUp digest held n level root value → HasLevel width value
    level_of width value width_is some up = at (subst (λ m. AreEdgeRows n m level up.rows) left_levels up.fit)
      where
        at : AreEdgeRows n (suc (8 - (level + 1))) level up.rows → HasLevel width value
        at (inl f) = absurd (omega (arith, f.0, width_is, some))
        at (inr f) =
            let row = f.0 in
            let rest = f.1 in
            let P = λ (h : List ℕ). length h ≡ 32 in
            let pushed : List (List ℕ) = row ++ value ∷ [] in
            let hashes = all-append P row (value ∷ []) f.5 (up.value_len, tt) in
            let root_is : root_from digest (fold_of digest pushed) rest ≡ root =
            subst (λ rows. root_from digest value rows ≡ root) f.2 up.root_is in
            let all =
            all_from_held held _ (subst (λ rows. HasAll held (strings_from digest value rows)) f.2 up.are_held) in
            let len : 0 < length pushed = omega (arith, length-append row (value ∷ [])) in
            record {
              above = fold_of digest pushed;
              up = record {
                rows = rest;
                fit =
                    f.6;
                value_len =
                    fold_len digest size held clean pushed len hashes;
                root_is =
                    root_is;
                are_held =
                    held_from_all held _
                    (all-right (Has held) (joins digest pushed) (strings_from digest (fold_of digest pushed) rest) all);
              };
              row = record {
                front =
                    row;
                count_is =
                    omega (arith, f.4, width_is);
                hashes =
                    hashes;
                fold_is =
                    refl;
                are_held =
                    held_from_all held _
                    (all-left (Has held) (joins digest pushed) (strings_from digest (fold_of digest pushed) rest) all);
              };
            }

-- ---- the right edge from a level up

module _ (digest : List ℕ → List ℕ) (held : Strings) (n level : ℕ) (root : List ℕ) where
  pub edge_none : (b : Bool) → level ≡ 8 → b ≡ pointwise eqb (digest []) root →
      IsTrue b ↔ HoldsEdgeFrom digest held n level root
  edge_none b top is =
      let decides = slice_eq-Decides Decides-eqb (digest []) root b is in
      let none_left : 8 - level ≡ 0 = omega arith in (
        λ h. record {
          rows = [];
          fit =
              subst (λ m. AreEdgeRows n m level []) (sym none_left) refl;
          root_is = decides.0 h;
          are_held = tt;
        },
        λ e. decides.1
            (subst (λ rows. edge_root digest rows ≡ root)
            (subst (λ m. AreEdgeRows n m level e.rows) none_left e.fit) e.root_is),
      )

  module _ (size : (s : List ℕ) → length (digest s) ≡ 32) (clean : NoClash digest held) (below : level < 8) where
    more_levels : 8 - level ≡ suc (8 - (level + 1))
    more_levels = omega arith

    pub edge_skipped : (b : Bool) → width_of n level ≡ 0 → IsTrue b ↔ HoldsEdgeFrom digest held n (level + 1) root →
        IsTrue b ↔ HoldsEdgeFrom digest held n level root
    edge_skipped b none above =
        (λ h. up (above.0 h), λ e. above.1 (down e (subst (λ m. AreEdgeRows n m level e.rows) more_levels e.fit)))
      where
        up : HoldsEdgeFrom digest held n (level + 1) root → HoldsEdgeFrom digest held n level root
        up e = record {
          rows = e.rows;
          fit =
              subst (λ m. AreEdgeRows n m level e.rows) (sym more_levels) (inl (none, e.fit));
          root_is =
              e.root_is;
          are_held = e.are_held;
        }

        down : (e : HoldsEdgeFrom digest held n level root) → AreEdgeRows n (suc (8 - (level + 1))) level e.rows →
            HoldsEdgeFrom digest held n (level + 1) root
        down e (inl f) = record { rows = e.rows; fit = f.1; root_is = e.root_is; are_held = e.are_held }
        down e (inr f) = absurd (omega (arith, f.3, none))

    -- the lowest row, and the value to which it leads
    pub record HasLowest (width : ℕ) : Type 0 where
      pub above : List ℕ
      pub up : LeadsUp digest held n (level + 1) root above
      pub last : List ℕ
      pub row : HasRow digest held width above last

    pub edge_of : (width : ℕ) → width ≡ width_of n level → 0 < width → HasLowest width →
        HoldsEdgeFrom digest held n level root
    edge_of width width_is some h =
        let row : List (List ℕ) = h.row.front ++ h.last ∷ [] in
        let len : length row ≡ width_of n level =
        omega (arith, length-append h.row.front (h.last ∷ []), h.row.count_is, width_is) in
        let all =
        all-append (Has held) (joins digest row) (strings_from digest (fold_of digest row) h.up.rows)
        (all_from_held held _ h.row.are_held)
        (all_from_held held _
        (subst (λ v. HasAll held (strings_from digest v h.up.rows)) (sym h.row.fold_is) h.up.are_held)) in
        record {
          rows = row ∷ h.up.rows;
          fit = subst (λ m. AreEdgeRows n m level (row ∷ h.up.rows)) (sym more_levels)
              (inr (row, h.up.rows, refl, subst (λ w. 0 < w) width_is some, len, h.row.hashes, h.up.fit));
          root_is = ap (λ v. root_from digest v h.up.rows) h.row.fold_is ∙ h.up.root_is;
          are_held = held_from_all held _ all;
        }

    pub lowest_of : (width : ℕ) → width ≡ width_of n level → 0 < width → HoldsEdgeFrom digest held n level root →
        HasLowest width
    lowest_of width width_is some e = at (subst (λ m. AreEdgeRows n m level e.rows) more_levels e.fit)
      where
        at : AreEdgeRows n (suc (8 - (level + 1))) level e.rows → HasLowest width
        at (inl f) = absurd (omega (arith, f.0, width_is, some))
        at (inr f) =
            let row = f.0 in
            let rest = f.1 in
            let P = λ (h : List ℕ). length h ≡ 32 in
            let many : 0 < length row = omega (arith, f.3, f.4) in
            let start : length row - 1 < length row = omega arith in
            let back : length row - 1 + 1 ≡ length row = omega arith in
            let last : List ℕ = get_or row (length row - 1) [] in
            let front : List (List ℕ) = take (length row - 1) row in
            let whole : row ≡ front ++ last ∷ [] =
            sym (take_all (length row) row (omega arith)) ∙
            (ap (λ (i : ℕ). take i row) (sym back) ∙ take_more row (length row - 1) [] start) in
            let root_is : root_from digest (fold_of digest row) rest ≡ root =
            subst (λ rows. edge_root digest rows ≡ root) f.2 e.root_is in
            let all = all_from_held held _ (subst (λ rows. HasAll held (edge_strings digest rows)) f.2 e.are_held) in
            record {
              above = fold_of digest row;
              up = record {
                rows = rest;
                fit =
                    f.6;
                value_len =
                    fold_len digest size held clean row many f.5;
                root_is =
                    root_is;
                are_held =
                    held_from_all held _
                    (all-right (Has held) (joins digest row) (strings_from digest (fold_of digest row) rest) all);
              };
              last = last;
              row = record {
                front = front;
                count_is = omega (arith, length-take (length row - 1) row, f.4, width_is, many);
                hashes = subst (AllByRecursion P) whole f.5;
                fold_is = ap (fold_of digest) (sym whole);
                are_held =
                    subst (λ r. HasAll held (joins digest r)) whole
                    (held_from_all held _
                    (all-left (Has held) (joins digest row) (strings_from digest (fold_of digest row) rest) all));
              };
            }

    -- a value leads up from the next level too
    pub leads_on : (value : List ℕ) → LeadsUp digest held n level root value →
        (above : List ℕ) × LeadsUp digest held n (level + 1) root above
    leads_on value up = at (subst (λ m. AreEdgeRows n m level up.rows) more_levels up.fit)
      where
        at : AreEdgeRows n (suc (8 - (level + 1))) level up.rows →
            (above : List ℕ) × LeadsUp digest held n (level + 1) root above
        at (inl f) = (
          value,
          record
              { rows = up.rows; fit = f.1; value_len = up.value_len; root_is = up.root_is; are_held = up.are_held },
        )
        at (inr f) =
            let l = level_of digest held n level root size clean below (width_of n level) value refl f.3 up in
            (l.above, l.up)

    pub edge_refused : (width : ℕ) → width ≡ width_of n level → 0 < width →
        ((value : List ℕ) → LeadsUp digest held n (level + 1) root value → ⊥) →
        IsTrue false ↔ HoldsEdgeFrom digest held n level root
    edge_refused width width_is some none = (
      λ h. absurd (let wrong : false ≡ true = h in cc wrong),
      λ e. let l =
          lowest_of width width_is some e in absurd (none l.above l.up),
    )

    pub edge_recorded : (width : ℕ) (value : List ℕ) (o : Option (List ℕ)) (b : Bool) → width ≡ width_of n level →
        0 < width → b ≡ is_some o → LeadsUp digest held n (level + 1) root value →
        ((other : List ℕ) → LeadsUp digest held n (level + 1) root other → other ≡ value) →
        IfSome o (λ last. HasRow digest held width value last) →
        IfNone o ((last : List ℕ) → HasRow digest held width value last → ⊥) →
        IsTrue b ↔ HoldsEdgeFrom digest held n level root
    edge_recorded width value None b width_is some is up only found none = (
      λ h. absurd (cc (h, is)),
      λ e. let l =
          lowest_of width width_is some e in absurd
          (none l.last (subst (λ v. HasRow digest held width v l.last) (only l.above l.up) l.row)),
    )
    edge_recorded width value (Some last) b width_is some is up only found none =
        (λ _. edge_of width width_is some (record { above = value; up = up; last = last; row = found }), λ _. is)

-- ---- rows as bytes

-- edge rows as bytes
abbrev HasBytes : ℕ → List ℕ → List (List (List ℕ)) → Type 0
HasBytes n levels rows = (texts : List (List ℕ)) × (HaveWidths n levels texts × (map row_of texts ≡ rows))

bytes_level : (n levels level : ℕ) (x : Bool) → nat_eq (width_of n level) 0 ≡ x →
    ((rows : List (List (List ℕ))) → AreEdgeRows n levels (level + 1) rows →
    HasBytes n (widths_from n levels (level + 1)) rows) → (rows : List (List (List ℕ))) →
    AreEdgeRows n (suc levels) level rows →
    HasBytes n (cond (not x) (level ∷ widths_from n levels (level + 1)) (widths_from n levels (level + 1))) rows
bytes_level n levels level true z later rows (inl f) = later rows f.1
bytes_level n levels level true z later rows (inr f) =
    absurd (let none : width_of n level ≡ 0 = eqb-true _ _ z in omega (arith, f.3, none))
bytes_level n levels level false z later rows (inl f) = absurd (eqb-false _ _ z f.0)
bytes_level n levels level false z later rows (inr f) =
    let row : List (List ℕ) = f.0 in
    let after = later f.1 f.6 in
    let sizes : All (λ hash. length hash ≡ 32) row = All-from_recursion (λ (h : List ℕ). length h ≡ 32) row f.5 in
    let len : length (row_text row) ≡ 32 * width_of n level = length-row_text row sizes ∙ ap (λ w. 32 * w) f.4 in
    let back : row_of (row_text row) ≡ row =
    sym (row_is_one (length row) (row_text row) row (record { count = refl; sizes = sizes; text = refl })) in
    let widths : length (row_text row) ∷ map length after.0
    ≡ 32 * width_of n level ∷ map (λ width. 32 * width) (map (width_of n) (widths_from n levels (level + 1))) =
    ap (λ (w : ℕ). w ∷ map length after.0) len ∙ ap (λ (ws : List ℕ). 32 * width_of n level ∷ ws) after.1.0 in
    let whole : row_of (row_text row) ∷ map row_of after.0 ≡ rows =
    ap (λ (r : List (List ℕ)). r ∷ map row_of after.0) back ∙
    (ap (λ (rs : List (List (List ℕ))). row ∷ rs) after.1.1 ∙ sym f.2) in
    (row_text row ∷ after.0, (widths, whole))

-- rows with these widths, in the words of another crate
rows_from : (n levels level : ℕ) (rows : List (List (List ℕ))) → Fit n levels level rows →
    AreEdgeRows n levels level rows
rows_from n zero level rows f = f
rows_from n (suc levels) level rows (inl f) = inl (f.0, rows_from n levels (level + 1) rows f.1)
rows_from n (suc levels) level rows (inr f) =
    inr (f.0, f.1, f.2, f.3, f.4, f.5, rows_from n levels (level + 1) f.1 f.6)

bytes_of_rows : (n levels level : ℕ) (rows : List (List (List ℕ))) → AreEdgeRows n levels level rows →
    HasBytes n (widths_from n levels level) rows
bytes_of_rows n zero level rows fit = ([], (refl, sym fit))
bytes_of_rows n (suc levels) level rows fit =
    bytes_level n levels level (nat_eq (width_of n level) 0) refl (bytes_of_rows n levels (level + 1)) rows fit

-- the right edge of a tree, as rows of bytes
pub edge_is : (digest : List ℕ → List ℕ) (held : Strings) (n : ℕ) (root : List ℕ) (b : Bool) →
    IsTrue b ↔ HoldsEdgeFrom digest held n 0 root → IsTrue b ↔ HoldsEdge digest held n root
unfolding edge_levels
edge_is digest held n root b is = (λ h. up (is.0 h), λ e. is.1 (down e))
  where
    up : HoldsEdgeFrom digest held n 0 root → HoldsEdge digest held n root
    up e =
        let bytes = bytes_of_rows n 8 0 e.rows e.fit in
        record {
          rows = bytes.0;
          has_edge = record { widths = bytes.1.0; root_is = ap (edge_root digest) bytes.1.1 ∙ e.root_is };
          are_held = subst (λ rows. HasAll held (edge_strings digest rows)) (sym bytes.1.1) e.are_held;
        }

    down : HoldsEdge digest held n root → HoldsEdgeFrom digest held n 0 root
    down e = record {
      rows = map row_of e.rows;
      fit =
          rows_from n 8 0 (map row_of e.rows) (rows_fit n e.rows e.has_edge.widths);
      root_is = e.has_edge.root_is;
      are_held = e.are_held;
    }
