-- Ranges of a list by its tree.
use Rattle.std.proofs.Common.{◌≡◌, ℕ, ◌+◌, ◌-◌, ◌<◌, ◌≤◌, List, ◌∷◌, ◌++◌, length, take, drop, sym, ap, ◌∙◌, arith}
use Rattle.std.proofs.Common.{length-take, length-drop, Option, Some, None}
use Rattle.std.specs.Prelude.{IfSome, IfNone}
use Rattle.std.proofs.lemmas.List.{drop-take, take-take, drop-drop}
use Rattle.std.proofs.Math.Seq.{take-add, take-length}
use Rattle.tlog_shape.specs.Split.{split_of}
use Rattle.tlog_hash.specs.Tree.{mth}
use Rattle.tlog_hash.specs.Rows.{part}
use Rattle.tlog_hash.proofs.Trees.{mth-append}
use Rattle.node_store.specs.Strings.{Strings, IsHeldAt, NoClash}
use Rattle.mirror_model.specs.Complete.{IsTreeOf}
use Rattle.mirror_trees.proofs.Descents.{left-tree, right-tree}

module _ {A : Type 0} (es : List A) where
  -- a range within the first k
  pub part-take : (k start len : ℕ) → start + len ≤ k → part start len (take k es) ≡ part start len es
  part-take k start len upto =
      let whole : start + (k - start) ≡ k = omega arith in
      ap (λ n. take len (drop start (take n es))) (sym whole)
      ∙ ap (take len) (drop-take start (k - start) es)
      ∙ take-take len (k - start) (drop start es) (omega arith)

  -- a range after the first k
  pub part-drop : (k start len : ℕ) → k ≤ start → part (start - k) len (drop k es) ≡ part start len es
  part-drop k start len past =
      let whole : k + (start - k) ≡ start = omega arith in
      ap (take len) (drop-drop (start - k) k es ∙ ap (λ n. drop n es) whole)

  -- a range in two parts
  pub part-split : (start j len : ℕ) → j ≤ len → part start len es ≡ part start j es ++ part (start + j) (len - j) es
  part-split start j len upto =
      let whole : len ≡ j + (len - j) = omega arith in
      ap (λ n. take n (drop start es)) whole
      ∙ take-add j (len - j) (drop start es)
      ∙ ap (λ xs. take j (drop start es) ++ take (len - j) xs) (drop-drop j start es)

  pub length-part : (start len : ℕ) → start + len ≤ length es → length (part start len es) ≡ len
  length-part start len within =
      length-take len (drop start es) ∙
      (let d : length (drop start es) ≡ length es - start = length-drop start es in omega arith)

  pub part-whole : (start len : ℕ) → start ≡ 0 → len ≡ length es → part start len es ≡ es
  part-whole start len s l = ap (λ n. take len (drop n es)) s ∙ ap (λ n. take n es) l ∙ take-length es

-- one property from another, for the value of an answer
pub some_from : {X : Type 0} (r : Option X) (P Q : X → Type 0) → ((x : X) → P x → Q x) → IfSome r P → IfSome r Q
some_from None P Q f h = tt
some_from (Some x) P Q f h = f x h

pub none_from : {X : Type 0} (r : Option X) (P Q : Type 0) → (P → Q) → IfNone r P → IfNone r Q
none_from None P Q f h = f h
none_from (Some x) P Q f h = tt

-- a range in both parts
pub mth-straddle : (digest : List ℕ → List ℕ) (es : List (List ℕ)) (start len j : ℕ) (a b : List ℕ) → 2 ≤ len →
    start + len ≤ length es → j ≡ split_of len → j < len → a ≡ mth digest (part start j es) →
    b ≡ mth digest (part (start + j) (len - j) es) → digest (1 ∷ a ++ b) ≡ mth digest (part start len es)
mth-straddle digest es start len j a b two within is below a_is b_is =
    let xs = part start j es in
    let ys = part (start + j) (len - j) es in
    let lx : length xs ≡ j = length-part es start j (omega arith) in
    let ly : length ys ≡ len - j = length-part es (start + j) (len - j) (omega arith) in
    let total : length xs + length ys ≡ len = omega arith in
    (λ i. digest (1 ∷ a_is i ++ b_is i))
    ∙ sym (mth-append digest xs ys (omega arith) (lx ∙ is ∙ ap split_of (sym total)))
    ∙ ap (mth digest) (sym (part-split es start j len (omega arith)))

module _ (digest : List ℕ → List ℕ) (held : Strings) (size : (s : List ℕ) → length (digest s) ≡ 32)
    (clean : NoClash digest held) (n k : ℕ) (root l r : List ℕ) (two : 2 ≤ n) (k_is : k ≡ split_of n)
    (len_l : length l ≡ 32) (h : IsHeldAt digest held root (1 ∷ l ++ r)) where
  pub none_left : ((es : List (List ℕ)) → IsTreeOf digest held k l es → ⊥) → (es : List (List ℕ)) →
      IsTreeOf digest held n root es → ⊥
  none_left f es t = f (take k es) (left-tree digest held size clean n k root l r two k_is len_l h es t)

  pub none_right : ((es : List (List ℕ)) → IsTreeOf digest held (n - k) r es → ⊥) → (es : List (List ℕ)) →
      IsTreeOf digest held n root es → ⊥
  none_right f es t = f (drop k es) (right-tree digest held size clean n k root l r two k_is len_l h es t)

  pub range_left : (start len : ℕ) → start + len ≤ k → (x : List ℕ) →
      ((es : List (List ℕ)) → IsTreeOf digest held k l es → x ≡ mth digest (part start len es)) → (es : List (List ℕ)) →
      IsTreeOf digest held n root es → x ≡ mth digest (part start len es)
  range_left start len upto x f es t =
      f (take k es) (left-tree digest held size clean n k root l r two k_is len_l h es t) ∙
      ap (mth digest) (part-take es k start len upto)

  pub range_right : (start len : ℕ) → k ≤ start → (x : List ℕ) →
      ((es : List (List ℕ)) → IsTreeOf digest held (n - k) r es → x ≡ mth digest (part (start - k) len es)) →
      (es : List (List ℕ)) → IsTreeOf digest held n root es → x ≡ mth digest (part start len es)
  range_right start len past x f es t =
      f (drop k es) (right-tree digest held size clean n k root l r two k_is len_l h es t) ∙
      ap (mth digest) (part-drop es k start len past)
