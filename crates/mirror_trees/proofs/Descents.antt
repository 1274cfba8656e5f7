-- One step of a descent through a held tree.
use Rattle.std.proofs.Common.{◌≡◌, ℕ, ◌+◌, ◌-◌, ◌<◌, ◌≤◌, List, [], ◌∷◌, ◌++◌, length, take, drop, sym, refl, ap, ◌∙◌}
use Rattle.std.proofs.Common.{subst, arith, length-append, length-take, length-drop, take-append-drop}
use Rattle.tlog_shape.specs.Split.{split_of}
use Rattle.tlog_shape.proofs.Splits.{split_of-below}
use Rattle.tlog_hash.specs.Tree.{mth, strings}
use Rattle.tlog_hash.proofs.Trees.{mth-none, mth-one, mth-append, length-mth, strings-none, strings-one, all-strings}
use Rattle.tlog_hash.proofs.Trees.{left-strings, right-strings, join-string}
use Rattle.tlog_hash.proofs.PairStrings.{left_is, right_is}
use Rattle.node_store.specs.Strings.{Strings, Has, HasAll, IsHeldAt, NoClash}
use Rattle.mirror_model.specs.Complete.{IsTreeOf}
use Rattle.mirror_model.proofs.StringSets.{all_from_held, held_from_all}

module _ (digest : List ℕ → List ℕ) (held : Strings) where
  -- no entry
  pub none-tree : (root : List ℕ) → digest [] ≡ root → IsTreeOf digest held 0 root []
  none-tree root is =
      record {
        size_is =
            refl;
        root_is = mth-none digest ∙ is;
        are_held = subst (HasAll held) (sym (strings-none digest)) tt;
      }

  pub tree-none : (root : List ℕ) (es : List (List ℕ)) → IsTreeOf digest held 0 root es → digest [] ≡ root
  tree-none root [] t = sym (mth-none digest) ∙ t.root_is
  tree-none root (e ∷ es) t = absurd (omega (arith, t.size_is))

  -- one entry
  pub one-tree : (root e : List ℕ) → IsHeldAt digest held root (0 ∷ e) → IsTreeOf digest held 1 root (e ∷ [])
  one-tree root e h =
      record {
        size_is =
            refl;
        root_is =
            mth-one digest e ∙ h.digest_is;
        are_held = subst (HasAll held) (sym (strings-one digest e)) (h.is_held, tt);
      }

  pub record IsLeafOf (root : List ℕ) (es : List (List ℕ)) : Type 0 where
    pub entry : List ℕ
    pub is : es ≡ entry ∷ []
    pub at : IsHeldAt digest held root (0 ∷ entry)

  pub tree-one : (root : List ℕ) (es : List (List ℕ)) → IsTreeOf digest held 1 root es → IsLeafOf root es
  tree-one root [] t = absurd (omega (arith, t.size_is))
  tree-one root (e ∷ []) t =
      record {
        entry =
            e;
        is = refl;
        at =
            record {
              is_held =
                  (subst (HasAll held) (strings-one digest e) t.are_held).0;
              digest_is = sym (mth-one digest e) ∙ t.root_is;
            };
      }
  tree-one root (e ∷ f ∷ es) t = absurd (omega (arith, t.size_is))

  -- two parts
  pub join-tree : (n k : ℕ) (root l r : List ℕ) (xs ys : List (List ℕ)) → 2 ≤ n → k ≡ split_of n →
      IsHeldAt digest held root (1 ∷ l ++ r) → IsTreeOf digest held k l xs → IsTreeOf digest held (n - k) r ys →
      IsTreeOf digest held n root (xs ++ ys)
  join-tree n k root l r xs ys two k_is h x y =
      let below : split_of n < n = split_of-below n two in
      let sx = x.size_is in
      let sy = y.size_is in
      let total : length xs + length ys ≡ n = omega (arith, sx, sy, k_is) in
      let at : length xs ≡ split_of (length xs + length ys) = sx ∙ k_is ∙ ap split_of (sym total) in
      let two' : 2 ≤ length xs + length ys = omega arith in
      record {
        size_is = length-append xs ys ∙ total;
        root_is = mth-append digest xs ys two' at ∙ (λ i. digest (1 ∷ x.root_is i ++ y.root_is i)) ∙ h.digest_is;
        are_held =
            held_from_all held _
            (all-strings digest (Has held) xs ys two' at (all_from_held held _ x.are_held)
            (all_from_held held _ y.are_held)
            (subst (Has held) (λ i. 1 ∷ sym x.root_is i ++ sym y.root_is i) h.is_held));
      }

  -- the parts of a list of two or more
  pub record PartsAt (n : ℕ) (root : List ℕ) (es : List (List ℕ)) : Type 0 where
    pub at : IsHeldAt digest held root (1 ∷ mth digest (take (split_of n) es) ++ mth digest (drop (split_of n) es))
    pub left : IsTreeOf digest held (split_of n) (mth digest (take (split_of n) es)) (take (split_of n) es)
    pub right : IsTreeOf digest held (n - split_of n) (mth digest (drop (split_of n) es)) (drop (split_of n) es)

  pub tree-join : (n : ℕ) (root : List ℕ) (es : List (List ℕ)) → 2 ≤ n → IsTreeOf digest held n root es →
      PartsAt n root es
  tree-join n root es two t =
      let k = split_of n in
      let size : length es ≡ n = t.size_is in
      let below : k < n = split_of-below n two in
      let xs = take k es in
      let ys = drop k es in
      let sx : length xs ≡ k = length-take k es ∙ omega arith in
      let sy : length ys ≡ n - k = length-drop k es ∙ ap (λ m. m - k) size in
      let total : length xs + length ys ≡ n = omega arith in
      let two' : 2 ≤ length xs + length ys = omega arith in
      let at : length xs ≡ split_of (length xs + length ys) = sx ∙ ap split_of (sym total) in
      let whole : es ≡ xs ++ ys = sym (take-append-drop k es) in
      let all =
      all_from_held held (strings digest (xs ++ ys))
      (subst (λ zs. HasAll held (strings digest zs)) whole t.are_held) in
      record {
        at = record {
          is_held =
              join-string digest (Has held) xs ys two' at all;
          digest_is =
              sym (mth-append digest xs ys two' at) ∙ ap (mth digest) (sym whole) ∙ t.root_is;
        };
        left = record {
          size_is =
              sx;
          root_is = refl;
          are_held = held_from_all held _ (left-strings digest (Has held) xs ys two' at all);
        };
        right = record {
          size_is =
              sy;
          root_is = refl;
          are_held = held_from_all held _ (right-strings digest (Has held) xs ys two' at all);
        };
      }

  pub no-pair : (n : ℕ) (root : List ℕ) → 2 ≤ n → ((l r : List ℕ) → IsHeldAt digest held root (1 ∷ l ++ r) → ⊥) →
      (es : List (List ℕ)) → IsTreeOf digest held n root es → ⊥
  no-pair n root two none es t =
      none (mth digest (take (split_of n) es)) (mth digest (drop (split_of n) es)) (tree-join n root es two t).at

-- a pair is held at the root of a tree: its hashes are those of the parts of each held list
module _ (digest : List ℕ → List ℕ) (held : Strings) (size : (s : List ℕ) → length (digest s) ≡ 32)
    (clean : NoClash digest held) (n k : ℕ) (root l r : List ℕ) (two : 2 ≤ n) (k_is : k ≡ split_of n)
    (len : length l ≡ 32) (h : IsHeldAt digest held root (1 ∷ l ++ r)) (es : List (List ℕ))
    (t : IsTreeOf digest held n root es) where
  parts : PartsAt digest held n root es
  parts = tree-join digest held n root es two t

  lefts : List (List ℕ)
  lefts = take (split_of n) es

  rights : List (List ℕ)
  rights = drop (split_of n) es

  same : 1 ∷ l ++ r ≡ 1 ∷ mth digest (take (split_of n) es) ++ mth digest (drop (split_of n) es)
  same = clean.same _ _ h.is_held parts.at.is_held (h.digest_is ∙ sym parts.at.digest_is)

  lens : length l ≡ length (mth digest (take (split_of n) es))
  lens = len ∙ sym (length-mth digest size (take (split_of n) es))

  pub left-tree : IsTreeOf digest held k l (take k es)
  left-tree =
      subst (λ m. IsTreeOf digest held m l (take m es)) (sym k_is)
      (subst (λ v. IsTreeOf digest held (split_of n) v (take (split_of n) es))
      (sym (left_is l r _ _ lens same)) parts.left)

  pub right-tree : IsTreeOf digest held (n - k) r (drop k es)
  right-tree =
      subst (λ m. IsTreeOf digest held (n - m) r (drop m es)) (sym k_is)
      (subst (λ v. IsTreeOf digest held (n - split_of n) v (drop (split_of n) es))
      (sym (right_is l r _ _ lens same)) parts.right)
