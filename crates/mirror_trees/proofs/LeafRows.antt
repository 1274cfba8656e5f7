-- The entries of a row of leaf hashes.
use Rattle.std.proofs.Common.{◌≡◌, ℕ, zero, suc, ◌+◌, ◌*◌, ◌^◌, ◌<◌, ◌≤◌, List, [], ◌∷◌, ◌++◌, length, take, drop, map}
use Rattle.std.proofs.Common.{get_or, sym, refl, ap, ◌∙◌, subst, arith, length-drop}
use Rattle.std.specs.Prelude.{Option, Some, None, Result, Ok, Err, IfOk, IfSome, IfNone}
use Rattle.std.specs.List.{AllByRecursion}
use Rattle.std.proofs.lemmas.List.{drop-drop}
use Rattle.tlog_hash.specs.Tree.{mth, leaf_hash, strings, joins}
use Rattle.tlog_hash.specs.Rows.{part, ranges, level_row}
use Rattle.tlog_hash.proofs.Trees.{mth-one, all-left}
use Rattle.node_store.specs.Strings.{Strings, Has, IsHeldAt, NoClash}
use Rattle.mirror_model.specs.Complete.{IsTreeOf}
use Rattle.mirror_model.proofs.StringSets.{all_from_held}
use Rattle.mirror_trees.specs.Leaves.{AreLeaves}

module _ (digest : List ℕ → List ℕ) (held : Strings) where
  abbrev Leaves : List (List ℕ) → List (List ℕ) → Type 0
  Leaves row entries = AreLeaves digest held row entries

  pub leaves_push : (row entries : List (List ℕ)) (hash entry : List ℕ) → Leaves row entries →
      IsHeldAt digest held hash (0 ∷ entry) → Leaves (row ++ hash ∷ []) (entries ++ entry ∷ [])
  leaves_push [] [] hash entry h at = (at, tt)
  leaves_push [] (e ∷ entries) hash entry h at = absurd h
  leaves_push (r ∷ row) [] hash entry h at = absurd h
  leaves_push (r ∷ row) (e ∷ entries) hash entry h at = (h.0, leaves_push row entries hash entry h.1 at)

  -- if one hash of the row has no entry, the row has none
  pub leaves_none : (row entries : List (List ℕ)) (i : ℕ) (d : List ℕ) → i < length row →
      ((e : List ℕ) → IsHeldAt digest held (get_or row i d) (0 ∷ e) → ⊥) → Leaves row entries → ⊥
  leaves_none [] entries i d lt none h = omega (arith, lt)
  leaves_none (r ∷ row) [] i d lt none h = h
  leaves_none (r ∷ row) (e ∷ entries) zero d lt none h = none e h.0
  leaves_none (r ∷ row) (e ∷ entries) (suc i) d lt none h = leaves_none row entries i d (omega (arith, lt)) none h.1

  pub leaves_once : NoClash digest held → (row xs ys : List (List ℕ)) → Leaves row xs → Leaves row ys → xs ≡ ys
  leaves_once clean [] [] [] p q = refl
  leaves_once clean [] [] (y ∷ ys) p q = absurd q
  leaves_once clean [] (x ∷ xs) ys p q = absurd p
  leaves_once clean (r ∷ row) [] ys p q = absurd p
  leaves_once clean (r ∷ row) (x ∷ xs) [] p q = absurd q
  leaves_once clean (r ∷ row) (x ∷ xs) (y ∷ ys) p q =
      let same : 0 ∷ x ≡ 0 ∷ y =
      clean.same (0 ∷ x) (0 ∷ y) p.0.is_held q.0.is_held (p.0.digest_is ∙ sym q.0.digest_is) in
      let rest = leaves_once clean row xs ys p.1 q.1 in
      λ i. drop 1 (same i) ∷ rest i

  -- the row of held entries
  row_leaves : (xs : List (List ℕ)) → AllByRecursion (Has held) (map (λ e. 0 ∷ e) xs) →
      Leaves (map (leaf_hash digest) xs) xs
  row_leaves [] h = tt
  row_leaves (x ∷ xs) h = (record { is_held = h.0; digest_is = refl }, row_leaves xs h.1)

  all-take : (n : ℕ) (xs : List (List ℕ)) → AllByRecursion (Has held) (map (λ e. 0 ∷ e) xs) →
      AllByRecursion (Has held) (map (λ e. 0 ∷ e) (take n xs))
  all-take zero xs h = tt
  all-take (suc n) [] h = tt
  all-take (suc n) (x ∷ xs) h = (h.0, all-take n xs h.1)

  all-drop : (n : ℕ) (xs : List (List ℕ)) → AllByRecursion (Has held) (map (λ e. 0 ∷ e) xs) →
      AllByRecursion (Has held) (map (λ e. 0 ∷ e) (drop n xs))
  all-drop zero xs h = h
  all-drop (suc n) [] h = tt
  all-drop (suc n) (x ∷ xs) h = all-drop n xs h.1

  -- ranges of one entry
  pub leaf_row : (first n : ℕ) (es : List (List ℕ)) → first + n ≤ length es →
      map (mth digest) (ranges 1 first n es) ≡ map (leaf_hash digest) (take n (drop first es))
  leaf_row first zero es fits = refl
  leaf_row first (suc n) es fits = at (leaf_row (first + 1) n es (omega (arith, fits))) (drop first es) refl
    where
      at : map (mth digest) (ranges 1 (first + 1) n es) ≡ map (leaf_hash digest) (take n (drop (first + 1) es)) →
          (tail : List (List ℕ)) → drop first es ≡ tail →
          map (mth digest) (ranges 1 first (suc n) es) ≡ map (leaf_hash digest) (take (suc n) (drop first es))
      at rest [] e = absurd (let len = ap length e in omega (arith, len, length-drop first es, fits))
      at rest (x ∷ xs) e =
          let one : first * 1 ≡ first = omega arith in
          let next : drop (first + 1) es ≡ xs = sym (drop-drop 1 first es) ∙ ap (drop 1) e in
          let head : mth digest (part (first * 1) 1 es) ≡ leaf_hash digest x =
          ap (λ m. mth digest (take 1 (drop m es))) one ∙ ap (λ ys. mth digest (take 1 ys)) e ∙ mth-one digest x in
          (λ i. head i ∷ (rest ∙ ap (λ ys. map (leaf_hash digest) (take n ys)) next) i) ∙
          ap (λ ys. map (leaf_hash digest) (take (suc n) ys)) (sym e)

  -- the leaves of a bundle of a held tree
  pub bundle_leaves : (size : ℕ) (root : List ℕ) (es : List (List ℕ)) (index width : ℕ) →
      IsTreeOf digest held size root es → (256 * index + width) * 256 ^ 0 ≤ size →
      Leaves (level_row digest es 0 (256 * index) width) (part (256 * index) width es)
  unfolding strings
  bundle_leaves size root es index width t fits =
      let all =
      all-left (Has held) (map (λ e. 0 ∷ e) es) (joins digest (map (leaf_hash digest) es))
      (all_from_held held (strings digest es) t.are_held) in
      let within : 256 * index + width ≤ length es = omega (arith, fits, t.size_is) in
      subst (λ row. Leaves row (part (256 * index) width es)) (sym (leaf_row (256 * index) width es within))
      (row_leaves (part (256 * index) width es)
      (all-take width (drop (256 * index) es) (all-drop (256 * index) es all)))

  pub bundle_is : NoClash digest held → (size : ℕ) (root : List ℕ) (es row xs : List (List ℕ)) (index width : ℕ) →
      IsTreeOf digest held size root es → (256 * index + width) * 256 ^ 0 ≤ size →
      row ≡ level_row digest es 0 (256 * index) width → Leaves row xs → xs ≡ part (256 * index) width es
  bundle_is clean size root es row xs index width t fits row_is h =
      leaves_once clean row xs (part (256 * index) width es) h
      (subst (λ r. Leaves r (part (256 * index) width es)) (sym row_is) (bundle_leaves size root es index width t fits))

  pub bundle_none : (size : ℕ) (root : List ℕ) (es row : List (List ℕ)) (index width : ℕ) →
      IsTreeOf digest held size root es → (256 * index + width) * 256 ^ 0 ≤ size →
      row ≡ level_row digest es 0 (256 * index) width → ((xs : List (List ℕ)) → Leaves row xs → ⊥) → ⊥
  bundle_none size root es row index width t fits row_is none =
      none (part (256 * index) width es)
      (subst (λ r. Leaves r (part (256 * index) width es)) (sym row_is) (bundle_leaves size root es index width t fits))

-- ---- properties of an answer
pub at_some : {X : Type 0} (o : Option X) (x : X) (P : X → Type 0) → o ≡ Some x → IfSome o P → P x
at_some o x P is h = subst (λ p. IfSome p P) is h

pub ok_some_from : {X E : Type 0} (r : Result (Option X) E) (P Q : X → Type 0) → ((x : X) → P x → Q x) →
    IfOk r (λ o. IfSome o P) → IfOk r (λ o. IfSome o Q)
ok_some_from (Ok (Some x)) P Q f h = f x h
ok_some_from (Ok None) P Q f h = tt
ok_some_from (Err e) P Q f h = tt

pub ok_none_from : {X E : Type 0} (r : Result (Option X) E) (P Q : Type 0) → (P → Q) → IfOk r (λ o. IfNone o P) →
    IfOk r (λ o. IfNone o Q)
ok_none_from (Ok (Some x)) P Q f h = tt
ok_none_from (Ok None) P Q f h = f h
ok_none_from (Err e) P Q f h = tt
