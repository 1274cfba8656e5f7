-- The lines of missing paths, in order.
use Rattle.std.proofs.Common.{zero, suc, ◌≡◌, ℕ, ◌+◌, ◌-◌, ◌*◌, ◌%◌, ◌<◌, ◌≤◌, min, List, [], ◌∷◌, ◌++◌, map, sym, refl, ap, subst}
use Rattle.std.proofs.Common.{◌∙◌, ◌⊎◌, inl, inr, append_assoc, append-nil, arith, Bool, true, false, cond, Option, Some, None}
use Rattle.std.specs.Prelude.{◌↔◌, ◌≢◌, IsTrue, codes, Result, Ok, Err, OnErr, OnOk, IsErrAnd}
use Rattle.std.specs.Fmt.{decimal}
use Rattle.std.proofs.lemmas.Bool.{ne_eqb, cases_lt}
use Rattle.std.proofs.lemmas.Result.{on_ok_weaker, on_err_weaker}
use Rattle.byte_streams.specs.Streams.{AppendsPrefix}
use Rattle.tlog_tiles.specs.Path.{index_text, width_text}
use Rattle.tlog_tiles.specs.declared.paths.Path.{Path}
use Rattle.node_store.specs.Strings.{Strings}
use Rattle.mirror_model.specs.Texts.{path_line, missing_text}
use Rattle.mirror_trees.specs.Levels.{ListsLevels, first_from, fresh_from, path_at}
use Rattle.mirror_trees.proofs.LevelLists.{first_rests, none_rests}
use Rattle.tlog_mirror.specs.MissingLines.{begin_text, part_text, level_paths, IsLevelOf}
use Rattle.tlog_mirror.specs.Pieces.{Sends}
use Rattle.tlog_mirror.proofs.SentPieces.{prefix_more, sends_then, fails_then}
use Rattle.tlog_mirror.proofs.WrittenLines.{text_append}

pub never_both : (b : Bool) → b ≡ true → b ≡ false → ⊥
never_both b p q = let wrong : true ≡ false = sym p ∙ q in cc wrong

-- ---- two pieces

module _ (old mid : Option (List ℕ)) (had first second text : List ℕ) (is : first ++ second ≡ text) where
  pub fails_first : AppendsPrefix old mid (had ++ first) → AppendsPrefix old mid (had ++ text)
  fails_first q =
      subst (AppendsPrefix old mid) (append_assoc had first second ∙ ap (λ t. had ++ t) is)
      (prefix_more old mid (had ++ first) second q)

  module _ (new : Option (List ℕ)) (back : List ℕ) (p : Sends old mid back (had ++ first)) {T E : Type 0} (r : Result T E) where
    pub sends_both : (held : List ℕ) → OnOk r (Sends mid new held (back ++ second)) → OnOk r (Sends old new held (had ++ text))
    sends_both held =
        on_ok_weaker r
        (λ (q : Sends mid new held (back ++ second)). subst (λ t. Sends old new held (had ++ t)) is
        (sends_then old mid new had back first second p held q))

    pub fails_both : OnErr r (AppendsPrefix mid new (back ++ second)) → OnErr r (AppendsPrefix old new (had ++ text))
    fails_both =
        on_err_weaker r
        (λ (q : AppendsPrefix mid new (back ++ second)). subst (λ t. AppendsPrefix old new (had ++ t)) is
        (fails_then old mid new had back first second p q))

-- ---- the pieces of a line

part_pieces : (a i w d n : List ℕ) → (a ++ (i ++ (w ++ d))) ++ n ≡ a ++ (i ++ (w ++ (d ++ n)))
part_pieces a i w d n = simp append_assoc

tile_pieces : (a d s i n : List ℕ) → (a ++ (d ++ (s ++ (i ++ [])))) ++ n ≡ (a ++ (d ++ s)) ++ (i ++ n)
tile_pieces a d s i n = simp (append_assoc, append-nil)

full_pieces : (a i n : List ℕ) → (a ++ (i ++ [])) ++ n ≡ a ++ (i ++ n)
full_pieces a i n = simp (append_assoc, append-nil)

width_partial : (width : ℕ) → width < 256 → width_text width ≡ codes ".p/" ++ decimal width
width_partial width lt =
    ap (λ b. cond b [] (codes ".p/" ++ decimal width)) (ne_eqb width 256 (λ e. omega (arith, e, lt)))

module _ (size level number : ℕ) where
  pub part_line : level ≡ 0 → size - 256 * number < 256 → 256 * number < size →
      begin_text level ++ (index_text number ++ part_text size) ≡ path_line (path_at size level number)
  part_line zero_is few within =
      subst (λ l. begin_text l ++ (index_text number ++ part_text size) ≡ path_line (path_at size l number)) (sym zero_is)
      (sym (ap (λ w. (codes "tile/entries/" ++ (index_text number ++ width_text w)) ++ 10 ∷ []) width_is
      ∙ (ap (λ w. (codes "tile/entries/" ++ (index_text number ++ w)) ++ 10 ∷ []) (width_partial (size % 256) small)
      ∙ part_pieces (codes "tile/entries/") (index_text number) (codes ".p/") (decimal (size % 256)) (10 ∷ []))))
    where
      width_is : min 256 (size - 256 * number) ≡ size % 256
      width_is = omega (arith, few, within)

      small : size % 256 < 256
      small = omega arith

  pub full_line : ((level ≡ 0) × (size - 256 * number < 256) → ⊥) →
      begin_text level ++ (index_text number ++ 10 ∷ []) ≡ path_line (path_at size level number)
  full_line other = at level (λ is. elim (cases_lt (size - 256 * number) 256) [
    | inl lt ↦ absurd (other (is, lt))
    | inr le ↦ le
  ])
    where
      at : (l : ℕ) → (l ≡ 0 → 256 ≤ size - 256 * number) →
          begin_text l ++ (index_text number ++ 10 ∷ []) ≡ path_line (path_at size l number)
      at zero full =
          let wide = full refl in
          let width_is : min 256 (size - 256 * number) ≡ 256 = omega (arith, wide) in
          sym (ap (λ w. (codes "tile/entries/" ++ (index_text number ++ width_text w)) ++ 10 ∷ []) width_is
          ∙ full_pieces (codes "tile/entries/") (index_text number) (10 ∷ []))
      at (suc l) full =
          sym (tile_pieces (codes "tile/") (decimal (suc l)) (codes "/") (index_text number) (10 ∷ []))

-- ---- the files of a level

module _ (size level : ℕ) (numbers : List ℕ) where
  pub next_path : (from number : ℕ) → first_from from numbers ≡ Some number →
      map (path_at size level) (fresh_from from numbers)
      ≡ (path_at size level number ∷ []) ++ map (path_at size level) (fresh_from (number + 1) numbers)
  next_path from number e =
      let next : suc number ≡ number + 1 = omega arith in
      ap (map (path_at size level)) (first_rests from numbers number e).rest
      ∙ ap (λ n. path_at size level number ∷ map (path_at size level) (fresh_from n numbers)) next

  pub no_path : (from : ℕ) → first_from from numbers ≡ None → map (path_at size level) (fresh_from from numbers) ≡ []
  no_path from e = ap (map (path_at size level)) (none_rests from numbers e)

-- whether a path was written
pub says_one : (any : Bool) (path : Path) → IsTrue true ↔ (IsTrue any ⊎ (path ∷ [] ≢ []))
says_one any path = (λ h. inr (λ e. cc e), λ h. refl)

-- ---- the levels

module _ (digest : List ℕ → List ℕ) (held : Strings) (size : ℕ) (root : List ℕ) where
  pub record AreParts (levels : ℕ) (paths : List Path) : Type 0 where
    pub above : List Path
    pub numbers : List ℕ
    pub higher : ListsLevels digest held size root (levels - 1) above
    pub own : IsLevelOf digest held size root (8 - levels) numbers
    pub is : paths ≡ above ++ level_paths size (8 - levels) numbers

  pub parts_of : (levels : ℕ) (paths : List Path) → (levels ≡ 0 → ⊥) → ListsLevels digest held size root levels paths →
      AreParts levels paths
  parts_of zero paths some lists = absurd (some refl)
  parts_of (suc levels) paths some (above, numbers, higher, own, is) =
      let same : levels ≡ suc levels - 1 = omega arith in
      let level : 7 - levels ≡ 8 - suc levels = omega arith in
      record {
        above = above;
        numbers = numbers;
        higher = subst (λ n. ListsLevels digest held size root n above) same higher;
        own = subst (λ n. IsLevelOf digest held size root n numbers) level own;
        is = subst (λ n. paths ≡ above ++ level_paths size n numbers) level is;
      }

  pub no_levels : (levels : ℕ) (paths : List Path) → levels ≡ 0 → ListsLevels digest held size root levels paths → paths ≡ []
  no_levels zero paths is lists = lists
  no_levels (suc levels) paths is lists = absurd (omega (arith, is))

-- whether one of two lists has a path
pub says_both : (first any : Bool) (xs ys zs : List Path) → zs ≡ xs ++ ys → IsTrue first ↔ (xs ≢ []) →
    IsTrue any ↔ (IsTrue first ⊎ (ys ≢ [])) → IsTrue any ↔ (zs ≢ [])
says_both first any xs ys zs is p q = (
  λ h. elim (q.0 h) [
    | inl a ↦ λ e. p.0 a (left_nil xs ys (sym is ∙ e))
    | inr b ↦ λ e. b (right_nil xs ys (sym is ∙ e))
  ],
  λ some. at xs refl some,
)
  where
    left_nil : (us vs : List Path) → us ++ vs ≡ [] → us ≡ []
    left_nil [] vs e = refl
    left_nil (u ∷ us) vs e = absurd (cc e)

    right_nil : (us vs : List Path) → us ++ vs ≡ [] → vs ≡ []
    right_nil [] vs e = e
    right_nil (u ∷ us) vs e = absurd (cc e)

    at : (us : List Path) → us ≡ xs → (zs ≢ []) → IsTrue any
    at [] e some = q.1 (inr (λ none. some (is ∙ (λ i. sym e i ++ none i))))
    at (u ∷ us) e some = q.1 (inl (p.1 (λ none. let wrong : u ∷ us ≡ [] = e ∙ none in cc wrong)))

-- the text of two lists of paths
pub text_both : (xs ys zs : List Path) → zs ≡ xs ++ ys → missing_text xs ++ missing_text ys ≡ missing_text zs
text_both xs ys zs is = sym (ap missing_text is ∙ text_append path_line xs ys)

pub at_err : {T E P : Type 0} (r : Result T E) (e : E) → r ≡ Err e → OnErr r P → P
at_err (Ok x) e is h = absurd (cc is)
at_err (Err f) e is h = h

-- a `?` returns the fault unchanged
pub is_err : {T E : Type 0} (r : Result T E) (f : E) → IsErrAnd r (λ y. y ≡ f) → r ≡ Err f
is_err (Ok x) f h = absurd h
is_err (Err y) f h = ap Err h
