-- A get whose answer may be kept.
use Rattle.std.proofs.Common.{◌≡◌, inl, inr, ℕ, ◌<◌, ◌≤◌, List, [], ◌∷◌, length, get_or, Option, refl, sym, subst, ◌∙◌, arith}
use Rattle.std.specs.Prelude.{IfSome}
use Rattle.tlog_tiles.specs.declared.paths.Path.{Path}
use Rattle.copy_places.specs.AskedOnce.{AsksEachOnce, AsksOnce, IsAtPlace}
use Rattle.copy_places.specs.EndTiles.{HasNewAt, HasNoNew, IsEndTile, IsHeard, IsKeptAnswer, IsTileOf, KeepsAnswers, said}
use Rattle.copy_places.specs.PlaceGets.{AnswersGet, AsksPlaces, IsSaidBy}
use Rattle.copy_places.specs.declared.end_tiles.EndTile.{EndTile}
use Rattle.copy_places.specs.declared.end_tiles.EndTiles.{EndTiles}
use Rattle.copy_places.specs.declared.place.Place.{Place}
use Rattle.copy_places.specs.declared.place.PlaceAnswer.{PlaceAnswer}
use Rattle.copy_places.specs.declared.place.PlaceAnswer.TheVariants.{File, NotFound, Failed}
use Rattle.copy_places.specs.declared.places.Places.{Places}
use Rattle.copy_places.proofs.Asking.{answers_none, asks_listed, asks_then, still_is, still_then}
use Rattle.copy_places.proofs.AskingOnce.{once_got, once_listed}

module _ {S : Type 0} (may : S → Path → Option (List ℕ) → Type 0) (failed : S → ℕ) (asked : S → Option (List Path)) where
  -- the same places, with other answers kept
  abbrev pub with_ends : Places S → EndTiles → Places S
  with_ends x ends = record {
    list = x.list;
    verified_last = x.verified_last;
    has_failed = x.has_failed;
    lacked = x.lacked;
    first_lacked = x.first_lacked;
    ends = ends;
    tried = x.tried;
  }

  -- the request was recorded, but not made
  pub noted_asks : (so : Path → Type 0) (x : Places S) (e : EndTiles) → KeepsAnswers x.ends e →
      HasNoNew x.ends.tiles.items e.tiles.items → AsksPlaces may failed asked so x (with_ends x e)
  noted_asks so x e still none =
      asks_listed may failed asked so x (with_ends x e) refl refl still (answers_none may failed asked x (with_ends x e) none)

  pub noted_once : (so : ℕ → Path → Type 0) (x : Places S) (e : EndTiles) → KeepsAnswers x.ends e →
      AsksOnce asked so x (with_ends x e)
  noted_once so x e = once_listed asked so x (with_ends x e) refl

  -- the request was recorded, and made
  pub got_asks : (so : Path → Type 0) (x : Places S) (e : EndTiles) (y : Places S) → KeepsAnswers x.ends e →
      HasNoNew x.ends.tiles.items e.tiles.items → AsksPlaces may failed asked so (with_ends x e) y → AsksPlaces may failed asked so x y
  got_asks so x e y still none p = asks_then may failed asked so x (with_ends x e) y (noted_asks so x e still none) p

  -- the answer that was got is one that the place might give
  said_of : (might : Path → Option (List ℕ) → Type 0) (path : Path) (old new : ℕ) → old ≤ new → (given : PlaceAnswer) →
      AnswersGet might path old new given → IsSaidBy might new path (said given)
  said_of might path old new le (File bytes) h = h
  said_of might path old new le NotFound h = h
  said_of might path old new le Failed h = elim h [ inl rose ↦ omega (arith, rose) | inr many ↦ omega (arith, many, le) ]

  some_tile : (tiles : List EndTile) (at : ℕ) → at < length tiles → EndTile
  some_tile [] at lt = absurd (omega (arith, lt))
  some_tile (tile ∷ tiles) at lt = tile

  -- and its answer was kept
  pub kept_asks : (index : ℕ) (path : Path) (x : Places S) (e : EndTiles) (y : Places S) (f : EndTiles) (at : Option ℕ)
      (given : PlaceAnswer) → KeepsAnswers x.ends e → HasNoNew x.ends.tiles.items e.tiles.items →
      IfSome at (IsTileOf e.tiles.items index path) → y.ends ≡ e → AsksPlaces may failed asked (λ p. p ≡ path) (with_ends x e) y →
      ((d : Place S) → AnswersGet (may (get_or x.list.items index d).source) path (get_or x.list.items index d).failures
      (get_or y.list.items index d).failures given) → KeepsAnswers y.ends f → HasNewAt at given y.ends.tiles.items f.tiles.items →
      AsksPlaces may failed asked (λ p. p ≡ path) x (with_ends y f)
  kept_asks index path x e y f at given still none own same p answers more adds =
      let q = got_asks (λ p. p ≡ path) x e y still none p in
      record {
        count = q.count;
        each = q.each;
        kept = q.kept;
        blames = λ has none. let b = q.blames has none in record { index = b.index; none = b.none; rose = b.rose };
        spares = q.spares;
        still = still_then x.ends y.ends f q.still more;
        answered = record {
          each = λ k p answer d h. elim (adds k p answer h) [
            | inl before ↦ inl (none k p answer (subst (λ (t : EndTiles). IsKeptAnswer t.tiles.items k p answer) same before))
            | inr new ↦
                let own_is : IsTileOf e.tiles.items index path new.0 = subst (λ o. IfSome o (IsTileOf e.tiles.items index path)) new.1 own in
                let there : IsTileOf e.tiles.items k p new.0 =
                subst (λ (t : EndTiles). IsTileOf t.tiles.items k p new.0) same new.2 in
                let t = some_tile e.tiles.items new.0 there.listed in
                let k_is : index ≡ k = sym (own_is.is t).0 ∙ (there.is t).0 in
                let p_is : path ≡ p = sym (own_is.is t).1 ∙ (there.is t).1 in
                let got : IsSaidBy (may (get_or x.list.items index d).source) (get_or y.list.items index d).failures path (said given) =
                said_of (may (get_or x.list.items index d).source) path (get_or x.list.items index d).failures
                (get_or y.list.items index d).failures (q.each index d).more given (answers d) in
                inr (subst (λ s. IsSaidBy (may (get_or x.list.items k d).source) (get_or y.list.items k d).failures p s) (sym new.3)
                (subst (λ p. IsSaidBy (may (get_or x.list.items k d).source) (get_or y.list.items k d).failures p (said given)) p_is
                (subst (λ k. IsSaidBy (may (get_or x.list.items k d).source) (get_or y.list.items k d).failures path (said given)) k_is
                got)))
          ];
        };
      }

  pub kept_once : (index : ℕ) (path : Path) (x : Places S) (e : EndTiles) (y : Places S) (f : EndTiles) →
      KeepsAnswers x.ends e → (IsEndTile x.ends.sizes path → IsHeard e.tiles.items index path) → y.ends ≡ e →
      AsksEachOnce asked (IsAtPlace index (λ p. p ≡ path)) (with_ends x e) y → KeepsAnswers y.ends f →
      AsksOnce asked (IsAtPlace index (λ p. p ≡ path)) x (with_ends y f)
  kept_once index path x e y f still heard same p more =
      let after = still_then e y.ends f (still_is e y.ends same) more in
      let all = still_then x.ends e f still after in
      once_got asked index path x (with_ends x e) y (with_ends y f) refl refl all
      (λ end. after.heard index path (heard (subst (λ n. IsEndTile n path) all.sizes_are end))) p

  pub got_once : (index : ℕ) (path : Path) (x : Places S) (e : EndTiles) (y : Places S) → KeepsAnswers x.ends e →
      (IsEndTile x.ends.sizes path → IsHeard e.tiles.items index path) → y.ends ≡ e →
      AsksEachOnce asked (IsAtPlace index (λ p. p ≡ path)) (with_ends x e) y →
      AsksOnce asked (IsAtPlace index (λ p. p ≡ path)) x y
  got_once index path x e y still heard same p = kept_once index path x e y y.ends still heard same p (still_is y.ends y.ends refl)
