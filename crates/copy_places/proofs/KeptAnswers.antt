-- An answer is put where none was kept. The others stay.
use Rattle.std.proofs.Common.{◌≡◌, ◌≢◌, ◌⊎◌, inl, inr, ℕ, ◌<◌, List, [], ◌∷◌, ◌++◌, length, length-append, get_or, Option, None, Some, refl, sym, subst, ap, ◌∙◌, arith}
use Rattle.std.specs.Prelude.{IfSome, option_map}
use Rattle.std.proofs.Math.ListN.{get_or-append, set}
use Rattle.std.proofs.Math.Seq.{get_or-append_seam}
use Rattle.std.proofs.lemmas.Bool.{cases_lt, cases_order}
use Rattle.std.proofs.lemmas.List.{get_or_default, length-set, get_or-set_same, get_or-set_other}
use Rattle.tlog_tiles.specs.declared.paths.Path.{Path}
use Rattle.copy_places.specs.declared.end_tiles.EndTile.{EndTile}
use Rattle.copy_places.specs.declared.end_tiles.EndTiles.{EndTiles}
use Rattle.copy_places.specs.declared.place.PlaceAnswer.{PlaceAnswer}
use Rattle.copy_places.specs.EndTiles.{AnswersStay, HasNewAt, HasNoNew, IsEmpty, IsHeard, IsKeptAnswer, IsTileOf, KeepsAnswers, OthersStay, said}

module _ (tiles : List EndTile) (i : ℕ) (old new : EndTile) (lt : i < length tiles) (is : old ≡ get_or tiles i old)
    (place : new.place ≡ old.place) (path_is : new.path ≡ old.path) where
  -- the new tile has the old place and path
  same_tile : (k : ℕ) (path : Path) (at : ℕ) (d : EndTile) →
      ((get_or tiles at d).place ≡ k) × ((get_or tiles at d).path ≡ path) →
      ((get_or (set tiles i new) at d).place ≡ k) × ((get_or (set tiles i new) at d).path ≡ path)
  same_tile k path at d h = elim (cases_order at i) [
    | inl e ↦
        let was : get_or tiles at d ≡ old = ap (λ j. get_or tiles j d) e ∙ sym (is ∙ get_or_default tiles i old d lt) in
        let now : get_or (set tiles i new) at d ≡ new = ap (λ j. get_or (set tiles i new) j d) e ∙ get_or-set_same tiles i new d lt in (
          ap (λ (t : EndTile). t.place) now ∙ (place ∙ (sym (ap (λ (t : EndTile). t.place) was) ∙ h.0)),
          ap (λ (t : EndTile). t.path) now ∙ (path_is ∙ (sym (ap (λ (t : EndTile). t.path) was) ∙ h.1)),
        )
    | inr o ↦
        let ne : at ≢ i = λ e. elim o [ inl less ↦ absurd (omega arith) | inr more ↦ absurd (omega arith) ] in
        subst (λ (t : EndTile). (t.place ≡ k) × (t.path ≡ path)) (sym (get_or-set_other tiles i at new d ne)) h
  ]

  still_heard : (k : ℕ) (path : Path) → IsHeard tiles k path → IsHeard (set tiles i new) k path
  still_heard k path h = record {
    at = h.at;
    listed = let long = length-set tiles i new in let was = h.listed in omega (arith, long, was);
    is = λ d. same_tile k path h.at d (h.is d);
  }

  still_kept : IsEmpty tiles i → (k : ℕ) (path : Path) (answer : PlaceAnswer) → said answer ≢ None →
      IsKeptAnswer tiles k path answer → IsKeptAnswer (set tiles i new) k path answer
  still_kept empty k path answer some h =
      let ne : h.at ≢ i = λ e. absurd (cc (sym (h.says new)
      ∙ subst (λ j. option_map said (get_or tiles j new).answer ≡ None) (sym e) (ap (λ a. option_map said a) (empty new)))) in
      record {
        at = h.at;
        tile = record {
          listed = let long = length-set tiles i new in let was = h.tile.listed in omega (arith, long, was);
          is = λ d. same_tile k path h.at d (h.tile.is d);
        };
        says = λ d. subst (λ (t : EndTile). option_map said t.answer ≡ Some (said answer)) (sym (get_or-set_other tiles i h.at new d ne))
            (h.says d);
      }

  -- what is kept in the end was kept before, or is the new answer
  pub kept_set : (k : ℕ) (path : Path) (answer : PlaceAnswer) → IsKeptAnswer (set tiles i new) k path answer →
      IsKeptAnswer tiles k path answer ⊎ (IsTileOf tiles k path i × (option_map said new.answer ≡ Some (said answer)))
  kept_set k path answer h = elim (cases_order h.at i) [
    | inl e ↦
        let now : (d : EndTile) → get_or (set tiles i new) h.at d ≡ new =
        λ d. ap (λ j. get_or (set tiles i new) j d) e ∙ get_or-set_same tiles i new d lt in
        let was : (d : EndTile) → get_or tiles i d ≡ old = λ d. sym (is ∙ get_or_default tiles i old d lt) in
        inr (
          record {
            listed = lt;
            is = λ d. (
              ap (λ (t : EndTile). t.place) (was d) ∙ (sym place ∙ (sym (ap (λ (t : EndTile). t.place) (now d)) ∙ (h.tile.is d).0)),
              ap (λ (t : EndTile). t.path) (was d) ∙ (sym path_is ∙ (sym (ap (λ (t : EndTile). t.path) (now d)) ∙ (h.tile.is d).1)),
            );
          },
          sym (ap (λ (t : EndTile). option_map said t.answer) (now new)) ∙ h.says new,
        )
    | inr o ↦
        let ne : h.at ≢ i = λ e. elim o [ inl less ↦ absurd (omega arith) | inr more ↦ absurd (omega arith) ] in
        inl (record {
          at = h.at;
          tile = record {
            listed = let long = length-set tiles i new in let was = h.tile.listed in omega (arith, long, was);
            is = λ d. subst (λ (t : EndTile). (t.place ≡ k) × (t.path ≡ path)) (get_or-set_other tiles i h.at new d ne) (h.tile.is d);
          };
          says = λ d. subst (λ (t : EndTile). option_map said t.answer ≡ Some (said answer)) (get_or-set_other tiles i h.at new d ne)
              (h.says d);
        })
  ]

pub set_new : (tiles : List EndTile) (i : ℕ) (old new : EndTile) (copy given : PlaceAnswer) → i < length tiles →
    old ≡ get_or tiles i old → new.place ≡ old.place → new.path ≡ old.path → new.answer ≡ Some copy → said copy ≡ said given →
    HasNewAt (Some i) given tiles (set tiles i new)
set_new tiles i old new copy given lt is place path_is put same k path answer h =
    elim (kept_set tiles i old new lt is place path_is k path answer h) [
      | inl before ↦ inl before
      | inr at ↦
          let said_is : Some (said copy) ≡ Some (said answer) = sym (ap (λ a. option_map said a) put) ∙ at.1 in
          let one : said copy ≡ said answer = cc said_is in
          inr (i, refl, at.0, sym one ∙ same)
    ]

-- nothing is kept by a tile without an answer after the others
pub noted_old : (tiles : List EndTile) (tile : EndTile) → tile.answer ≡ None → HasNoNew tiles (tiles ++ tile ∷ [])
noted_old tiles tile none k path answer h = elim (cases_lt h.at (length tiles)) [
  | inl lt ↦
      let same : (d : EndTile) → get_or (tiles ++ tile ∷ []) h.at d ≡ get_or tiles h.at d = λ d. get_or-append tiles (tile ∷ []) d h.at lt in
      record {
        at = h.at;
        tile = record { listed = lt; is = λ d. subst (λ (t : EndTile). (t.place ≡ k) × (t.path ≡ path)) (same d) (h.tile.is d) };
        says = λ d. subst (λ (t : EndTile). option_map said t.answer ≡ Some (said answer)) (same d) (h.says d);
      }
  | inr past ↦
      let long = length-append tiles (tile ∷ []) in
      let listed = h.tile.listed in
      let last : h.at ≡ length tiles = omega (arith, past, long, listed) in
      let is : get_or (tiles ++ tile ∷ []) h.at tile ≡ tile =
      ap (λ j. get_or (tiles ++ tile ∷ []) j tile) last ∙ get_or-append_seam tiles tile [] tile in
      absurd (cc (sym (h.says tile) ∙ (ap (λ (t : EndTile). option_map said t.answer) is ∙ ap (λ a. option_map said a) none)))
]

pub set_keeps : (x y : EndTiles) (i : ℕ) (old new : EndTile) → i < length x.tiles.items → y.sizes ≡ x.sizes →
    y.tiles.items ≡ set x.tiles.items i new → new.place ≡ old.place → new.path ≡ old.path →
    old ≡ get_or x.tiles.items i old → IsEmpty x.tiles.items i → KeepsAnswers x y
set_keeps x y i old new lt sizes tiles place path is empty = record {
  sizes_are = sizes;
  heard = λ k p h. subst (λ (ts : List EndTile). IsHeard ts k p) (sym tiles) (still_heard x.tiles.items i old new lt is place path k p h);
  answers = λ k p answer some h. subst (λ (ts : List EndTile). IsKeptAnswer ts k p answer) (sym tiles)
      (still_kept x.tiles.items i old new lt is place path empty k p answer some h);
}

-- ---- the others stay

pub answers_same : (tiles : List EndTile) → AnswersStay tiles tiles
answers_same tiles = record { more = omega arith; same = λ at lt d. refl }

pub answers_then : (x y z : List EndTile) → AnswersStay x y → AnswersStay y z → AnswersStay x z
answers_then x y z p q =
    let first = p.more in
    let second = q.more in
    record {
      more = omega (arith, first, second);
      same = λ at lt d. q.same at (omega (arith, lt, first)) d ∙ p.same at lt d;
    }

-- an answer that was kept is kept
pub answer_later : (x y : List EndTile) → AnswersStay x y → (k : ℕ) (path : Path) (answer : PlaceAnswer) →
    IsKeptAnswer x k path answer → IsKeptAnswer y k path answer
answer_later x y stay k path answer h =
    let lt = h.tile.listed in
    let more = stay.more in
    record {
      at = h.at;
      tile = record {
        listed = omega (arith, lt, more);
        is = λ d. subst (λ (t : EndTile). (t.place ≡ k) × (t.path ≡ path)) (sym (stay.same h.at lt d)) (h.tile.is d);
      };
      says = λ d. ap (λ (t : EndTile). option_map said t.answer) (stay.same h.at lt d) ∙ h.says d;
    }

pub others_set : (tiles : List EndTile) (i : ℕ) (tile : EndTile) → OthersStay (Some i) tiles (set tiles i tile)
others_set tiles i tile =
    let long = length-set tiles i tile in
    record {
      more = omega (arith, long);
      same = λ at ne lt d. get_or-set_other tiles i at tile d (λ e. ne (ap Some (sym e)));
    }

-- an answer was noted after the others, and was put there
pub answers_put : (but : Option ℕ) (x y z : List EndTile) → AnswersStay x y → IfSome but (λ i. i ≡ length x) →
    OthersStay but y z → AnswersStay x z
answers_put but x y z p last q =
    let first = p.more in
    let second = q.more in
    record {
      more = omega (arith, first, second);
      same = λ at lt d. q.same at (other but last at lt) (omega (arith, lt, first)) d ∙ p.same at lt d;
    }
  where
    other : (but : Option ℕ) → IfSome but (λ i. i ≡ length x) → (at : ℕ) → at < length x → but ≢ Some at
    other None last at lt e = absurd (cc e)
    other (Some i) last at lt e = let same : i ≡ at = cc e in omega (arith, lt, last, same)
