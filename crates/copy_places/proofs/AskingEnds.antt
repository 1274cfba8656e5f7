-- Requests for the files in which the two trees end, call after call.
use Rattle.std.proofs.Common.{◌≡◌, ◌⊎◌, inl, inr, ℕ, ◌+◌, ◌<◌, ◌≤◌, List, Option, sym, ap, subst, arith}
use Rattle.std.specs.Prelude.{⊤}
use Rattle.std.proofs.lemmas.Bool.{cases_lt}
use Rattle.tlog_tiles.specs.declared.paths.Path.{Path}
use Rattle.tlog_tiles.specs.declared.paths.Path.TheVariants.{Tile}
use Rattle.tlog_shape.specs.Edge.{edge_index_of}
use Rattle.copy_places.specs.Asked.{IsAskedInTurn}
use Rattle.copy_places.specs.AskedEnds.{AsksEnds, IsEndSize, IsKeptInVain}
use Rattle.copy_places.specs.AskedOnce.{AsksMore}
use Rattle.copy_places.specs.EndTiles.{AnswersStay, IsEndTile}
use Rattle.copy_places.specs.PlaceGets.{AsksPlaces}
use Rattle.copy_places.specs.declared.end_tiles.EndTile.{EndTile}
use Rattle.copy_places.specs.declared.end_tiles.EndTiles.{EndTiles}
use Rattle.copy_places.specs.declared.places.Places.{Places}
use Rattle.copy_places.proofs.Asking.{asks_same, asks_then, asks_weaker, turn_of, turn_one}
use Rattle.copy_places.proofs.AskingOnce.{more_same, more_then}
use Rattle.copy_places.proofs.KeptAnswers.{answer_later, answers_same, answers_then}

pub tile_end : (sizes : ℕ × ℕ) (n level width : ℕ) → level ≤ 7 → (n ≡ sizes.0) ⊎ (n ≡ sizes.1) →
    IsEndTile sizes (Tile level (edge_index_of n level) width)
tile_end sizes n level width low (inl is) = (low, inl (ap (λ m. edge_index_of m level) is))
tile_end sizes n level width low (inr is) = (low, inr (ap (λ m. edge_index_of m level) is))

module _ {S : Type 0} (may : S → Path → Option (List ℕ) → Type 0) (failed : S → ℕ) (asked : S → Option (List Path)) where
  abbrev Ends : Places S → Places S → Type 0
  Ends x y = AsksEnds may failed asked x y

  pub ends_same : (x : Places S) → Ends x x
  ends_same x = record {
    asks = asks_same may failed asked (λ path. ⊤) x;
    more = more_same asked x;
    stay = answers_same x.ends.tiles.items;
  }

  pub ends_then : (x y z : Places S) → Ends x y → Ends y z → Ends x z
  ends_then x y z p q = record {
    asks = asks_then may failed asked (λ path. ⊤) x y z p.asks q.asks;
    more = more_then asked x y z p.more q.more;
    stay = answers_then x.ends.tiles.items y.ends.tiles.items z.ends.tiles.items p.stay q.stay;
  }

  pub ends_of : (so : Path → Type 0) (x y : Places S) → AsksPlaces may failed asked so x y → AsksMore asked x y →
      AnswersStay x.ends.tiles.items y.ends.tiles.items → Ends x y
  ends_of so x y asks more stay = record {
    asks = asks_weaker may failed asked so (λ path. ⊤) (λ path h. tt) x y asks;
    more = more;
    stay = stay;
  }

  -- a wrong file was recorded
  pub ends_noted : (x y : Places S) → AsksPlaces may failed asked (λ path. ⊥) x y → AsksMore asked x y → y.ends ≡ x.ends → Ends x y
  ends_noted x y asks more is =
      ends_of (λ path. ⊥) x y asks more
      (subst (λ (e : EndTiles). AnswersStay x.ends.tiles.items e.tiles.items) (sym is) (answers_same x.ends.tiles.items))

  pub still_size : (x y : Places S) → Ends x y → (n : ℕ) → IsEndSize x n → IsEndSize y n
  still_size x y p n h = subst (λ (sizes : ℕ × ℕ). (n ≡ sizes.0) ⊎ (n ≡ sizes.1)) (sym p.asks.still.sizes_are) h

-- ---- answers in vain

pub kept_later : (x y : List EndTile) → AnswersStay x y → (k : ℕ) (path : Path) (good : List ℕ → Type 0) →
    IsKeptInVain x k path good → IsKeptInVain y k path good
kept_later x y stay k path good h = record {
  answer = h.answer;
  kept = answer_later x y stay k path h.answer h.kept;
  vain = h.vain;
}

-- one more place
pub vain_turn : (x y : List EndTile) → AnswersStay x y → (first turn index : ℕ) → IsAskedInTurn first turn index → (path : Path)
    (good : List ℕ → Type 0) → ((t k : ℕ) → t < turn → IsAskedInTurn first t k → IsKeptInVain x k path good) →
    IsKeptInVain y index path good → (t k : ℕ) → t < turn + 1 → IsAskedInTurn first t k → IsKeptInVain y k path good
vain_turn x y stay first turn index this path good each vain t k lt is = elim (cases_lt t turn) [
  | inl less ↦ kept_later x y stay k path good (each t k less is)
  | inr more ↦
      let same : t ≡ turn = omega (arith, lt, more) in
      let at : index ≡ k = turn_one first turn index k this (subst (λ u. IsAskedInTurn first u k) same is) in
      subst (λ j. IsKeptInVain y j path good) at vain
]

-- all places
pub vain_all : (tiles : List EndTile) (n first turn : ℕ) (path : Path) (good : List ℕ → Type 0) → (0 < n → first < n) → n ≤ turn →
    ((t k : ℕ) → t < turn → IsAskedInTurn first t k → IsKeptInVain tiles k path good) →
    (k : ℕ) → k < n → IsKeptInVain tiles k path good
vain_all tiles n first turn path good within past each k lt =
    let at = turn_of first k n lt (within (omega (arith, lt))) in
    let before = at.1 in
    each at.0 k (omega (arith, before, past)) at.2
