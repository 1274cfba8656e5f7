-- The edge rows that the kept answers of places give, and pairs of places that have no mix.
use Rattle.std.proofs.Common.{◌≡◌, inl, inr, ℕ, ◌+◌, ◌<◌, ◌≤◌, List, [], ◌∷◌, ◌++◌, length, get_or, Option, Some, None, Vec, Global}
use Rattle.std.proofs.Common.{Result, Ok, Err, subst, arith}
use Rattle.std.specs.Prelude.{IfNone, IfOk, IfSome, option_map}
use Rattle.std.proofs.lemmas.Bool.{cases_order}
use Rattle.tlog_tiles.specs.declared.paths.Path.{Path}
use Rattle.tlog_tiles.specs.Row.{IsRow}
use Rattle.log_reader.specs.EdgeRows.{row_at}
use Rattle.mirror_sources.specs.Files.{full_of}
use Rattle.copy_places.specs.Asked.{IsAskedInTurn}
use Rattle.copy_places.specs.EndTiles.{AnswersStay, said}
use Rattle.copy_places.specs.FoundRows.{IsRowIn}
use Rattle.copy_places.specs.KeptRows.{AreKeptRows, IsKeptCut, IsKeptRow, IsKeptTile, IsOfSaid, LackMix}
use Rattle.copy_places.specs.Mixes.{HaveNoMix, IsOfEither, given_at}
use Rattle.copy_places.specs.declared.end_tiles.EndTile.{EndTile}
use Rattle.copy_places.specs.declared.mix.GivenRows.{GivenRows}
use Rattle.copy_places.proofs.Asking.{turn_of}
use Rattle.copy_places.proofs.FoundRows.{row_weaker}
use Rattle.copy_places.proofs.KeptAnswers.{answer_later}
use Rattle.copy_places.proofs.Mixing.{items_more}

-- ---- one place

-- the row that was read from the bytes
pub row_in : (width : ℕ) (bytes : List ℕ) (row : Option (Vec (List ℕ) Global)) →
    IfSome row (λ r. IsRow width bytes r.items) → IfNone row ((r : List (List ℕ)) → IsRow width bytes r → ⊥) →
    IsRowIn width (Some bytes) (option_map (λ r. r.items) row)
row_in width bytes None some none = none
row_in width bytes (Some row) some none = some

-- ---- later answers

module _ (x y : List EndTile) (stay : AnswersStay x y) (k : ℕ) where
  module _ (path : Path) (found : Option (List ℕ)) where
    cut_later : IsKeptCut x k path found → IsKeptCut y k path found
    cut_later h = record {
      answer = h.answer;
      kept = answer_later x y stay k (full_of path) h.answer h.kept;
      gives = h.gives;
    }

    said_later : (s : Option (Option (List ℕ))) → IsOfSaid x k path s found → IsOfSaid y k path s found
    said_later None h = h
    said_later (Some None) h = cut_later h
    said_later (Some (Some bytes)) h = h

    tile_later : IsKeptTile x k path found → IsKeptTile y k path found
    tile_later h = record {
      answer = h.answer;
      kept = answer_later x y stay k path h.answer h.kept;
      gives = said_later (said h.answer) h.gives;
    }

  pub row_later : (n level : ℕ) (row : Option (List (List ℕ))) → IsKeptRow x k n level row → IsKeptRow y k n level row
  row_later n level row h = row_weaker (IsKeptTile x k) (IsKeptTile y k) (λ path found tile. tile_later path found tile) n level row h

  pub rows_later : (n : ℕ) (given : GivenRows) → AreKeptRows x k n given → AreKeptRows y k n given
  rows_later n given h = record { each = λ level low. row_later n level (given_at given level) (h.each level low) }

-- ---- the places in turn

module _ (n : ℕ) where
  -- the rows are those that the kept answers of the places give, turn by turn
  abbrev pub AreOfTurns : List EndTile → ℕ → ℕ → List GivenRows → Type 0
  AreOfTurns tiles first turn given =
      (t : ℕ) (d : GivenRows) → t < turn → (k : ℕ) → IsAskedInTurn first t k → AreKeptRows tiles k n (get_or given t d)

  -- one more place
  pub turns_more : (x y : List EndTile) → AnswersStay x y → (first turn index : ℕ) →
      ((k : ℕ) → IsAskedInTurn first turn k → index ≡ k) → (given more : List GivenRows) (rows : GivenRows) →
      more ≡ given ++ rows ∷ [] → length given ≡ turn → AreOfTurns x first turn given → AreKeptRows y index n rows →
      AreOfTurns y first (turn + 1) more
  turns_more x y stay first turn index this given more rows is long each one =
      items_more (λ t g. (k : ℕ) → IsAskedInTurn first t k → AreKeptRows y k n g) given more rows turn is long
      (λ t d lt k at. rows_later x y stay k n (get_or given t d) (each t d lt k at))
      (λ k at. subst (λ i. AreKeptRows y i n rows) (this k at) one)

module _ (digest : List ℕ → List ℕ) (n : ℕ) (root : List ℕ) where
  either_swap : (first second : GivenRows) (level : ℕ) (row : List (List ℕ)) → IsOfEither second first level row →
      IsOfEither first second level row
  either_swap first second level row (inl is) = inr is
  either_swap first second level row (inr is) = inl is

  mix_swap : (first second : GivenRows) → HaveNoMix digest n root first second → HaveNoMix digest n root second first
  mix_swap first second h = record {
    none = λ edge size_is widths mix is.
        h.none edge size_is widths
        (λ level low. either_swap first second level (row_at edge level) (mix level low)) is;
  }

  some_item : (given : List GivenRows) → 0 < length given → GivenRows
  some_item [] lt = absurd (omega (arith, lt))
  some_item (rows ∷ given) lt = rows

  -- no two places have a mix
  pub lack_mixes : (tiles : List EndTile) (count first turn : ℕ) (given : List GivenRows) → (0 < count → first < count) →
      count ≤ turn → length given ≡ turn → AreOfTurns n tiles first turn given →
      ((t : ℕ) (d : GivenRows) → t < turn → HaveNoMix digest n root (get_or given t d) (get_or given t d)) →
      ((s t : ℕ) (d : GivenRows) → s < t → t < length given → HaveNoMix digest n root (get_or given s d) (get_or given t d)) →
      (i j : ℕ) → i < count → j < count → LackMix digest n root tiles i j
  lack_mixes tiles count first turn given within past long each alone pairs i j i_lt j_lt =
      let a = turn_of first i count i_lt (within (omega (arith, i_lt))) in
      let b = turn_of first j count j_lt (within (omega (arith, j_lt))) in
      let a_lt = a.1 in
      let b_lt = b.1 in
      let d = some_item given (omega (arith, i_lt, past, long)) in
      let s = a.0 in
      let t = b.0 in
      let s_lt : s < turn = omega (arith, a_lt, past) in
      let t_lt : t < turn = omega (arith, b_lt, past) in
      record {
        first = get_or given s d;
        second = get_or given t d;
        first_are = each s d s_lt i a.2;
        second_are = each t d t_lt j b.2;
        none = elim (cases_order s t) [
          | inl same ↦ subst (λ u. HaveNoMix digest n root (get_or given s d) (get_or given u d)) same (alone s d s_lt)
          | inr (inl less) ↦ pairs s t d less (omega (arith, t_lt, long))
          | inr (inr more) ↦ mix_swap (get_or given t d) (get_or given s d) (pairs t s d more (omega (arith, s_lt, long)))
        ];
      }

pub ok_none_weaker : {T E : Type 0} (r : Result (Option T) E) (P Q : Type 0) → (P → Q) → IfOk r (λ o. IfNone o P) →
    IfOk r (λ o. IfNone o Q)
ok_none_weaker (Ok None) P Q f h = f h
ok_none_weaker (Ok (Some x)) P Q f h = tt
ok_none_weaker (Err e) P Q f h = tt
