-- The rows that a place gave for an edge.
use Rattle.std.proofs.Common.{◌≡◌, inl, inr, ℕ, ◌*◌, ◌^◌, ◌<◌, ◌≤◌, List, [], ◌∷◌, length, get_or, All, Option, Some, None, Vec, Global}
use Rattle.std.proofs.Common.{refl, sym, ap, subst, ◌∙◌, arith, zero-add}
use Rattle.std.specs.Prelude.{IfSome, option_map}
use Rattle.std.proofs.lemmas.List.{get_or_default}
use Rattle.std.proofs.lemmas.List.Elements.{All-append, All-cons, All-nil}
use Rattle.tlog_shape.specs.Edge.{edge_index_of, width_of}
use Rattle.tlog_hash.specs.Rows.{level_row}
use Rattle.tlog_tiles.specs.declared.paths.Path.{Path}
use Rattle.log_reader.proofs.NodeHashes.{row_count}
use Rattle.log_reader.specs.EdgeRows.{Edge, LeadsTo, row_at}
use Rattle.copy_places.specs.Giving.{IsEdgeFrom, IsRowFrom, MayGive}
use Rattle.copy_places.specs.GivenFrom.{AddsRows, AreRowsFrom}
use Rattle.copy_places.specs.Mixes.{HaveNoMix, HaveWidths, IsMixAmong, IsMixOf, IsOfEither, given_at}
use Rattle.copy_places.specs.PlaceGets.{AsksPlaces}
use Rattle.copy_places.specs.TrueAnswers.{IsRootOf}
use Rattle.copy_places.specs.TruePlaces.{IsTruePlace}
use Rattle.copy_places.specs.declared.mix.GivenRows.{GivenRows}
use Rattle.copy_places.specs.declared.place.Place.{Place}
use Rattle.copy_places.specs.declared.places.Places.{Places}
use Rattle.copy_places.proofs.Giving.{given_before, row_weaker}
use Rattle.copy_places.proofs.Mixing.{table, table_get}
use Rattle.copy_places.proofs.TrueAnswers.{edge_leads, some_weaker}

-- ---- where the rows come from

module _ (take : Path → List ℕ → Type 0) (n : ℕ) where
  pub from_widths : (given : GivenRows) → AreRowsFrom take n given → HaveWidths n given
  from_widths given from level low =
      some_weaker (given_at given level) (IsRowFrom take n level) (λ row. length row ≡ width_of n level)
      (λ row h. h.is_row.count) (from level low)

  row_from : (given : GivenRows) → AreRowsFrom take n given → (level : ℕ) (row : List (List ℕ)) → level ≤ 7 →
      given_at given level ≡ Some row → IsRowFrom take n level row
  row_from given from level row low is =
      let there : IfSome (Some row) (IsRowFrom take n level) =
      subst (λ o. IfSome o (IsRowFrom take n level)) is (from level low) in there

  either_from : (first second : GivenRows) → AreRowsFrom take n first → AreRowsFrom take n second → (level : ℕ)
      (row : List (List ℕ)) → level ≤ 7 → IsOfEither first second level row → IsRowFrom take n level row
  either_from first second one two level row low (inl is) = row_from first one level row low is
  either_from first second one two level row low (inr is) = row_from second two level row low is

  -- a mix of such rows
  pub mix_from : (digest : List ℕ → List ℕ) (root : List ℕ) (first second : GivenRows) (edge : Edge) → AreRowsFrom take n first →
      AreRowsFrom take n second → LeadsTo digest n root edge → IsMixOf first second edge → IsEdgeFrom take n edge
  mix_from digest root first second edge one two leads mix = record {
    size_is = leads.is_edge.size_is;
    rows_are = λ level low. either_from first second one two level (row_at edge level) low (mix level low);
  }

  some_given : (given : List GivenRows) (i : ℕ) → i < length given → GivenRows
  some_given [] i lt = absurd (omega (arith, lt))
  some_given (rows ∷ given) i lt = rows

  pub among_from : (digest : List ℕ → List ℕ) (root : List ℕ) (given : List GivenRows) (edge : Edge) →
      All (AreRowsFrom take n) given → LeadsTo digest n root edge → IsMixAmong given edge → IsEdgeFrom take n edge
  among_from digest root given edge all leads m =
      let d = some_given given m.i m.i_listed in
      mix_from digest root (get_or given m.i d) (get_or given m.j d) edge (all m.i d m.i_listed) (all m.j d m.j_listed) leads
      (m.mix d)

  pub all_widths : (given : List GivenRows) → All (AreRowsFrom take n) given → All (HaveWidths n) given
  all_widths given all i d lt = from_widths (get_or given i d) (all i d lt)

  pub added_from : (old new : List GivenRows) → All (AreRowsFrom take n) old → AddsRows take n old new → All (AreRowsFrom take n) new
  added_from old new all adds =
      subst (All (AreRowsFrom take n)) (sym adds.new_is)
      (All-append (AreRowsFrom take n) old (adds.given ∷ []) all
      (All-cons (AreRowsFrom take n) adds.given [] adds.from (All-nil (AreRowsFrom take n))))

-- the same bytes might have been taken before
pub rows_weaker : (take also : Path → List ℕ → Type 0) → ((path : Path) (bytes : List ℕ) → take path bytes → also path bytes) →
    (n : ℕ) (given : GivenRows) → AreRowsFrom take n given → AreRowsFrom also n given
rows_weaker take also f n given from level low =
    some_weaker (given_at given level) (IsRowFrom take n level) (IsRowFrom also n level)
    (λ row h. row_weaker take also f n level row h) (from level low)

pub adds_weaker : (take also : Path → List ℕ → Type 0) → ((path : Path) (bytes : List ℕ) → take path bytes → also path bytes) →
    (n : ℕ) (old new : List GivenRows) → AddsRows take n old new → AddsRows also n old new
adds_weaker take also f n old new adds =
    record { given = adds.given; from = rows_weaker take also f n adds.given adds.from; new_is = adds.new_is }

-- ---- true rows

-- the true rows of each level are a mix that leads to the root
pub true_mix : (digest : List ℕ → List ℕ) (entries : List (List ℕ)) (n : ℕ) (root : List ℕ) → n < 2 ^ 64 →
    (first second : GivenRows) → ((level : ℕ) → level ≤ 7 → IsOfEither first second level
    (level_row digest entries level (256 * edge_index_of n level) (width_of n level))) → IsRootOf digest entries n root →
    HaveNoMix digest n root first second → ⊥
true_mix digest entries n root small first second rows r none =
    let f : ℕ → List (List ℕ) = λ level. level_row digest entries level (256 * edge_index_of n level) (width_of n level) in
    let edge : Edge = record { size = n; rows = table f 0 8 } in
    let at : (level : ℕ) → level ≤ 7 → row_at edge level ≡ f level =
    λ level low. table_get f 0 8 level (omega (arith, low)) ∙ ap f (zero-add level) in
    none.none edge refl
    (λ level low. ap length (at level low)
    ∙ row_count digest entries level (256 * edge_index_of n level) (width_of n level))
    (λ level low. subst (IsOfEither first second level) (sym (at level low)) (rows level low))
    (edge_leads digest entries n root small edge refl at r)

-- ---- a place that does not fail

module _ {S : Type 0} (may : S → Path → Option (List ℕ) → Type 0) (failed : S → ℕ) (asked : S → Option (List Path)) where
  pub still_failures : (digest : List ℕ → List ℕ) (entries : List (List ℕ)) (so also : Path → Type 0) (x y z : Places S) →
      AsksPlaces may failed asked so x y → AsksPlaces may failed asked also y z → (index : ℕ) →
      IsTruePlace digest entries may x z index → (n : ℕ) → ((d : Place S) → (get_or x.list.items index d).failures ≡ n) →
      (d : Place S) → (get_or y.list.items index d).failures ≡ n
  still_failures digest entries so also x y z p q index t n before d =
      let first = (p.each index t.none).more in
      let second = (q.each index t.none).more in
      let same = t.answers in
      let was = before t.none in
      let lt = t.listed in
      let here : index < length y.list.items = omega (arith, lt, p.count) in
      ap (λ (a : Place S). a.failures) (get_or_default y.list.items index d t.none here)
      ∙ (let e : (get_or y.list.items index t.none).failures ≡ n = omega (arith, first, second, same, was) in e)

  pub one_failures : (x : Places S) (index : ℕ) (place : Place S) → index < length x.list.items →
      place ≡ get_or x.list.items index place → (d : Place S) → (get_or x.list.items index d).failures ≡ place.failures
  one_failures x index place lt is d =
      ap (λ (a : Place S). a.failures) (sym (is ∙ get_or_default x.list.items index place d lt))

  -- a row that may be taken now might have been taken before
  pub before_taken : (so : Path → Type 0) (x y : Places S) → AsksPlaces may failed asked so x y → (n level : ℕ)
      (row : Option (Vec (List ℕ) Global)) → IfSome row (λ r. IsRowFrom (MayGive may y) n level r.items) →
      IfSome (option_map (λ r. r.items) row) (IsRowFrom (MayGive may x) n level)
  before_taken so x y p n level None h = tt
  before_taken so x y p n level (Some row) h =
      row_weaker (MayGive may y) (MayGive may x)
      (λ path bytes given. given_before may failed asked so x y path bytes p given) n level row.items h

pub some_mapped : (row : Option (Vec (List ℕ) Global)) (P : List (List ℕ) → Type 0) → IfSome row (λ r. P r.items) →
    IfSome (option_map (λ r. r.items) row) P
some_mapped None P h = tt
some_mapped (Some row) P h = h
