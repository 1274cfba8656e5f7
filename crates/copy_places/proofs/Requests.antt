-- The requests to the places of a run, call after call: their failures, and the notes that they may give.
use Rattle.std.proofs.Common.{◌≡◌, inl, inr, ℕ, ◌<◌, List, [], ◌∷◌, length, get_or, Global, Vec, Option, Some, refl, subst, ◌∙◌, arith}
use Rattle.std.proofs.lemmas.Bool.{cases_lt}
use Rattle.tlog_tiles.specs.declared.paths.Path.{Path}
use Rattle.tlog_tiles.specs.declared.paths.Path.TheVariants.{Checkpoint}
use Rattle.copy_places.specs.PlaceGets.{AnswersGet, AsksEach, AsksPlaces}
use Rattle.copy_places.specs.declared.place.Place.{Place}
use Rattle.copy_places.specs.declared.place.PlaceAnswer.{PlaceAnswer}
use Rattle.copy_places.specs.declared.place.PlaceAnswer.TheVariants as answer
use Rattle.copy_places.specs.declared.places.Places.{Places}
use Rattle.copy_places.proofs.Asking.{asked_same, asked_then, asked_weaker}
use Rattle.copy_places.specs.Requests.{AsksAny, MayGiveNote, PlaceFails}
use Rattle.copy_places.specs.Gathering.{IsNote}

module _ {S : Type 0} (may : S → Path → Option (List ℕ) → Type 0) (failed : S → ℕ) (asked : S → Option (List Path)) where
  abbrev Any : Places S → Places S → Type 0
  Any x y = AsksAny may failed asked x y

  abbrev Whatever : Path → Type 0
  Whatever path = Unit {0}

  pub any_same : (x : Places S) → Any x x
  any_same x = record { count = refl; each = λ k d. asked_same may failed asked Whatever (get_or x.list.items k d) }

  pub any_then : (x y z : Places S) → Any x y → Any y z → Any x z
  any_then x y z p q = record {
    count = q.count ∙ p.count;
    each = λ k d. asked_then may failed asked Whatever (get_or x.list.items k d) (get_or y.list.items k d)
        (get_or z.list.items k d) (p.each k d) (q.each k d);
  }

  pub any_weaker : (so : Path → Type 0) (x y : Places S) → AsksEach may failed asked so x y → Any x y
  any_weaker so x y p = record {
    count = p.count;
    each = λ k d. asked_weaker may failed asked so Whatever (λ path h. tt) (get_or x.list.items k d) (get_or y.list.items k d)
        (p.each k d);
  }

  pub any_of : (so : Path → Type 0) (x y : Places S) → AsksPlaces may failed asked so x y → Any x y
  any_of so x y p = any_weaker so x y (record { count = p.count; each = p.each })

  -- a place failed in the second of two calls, so it failed in both together
  pub fails_later : (x y z : Places S) → Any x y → Any y z → PlaceFails y z → PlaceFails x z
  fails_later x y z p q f =
      let m = (p.each f.index f.none).more in
      let n = (q.each f.index f.none).more in
      record {
        index = f.index;
        listed = subst (λ n. f.index < n) p.count f.listed;
        none = f.none;
        failed = elim f.failed [
          | inl rose ↦ inl (omega (arith, m, rose))
          | inr given ↦ elim (cases_lt (get_or x.list.items f.index f.none).failures 8) [
            | inl few ↦ inl (omega (arith, few, given, n))
            | inr many ↦ inr many
          ]
        ];
      }

  pub fails_then : (x y z : Places S) → PlaceFails x y → Any y z → PlaceFails x z
  fails_then x y z f q =
      let n = (q.each f.index f.none).more in
      record {
        index = f.index;
        listed = f.listed;
        none = f.none;
        failed = elim f.failed [
          | inl rose ↦ inl (omega (arith, rose, n))
          | inr given ↦ inr given
        ];
      }

  -- a note that a place may give now is one that it might have given before
  pub gives_before : (x y : Places S) (note : List ℕ) → Any x y → MayGiveNote may y note → MayGiveNote may x note
  gives_before x y note p g = record {
    index = g.index;
    listed = subst (λ n. g.index < n) p.count g.listed;
    gives = λ d. (p.each g.index d).later.stays Checkpoint (Some note) (g.gives d);
  }

  -- ---- the answer of one place

  some_place : (list : List (Place S)) (i : ℕ) → i < length list → Place S
  some_place [] i lt = absurd (omega (arith, lt))
  some_place (p ∷ list) i lt = p

  abbrev Answers : Places S → Places S → ℕ → PlaceAnswer → Type 0
  Answers x y i a = (d : Place S) → AnswersGet (may (get_or x.list.items i d).source) Checkpoint
      (get_or x.list.items i d).failures (get_or y.list.items i d).failures a

  pub answer_fails : (x y : Places S) (i : ℕ) (a : PlaceAnswer) → i < length x.list.items → Answers x y i a →
      a ≡ answer.Failed → PlaceFails x y
  answer_fails x y i a lt h is =
      let d = some_place x.list.items i lt in
      record {
        index = i;
        listed = lt;
        none = d;
        failed = subst (λ b. AnswersGet (may (get_or x.list.items i d).source) Checkpoint
            (get_or x.list.items i d).failures (get_or y.list.items i d).failures b) is (h d);
      }

  pub answer_gives : (x y : Places S) (i : ℕ) (a : PlaceAnswer) (bytes : Vec ℕ Global) (note : List ℕ) →
      i < length x.list.items → Answers x y i a → a ≡ answer.File bytes → bytes.items ≡ note → MayGiveNote may x note
  answer_gives x y i a bytes note lt h is same = record {
    index = i;
    listed = lt;
    gives = λ d. subst (λ n. may (get_or x.list.items i d).source Checkpoint (Some n)) same
        (subst (λ b. AnswersGet (may (get_or x.list.items i d).source) Checkpoint
        (get_or x.list.items i d).failures (get_or y.list.items i d).failures b) is (h d));
  }

  pub note_given : (x y : Places S) (i : ℕ) (a : PlaceAnswer) (note : List ℕ) → i < length x.list.items →
      Answers x y i a → IsNote note a → MayGiveNote may x note
  note_given x y i (answer.File bytes) note lt h is = answer_gives x y i (answer.File bytes) bytes note lt h refl is
  note_given x y i answer.NotFound note lt h is = absurd is
  note_given x y i answer.Failed note lt h is = absurd is
