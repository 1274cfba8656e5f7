-- One event: the view of each mirror after it.
use Rattle.std.proofs.Common.{zero, suc, ◌≡◌, ℕ, List, [], ◌∷◌, Some, None, sym, refl, ap, ◌∙◌, subst, ◌⊎◌, inl, inr}
use Rattle.std.proofs.Common.{nat_eq, Bool, true, false}
use Rattle.std.specs.Prelude.{◌≢◌, slice_get, slice_set}
use Rattle.std.proofs.lemmas.Bool.{eqb-true, eqb-false}
use Rattle.mirror_model.specs.View.{View, union, IsSubview}
use Rattle.mirror_model.specs.Strings.{HasClash}
use Rattle.mirror_model.specs.declared.items.Item.{Item}
use Rattle.mirror_model.specs.Item.{IsGood, plus}
use Rattle.mirror_model.specs.Steps.{Answer, Done, Refused, Clashed, Exhausted, Answers, IsBetween}
use Rattle.mirror_model.specs.EventLaws.{TakesHaveOneAnswer, MergesHaveOneAnswer, RetriedTakeIsOneTake}
use Rattle.mirror_model.specs.EventLaws.{RetriedMergeIsOneMerge}
use Rattle.mirror_model.proofs.Views.{within_itself, within_trans, within_union, within_plus, same_is_one}
use Rattle.mirror_model.proofs.StringSets.{has_left, has_right, has_cases, clash_contradicts}

-- ---- lists of views

module _ {X : Type 0} where
  pub get_set_same : (xs : List X) (i : ℕ) (old new : X) → slice_get xs i ≡ Some old →
      slice_get (slice_set xs i new) i ≡ Some new
  get_set_same [] i old new h = let none : None ≡ Some old = h in absurd (cc none)
  get_set_same (x ∷ xs) zero old new h = refl
  get_set_same (x ∷ xs) (suc i) old new h = get_set_same xs i old new h

  pub get_set_other : (xs : List X) (i j : ℕ) (new : X) → (j ≡ i → ⊥) →
      slice_get (slice_set xs i new) j ≡ slice_get xs j
  get_set_other [] i j new h = refl
  get_set_other (x ∷ xs) zero zero new h = absurd (h refl)
  get_set_other (x ∷ xs) zero (suc j) new h = refl
  get_set_other (x ∷ xs) (suc i) zero new h = refl
  get_set_other (x ∷ xs) (suc i) (suc j) new h = get_set_other xs i j new (λ e. h (ap suc e))

  pub one_of_list : (xs : List X) (i : ℕ) (a b : X) → slice_get xs i ≡ Some a → slice_get xs i ≡ Some b → a ≡ b
  one_of_list xs i a b p q = let same : Some a ≡ Some b = sym p ∙ q in cc same

pub same_number : (i j : ℕ) → (i ≡ j) ⊎ (i ≡ j → ⊥)
same_number i j = at (nat_eq i j) refl
  where
    at : (b : Bool) → nat_eq i j ≡ b → (i ≡ j) ⊎ (i ≡ j → ⊥)
    at true e = inl (eqb-true i j e)
    at false e = inr (eqb-false i j e)

-- ---- one answer

module _ (digest : List ℕ → List ℕ) (Allowed : Type 0) (full old : View) (larger : IsSubview old full) where
  pub answer_grows : (a : Answer) (new : View) → Answers digest old Allowed full a new → IsSubview old new
  answer_grows Done new h = subst (IsSubview old) (sym h.2) larger
  answer_grows Refused new h = subst (IsSubview old) (sym h.1) (within_itself old)
  answer_grows Clashed new h = subst (IsSubview old) (sym h.2) (within_itself old)
  answer_grows Exhausted new (inl e) = subst (IsSubview old) (sym e) (within_itself old)
  answer_grows Exhausted new (inr h) = h.2.grows

  -- after an event the view is the old one, or the event was allowed and the view is within the full one
  pub answer_within : (a : Answer) (new : View) → Answers digest old Allowed full a new →
      (new ≡ old) ⊎ (Allowed × IsSubview new full)
  answer_within Done new h = inr (h.0, subst (λ v. IsSubview v full) (sym h.2) (within_itself full))
  answer_within Refused new h = inl h.1
  answer_within Clashed new h = inl h.2
  answer_within Exhausted new (inl e) = inl e
  answer_within Exhausted new (inr h) = inr (h.0, h.2.within)

  -- a view changes only if the event was done or ran out of memory
  pub answer_changes : (a : Answer) (new : View) → Answers digest old Allowed full a new →
      (a ≡ Refused) ⊎ (a ≡ Clashed) → new ≡ old
  answer_changes a new h (inl e) = (subst (λ b. Answers digest old Allowed full b new) e h).1
  answer_changes a new h (inr e) = (subst (λ b. Answers digest old Allowed full b new) e h).2

module _ (digest : List ℕ → List ℕ) (Allowed Allowed' : Type 0) (again : Allowed' → Allowed) (back : Allowed → Allowed')
    (full full' old between : View) (same : IsSubview old between → IsSubview between full → full' ≡ full) where
  -- repeating the event
  pub answers_again : (a : Answer) (new : View) →
      (between ≡ old → Answers digest between Allowed' full' a new → Answers digest old Allowed full a new) →
      Answers digest old Allowed full Exhausted between → Answers digest between Allowed' full' a new →
      Answers digest old Allowed full a new
  answers_again a new keep (inl e) h = keep e h
  answers_again Done new keep (inr m) h = let e = same m.2.grows m.2.within in (m.0, m.1, h.2 ∙ e)
  answers_again Refused new keep (inr m) h = absurd (h.0 (back m.0))
  answers_again Clashed new keep (inr m) h =
      let e = same m.2.grows m.2.within in absurd
      (clash_contradicts digest full.strings m.1 (subst (λ v. HasClash digest v.strings) e h.1))
  answers_again Exhausted new keep (inr m) (inl e) = inr (m.0, m.1, subst (IsBetween old full) (sym e) m.2)
  answers_again Exhausted new keep (inr m) (inr h) =
      let e = same m.2.grows m.2.within in
      let next : IsBetween between full new = subst (λ v. IsBetween between v new) e h.2 in
      inr (
        m.0,
        m.1,
        record {
          grows = within_trans old between new m.2.grows next.grows;
          within = next.within;
          notes_last = λ note has. elim (next.notes_last note has) [
            | inl a ↦ elim
                (m.2.notes_last note a) [ inl b ↦ inl b | inr b ↦ inr (λ s hs. next.grows.strings_are s (b s hs)) ]
            | inr b ↦ inr b
          ];
        },
      )

-- a view between V and V with an item gives the same view with the item
pub plus_again : (digest : List ℕ → List ℕ) (old between : View) (item : Item) → IsSubview old between →
    IsSubview between (plus digest old item) → plus digest between item ≡ plus digest old item
plus_again digest old between item grows within = same_is_one (plus digest between item) (plus digest old item)
    (record {
      origin_is = within.origin_is;
      notes_are =
          λ q h. elim
          (has_cases between.notes _ q h) [ inl a ↦ within.notes_are q a | inr b ↦ has_right old.notes _ q b ];
      strings_are =
          λ q h. elim
          (has_cases between.strings _ q h) [ inl a ↦ within.strings_are q a | inr b ↦ has_right old.strings _ q b ];
    })
    (record {
      origin_is = grows.origin_is;
      notes_are =
          λ q h. elim
          (has_cases old.notes _ q h) [
            | inl a ↦ has_left between.notes _ q
                (grows.notes_are q a)
            | inr b ↦ has_right between.notes _ q b
          ];
      strings_are =
          λ q h. elim
          (has_cases old.strings _ q h) [
            | inl a ↦ has_left between.strings _ q
                (grows.strings_are q a)
            | inr b ↦ has_right between.strings _ q b
          ];
    })

pub union_again : (old between other : View) → IsSubview old between → IsSubview between (union old other) →
    union between other ≡ union old other
union_again old between other grows within = same_is_one (union between other) (union old other)
    (record {
      origin_is = within.origin_is;
      notes_are =
          λ q h. elim
          (has_cases between.notes other.notes q h)
          [ inl a ↦ within.notes_are q a | inr b ↦ has_right old.notes other.notes q b ];
      strings_are =
          λ q h. elim
          (has_cases between.strings other.strings q h)
          [ inl a ↦ within.strings_are q a | inr b ↦ has_right old.strings other.strings q b ];
    })
    (record {
      origin_is = grows.origin_is;
      notes_are =
          λ q h. elim
          (has_cases old.notes other.notes q h) [
            | inl a ↦ has_left between.notes other.notes q
                (grows.notes_are q a)
            | inr b ↦ has_right between.notes other.notes q b
          ];
      strings_are =
          λ q h. elim
          (has_cases old.strings other.strings q h) [
            | inl a ↦ has_left between.strings other.strings q
                (grows.strings_are q a)
            | inr b ↦ has_right between.strings other.strings q b
          ];
    })

same_origin : (digest : List ℕ → List ℕ) (Allowed : Type 0) (full old between : View) → IsSubview old full →
    Answers digest old Allowed full Exhausted between → old.origin ≡ between.origin
same_origin digest Allowed full old between larger h =
    (answer_grows digest Allowed full old larger Exhausted between h).origin_is

pub takes_again : RetriedTakeIsOneTake
takes_again digest keys old between new item answer first second =
    let o = same_origin digest (IsGood digest old.origin keys item) (plus digest old item) old between
    (within_plus digest old item) first in
    answers_again digest (IsGood digest old.origin keys item) (IsGood digest between.origin keys item)
    (λ g. subst (λ p. IsGood digest p keys item) (sym o) g) (λ g. subst (λ p. IsGood digest p keys item) o g)
    (plus digest old item) (plus digest between item) old between (plus_again digest old between item) answer new
    (λ e h. subst
    (λ v. Answers digest v (IsGood digest v.origin keys item) (plus digest v item) answer new) e h) first second

pub merges_again : RetriedMergeIsOneMerge
merges_again digest old other between new answer first second =
    let o = same_origin digest (old.origin ≡ other.origin) (union old other) old between
    (within_union old other) first in
    answers_again digest (old.origin ≡ other.origin) (between.origin ≡ other.origin) (λ g. o ∙ g) (λ g. sym o ∙ g)
    (union old other) (union between other) old between (union_again old between other) answer new
    (λ e h. subst (λ v. Answers digest v (v.origin ≡ other.origin) (union v other) answer new) e h) first second

-- ---- one answer

answers_once : (digest : List ℕ → List ℕ) (Allowed : Type 0) (full old new other : View) (a b : Answer) →
    Answers digest old Allowed full a new → Answers digest old Allowed full b other → a ≢ Exhausted → b ≢ Exhausted →
    (a ≡ b) × (new ≡ other)
answers_once digest Allowed full old new other Done Done p q m n = (refl, p.2 ∙ sym q.2)
answers_once digest Allowed full old new other Done Refused p q m n = absurd (q.0 p.0)
answers_once digest Allowed full old new other Done Clashed p q m n =
    absurd (clash_contradicts digest full.strings p.1 q.1)
answers_once digest Allowed full old new other Refused Done p q m n = absurd (p.0 q.0)
answers_once digest Allowed full old new other Refused Refused p q m n = (refl, p.1 ∙ sym q.1)
answers_once digest Allowed full old new other Refused Clashed p q m n = absurd (p.0 q.0)
answers_once digest Allowed full old new other Clashed Done p q m n =
    absurd (clash_contradicts digest full.strings q.1 p.1)
answers_once digest Allowed full old new other Clashed Refused p q m n = absurd (q.0 p.0)
answers_once digest Allowed full old new other Clashed Clashed p q m n = (refl, p.2 ∙ sym q.2)
answers_once digest Allowed full old new other Exhausted b p q m n = absurd (m refl)
answers_once digest Allowed full old new other a Exhausted p q m n = absurd (n refl)

pub takes_once : TakesHaveOneAnswer
takes_once digest keys old new other item a b =
    answers_once digest (IsGood digest old.origin keys item) (plus digest old item) old new other a b

pub merges_once : MergesHaveOneAnswer
merges_once digest old source new other a b =
    answers_once digest (old.origin ≡ source.origin) (union old source) old new other a b
