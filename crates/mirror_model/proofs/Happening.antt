-- One event: the view after it, and repeating it.
use Rattle.std.proofs.Common.{zero, suc, ◌≡◌, ℕ, List, [], ◌∷◌, Some, sym, refl, ap, ◌∙◌, subst, inl, inr}
use Rattle.std.specs.Prelude.{slice_get, slice_set}
use Rattle.std.specs.FinSet as set
use Rattle.signed_note.specs.Keys.{Key}
use Rattle.node_store.specs.Strings.{Strings, NoClash, ClashesWith}
use Rattle.mirror_model.specs.View.{View, union, IsSubview}
use Rattle.mirror_model.specs.Strings.{HasClash}
use Rattle.mirror_model.specs.Item.{IsGood, plus}
use Rattle.mirror_model.specs.declared.events.Event.TheVariants.{Take, Merge}
use Rattle.mirror_model.specs.Steps.{Answer, Done, Refused, Clashed, Exhausted, Answers, IsBetween, Takes, Merges}
use Rattle.mirror_model.specs.Steps.{MergesAt}
use Rattle.mirror_model.specs.UnionLaws.{UnionClashes, UnionIsClean}
use Rattle.mirror_model.specs.EventLaws.{TakesGrow, MergesGrow, TakesKeepLawful, MergesKeepLawful, IsLeft}
use Rattle.mirror_model.specs.EventLaws.{RefusedTakeIsBetween}
use Rattle.mirror_model.specs.EventLaws.{RefusedMergeIsBetween, EventGrows, EventsHaveOneAnswer, RetriedEventIsOneEvent}
use Rattle.mirror_model.specs.EventLaws.{SelfMergeChangesNothing}
use Rattle.node_store.proofs.Sets.{decide}
use Rattle.mirror_model.proofs.StringSets.{has_cases, union_itself, clash_contradicts, union_clash}
use Rattle.mirror_model.proofs.Views.{within_itself, within_union, within_plus, same_is_one, union_is_lawful}
use Rattle.mirror_model.proofs.ItemStrings.{plus_is_lawful}
use Rattle.mirror_model.proofs.Steps.{get_set_same, get_set_other, one_of_list, same_number, answer_grows, takes_again}
use Rattle.mirror_model.proofs.Steps.{merges_again, takes_once, merges_once}
use Rattle.mirror_model.proofs.Playing.{event_grows}
use Rattle.mirror_model.proofs.Keeping.{answer_lawful}

-- ---- the view after an event

pub takes_grow : TakesGrow
takes_grow digest keys old new item answer h =
    answer_grows digest (IsGood digest old.origin keys item) (plus digest old item) old
    (within_plus digest old item) answer new h

pub merges_grow : MergesGrow
merges_grow digest old other new answer h =
    answer_grows digest (old.origin ≡ other.origin) (union old other) old (within_union old other) answer new h

pub takes_keep_lawful : TakesKeepLawful
takes_keep_lawful digest hash keys old new item answer p h =
    answer_lawful digest (IsGood digest old.origin keys item) (plus digest old item) old p
    (λ good clean. plus_is_lawful digest hash keys old item p good clean) answer new h

pub merges_keep_lawful : MergesKeepLawful
merges_keep_lawful digest old other new answer p q h =
    answer_lawful digest (old.origin ≡ other.origin) (union old other) old p
    (λ same clean. union_is_lawful digest old other p q same clean) answer new h

left_of : (digest : List ℕ → List ℕ) (old : View) (Allowed : Type 0) (whole new : View) → IsSubview old whole →
    Answers digest old Allowed whole Exhausted new → IsLeft digest old Allowed whole new
left_of digest old Allowed whole new larger (inl e) = record {
  between =
      subst (IsBetween old whole) (sym e)
      (record { grows = within_itself old; within = larger; notes_last = λ note h. inl h });
  not_allowed = λ none. e;
  clashing = λ c. e;
}
left_of digest old Allowed whole new larger (inr h) = record {
  between = h.2;
  not_allowed = λ none. absurd (none h.0);
  clashing = λ c. absurd (clash_contradicts digest whole.strings h.1 c);
}

pub takes_leave : RefusedTakeIsBetween
takes_leave digest keys old new item h =
    left_of digest old (IsGood digest old.origin keys item) (plus digest old item) new (within_plus digest old item) h

pub merges_leave : RefusedMergeIsBetween
merges_leave digest old other new h =
    left_of digest old (old.origin ≡ other.origin) (union old other) new (within_union old other) h

-- ---- lists with one item set

module _ {X : Type 0} where
  set_again : (xs : List X) (i : ℕ) (a b : X) → slice_set (slice_set xs i a) i b ≡ slice_set xs i b
  set_again [] i a b = refl
  set_again (x ∷ xs) zero a b = refl
  set_again (x ∷ xs) (suc i) a b = ap (λ ys. x ∷ ys) (set_again xs i a b)

  set_itself : (xs : List X) (i : ℕ) (a : X) → slice_get xs i ≡ Some a → slice_set xs i a ≡ xs
  set_itself [] i a h = refl
  set_itself (x ∷ xs) zero a h = let same : Some x ≡ Some a = h in let is : x ≡ a = cc same in ap (λ y. y ∷ xs) (sym is)
  set_itself (x ∷ xs) (suc i) a h = ap (λ ys. x ∷ ys) (set_itself xs i a h)

-- ---- a merge of a mirror with itself

union_twice : (v : View) → union v v ≡ v
union_twice v = λ i. record { origin = v.origin; notes = union_itself v.notes i; strings = union_itself v.strings i }

merged_itself : (digest : List ℕ → List ℕ) (v new : View) (answer : Answer) → Merges digest v v answer new → new ≡ v
merged_itself digest v new Done h = h.2 ∙ union_twice v
merged_itself digest v new Refused h = h.1
merged_itself digest v new Clashed h = h.2
merged_itself digest v new Exhausted (inl e) = e
merged_itself digest v new Exhausted (inr h) =
    same_is_one new v (subst (IsSubview new) (union_twice v) h.2.within) h.2.grows

pub merge_with_itself : SelfMergeChangesNothing
merge_with_itself digest keys old new mirror answer h =
    let same : h.other ≡ h.before = one_of_list old mirror h.other h.before h.found_other h.found in
    let m : Merges digest h.before h.before answer h.after =
    subst (λ w. Merges digest h.before w answer h.after) same h.merges in
    h.set ∙ ap (slice_set old mirror) (merged_itself digest h.before h.after answer m) ∙
    set_itself old mirror h.before h.found

-- ---- events on a list

pub event_grows_each : EventGrows
event_grows_each digest keys old new event answer h mirror before after was is =
    let g = event_grows digest keys old new event answer h mirror before was in
    subst (IsSubview before) (one_of_list new mirror g.after after g.is is) g.grows

pub event_is_one : EventsHaveOneAnswer
event_is_one digest keys old new other (Take target item) a b p q m n =
    let same : q.before ≡ p.before = one_of_list old target q.before p.before q.found p.found in
    let q' = subst (λ v. Takes digest keys v item b q.after) same q.takes in
    let one = takes_once digest keys p.before p.after q.after item a b p.takes q' m n in
    (one.0, p.set ∙ ap (slice_set old target) one.1 ∙ sym q.set)
event_is_one digest keys old new other (Merge target source) a b p q m n =
    let same : q.before ≡ p.before = one_of_list old target q.before p.before q.found p.found in
    let same_other : q.other ≡ p.other = one_of_list old source q.other p.other q.found_other p.found_other in
    let q' : Merges digest p.before p.other b q.after =
    subst (λ v. Merges digest v p.other b q.after) same
    (subst (λ v. Merges digest q.before v b q.after) same_other q.merges) in
    let one = merges_once digest p.before p.other p.after q.after a b p.merges q' m n in
    (one.0, p.set ∙ ap (slice_set old target) one.1 ∙ sym q.set)

module _ (digest : List ℕ → List ℕ) (keys : List Key) (old between new : List View) (answer : Answer) where
  twice_set : (target : ℕ) (first second : View) → between ≡ slice_set old target first →
      new ≡ slice_set between target second → new ≡ slice_set old target second
  twice_set target first second p q = q ∙ ap (λ xs. slice_set xs target second) p ∙ set_again old target first second

  stands_after : (target : ℕ) (before first : View) → slice_get old target ≡ Some before →
      between ≡ slice_set old target first → slice_get between target ≡ Some first
  stands_after target before first found p =
      ap (λ xs. slice_get xs target) p ∙ get_set_same old target before first found

  merge_again : (target source : ℕ) → MergesAt digest keys old target source Exhausted between →
      MergesAt digest keys between target source answer new → MergesAt digest keys old target source answer new
  merge_again target source p q =
      elim (same_number source target) [
        | inl e ↦
            let itself : between ≡ old =
            merge_with_itself digest keys old between target Exhausted
            (subst (λ n. MergesAt digest keys old target n Exhausted between) e p) in
            subst (λ w. MergesAt digest keys w target source answer new) itself q
        | inr ne ↦
            let same : q.before ≡ p.after =
            one_of_list between target q.before p.after q.found
            (stands_after target p.before p.after p.found p.set) in
            let there : slice_get between source ≡ Some p.other =
            ap (λ xs. slice_get xs source) p.set ∙ get_set_other old target source p.after ne ∙ p.found_other in
            let same_other : q.other ≡ p.other = one_of_list between source q.other p.other q.found_other there in
            let second : Merges digest p.after p.other answer q.after =
            subst (λ v. Merges digest v p.other answer q.after) same
            (subst (λ v. Merges digest q.before v answer q.after) same_other q.merges) in
            record {
              before = p.before;
              other = p.other;
              after = q.after;
              found = p.found;
              found_other = p.found_other;
              merges = merges_again digest p.before p.other p.after q.after answer p.merges second;
              set = twice_set target p.after q.after p.set q.set;
            }
      ]

pub event_again : RetriedEventIsOneEvent
event_again digest keys old between new (Take target item) answer p q =
    let same : q.before ≡ p.after =
    one_of_list between target q.before p.after q.found
    (stands_after digest keys old between new answer target p.before p.after p.found p.set) in
    let second = subst (λ v. Takes digest keys v item answer q.after) same q.takes in
    record {
      before = p.before;
      after = q.after;
      found = p.found;
      takes = takes_again digest keys p.before p.after q.after item answer p.takes second;
      set = twice_set digest keys old between new answer target p.after q.after p.set q.set;
    }
event_again digest keys old between new (Merge target source) answer p q =
    merge_again digest keys old between new answer target source p q

-- ---- collisions of a union

module _ (digest : List ℕ → List ℕ) (v w : Strings) (clean : NoClash digest v) (clean' : NoClash digest w) where
  from_union : HasClash digest (set.union v w) → ClashesWith digest v w
  from_union c = elim (has_cases v w c.first c.first_held) [
    | inl a ↦ elim (has_cases v w c.second c.second_held) [
      | inl b ↦ absurd (c.differ (clean.same c.first c.second a b c.same_digest))
      | inr b ↦ record {
        first =
            c.first;
        second = c.second;
        first_held = a;
        second_held = b;
        same_digest = c.same_digest;
        differ = c.differ;
      }
    ]
    | inr a ↦ elim (has_cases v w c.second c.second_held) [
      | inl b ↦ record {
        first =
            c.second;
        second =
            c.first;
        first_held = b;
        second_held = a;
        same_digest = sym c.same_digest;
        differ = λ e. c.differ (sym e);
      }
      | inr b ↦ absurd (c.differ (clean'.same c.first c.second a b c.same_digest))
    ]
  ]

  to_clean : (ClashesWith digest v w → ⊥) → NoClash digest (set.union v w)
  to_clean none = record {
    same = λ x y hx hy e. elim (decide x y) [
      | inl same ↦ same
      | inr differ ↦ absurd
          (none (from_union
          (record { first = x; second = y; first_held = hx; second_held = hy; same_digest = e; differ = differ })))
    ];
  }

pub union_clashes : UnionClashes
union_clashes digest v w clean clean' =
    (from_union digest v.strings w.strings clean clean', union_clash digest v.strings w.strings)

pub union_is_clean : UnionIsClean
union_is_clean digest v w clean clean' = (
  λ all c. clash_contradicts digest (set.union v.strings w.strings) all
      (union_clash digest v.strings w.strings c),
  to_clean digest v.strings w.strings clean clean',
)
