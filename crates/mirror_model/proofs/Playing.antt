-- Runs: a mirror's view and the items that reach it.
use Rattle.std.proofs.Common.{arith, length, suc, ◌≡◌, ℕ, List, [], ◌∷◌, Some, Bool, true, false, cond, sym, refl, ap}
use Rattle.std.proofs.Common.{◌∙◌, subst, ◌⊎◌, inl, inr}
use Rattle.std.specs.Prelude.{slice_get, slice_set}
use Rattle.std.specs.List.{Contains, AllByRecursion}
use Rattle.std.specs.FinSet as set
use Rattle.std.proofs.lemmas.List.Elements.{All-from_recursion, All-contains}
use Rattle.node_store.specs.Strings.{Strings, Has}
use Rattle.signed_note.specs.Keys.{Key}
use Rattle.mirror_model.specs.View.{View, union, IsSubview}
use Rattle.mirror_model.specs.Strings.{HasClash}
use Rattle.mirror_model.specs.declared.items.Item.{Item}
use Rattle.mirror_model.specs.Item.{IsGood, strings_of, notes_of, plus}
use Rattle.mirror_model.specs.declared.events.Event.{Event}
use Rattle.mirror_model.specs.declared.events.Event.TheVariants.{Take, Merge}
use Rattle.mirror_model.specs.Events.{Reaches, OpeningReaches}
use Rattle.mirror_model.specs.Steps.{Answer, Done, Refused, Clashed, Exhausted, Answers, Happens, TakesAt, MergesAt}
use Rattle.mirror_model.specs.Steps.{Run}
use Rattle.mirror_model.specs.Reached.{OpensWith, TakesIn, HasReached, HasReachedOnly, events_of, is_done, may_change}
use Rattle.mirror_model.specs.Reached.{IsNext, AreRetried}
use Rattle.mirror_model.specs.RunLaws.{AreOf, RunIsBounded, RunIsReached, IsMet, NoneClashes, ForMirrors}
use Rattle.mirror_model.proofs.StringSets.{has_right, has_cases, listed_from_has, has_from_listed}
use Rattle.mirror_model.proofs.Views.{within_itself, within_union, within_plus}
use Rattle.mirror_model.proofs.Steps.{get_set_same, get_set_other, one_of_list, same_number, answer_grows}
use Rattle.mirror_model.proofs.Steps.{answer_within, answer_changes}
use Rattle.mirror_model.proofs.Reaching.{open_none, open_itself, open_first, open_later, open_by, item_none, item_first}
use Rattle.mirror_model.proofs.Reaching.{item_later, item_by, take_is_no_merge}

-- ---- an event

module _ (digest : List ℕ → List ℕ) (keys : List Key) where
  -- a view of the list has grown after the event
  pub record Grew (new : List View) (number : ℕ) (v : View) : Type 0 where
    pub after : View
    pub is : slice_get new number ≡ Some after
    pub grows : IsSubview v after

  set_grows : (old new : List View) (target : ℕ) (before after : View) → slice_get old target ≡ Some before →
      new ≡ slice_set old target after → IsSubview before after → (number : ℕ) (v : View) →
      slice_get old number ≡ Some v → Grew new number v
  set_grows old new target before after found is grows number v here =
      elim (same_number number target) [
        | inl e ↦
            let same : v ≡ before =
            one_of_list old number v before here (subst (λ n. slice_get old n ≡ Some before) (sym e) found) in
            record {
              after =
                  after;
              is =
                  ap (λ xs. slice_get xs number) is ∙
                  subst (λ n. slice_get (slice_set old target after) n ≡ Some after) (sym e)
                  (get_set_same old target before after found);
              grows = subst (λ w. IsSubview w after) (sym same) grows;
            }
        | inr ne ↦ record {
          after =
              v;
          is = ap (λ xs. slice_get xs number) is ∙ get_set_other old target number after ne ∙ here;
          grows =
              within_itself v;
        }
      ]

  pub event_grows : (old new : List View) (e : Event) (a : Answer) → Happens digest keys old e a new →
      (number : ℕ) (v : View) → slice_get old number ≡ Some v → Grew new number v
  event_grows old new (Take target item) a h =
      set_grows old new target h.before h.after h.found h.set
      (answer_grows digest (IsGood digest h.before.origin keys item) (plus digest h.before item) h.before
      (within_plus digest h.before item) a h.after h.takes)
  event_grows old new (Merge target source) a h =
      set_grows old new target h.before h.after h.found h.set
      (answer_grows digest (h.before.origin ≡ h.other.origin) (union h.before h.other) h.before
      (within_union h.before h.other) a h.after h.merges)

  -- a view after an event was there before, or is the view of the event's target
  pub set_back : (old new : List View) (target : ℕ) (after : View) → new ≡ slice_set old target after →
      (before : View) → slice_get old target ≡ Some before → (number : ℕ) (v : View) → slice_get new number ≡ Some v →
      (slice_get old number ≡ Some v) ⊎ ((number ≡ target) × (v ≡ after))
  set_back old new target after is before found number v here =
      let there : slice_get (slice_set old target after) number ≡ Some v =
      ap (λ xs. slice_get xs number) (sym is) ∙ here in
      elim (same_number number target) [
        | inl e ↦ inr (
          e,
          one_of_list (slice_set old target after) number v after there
              (subst (λ n. slice_get (slice_set old target after) n ≡ Some after) (sym e)
              (get_set_same old target before after found)),
        )
        | inr ne ↦ inl (sym (get_set_other old target number after ne) ∙ there)
      ]

  pub event_origin : (origin : List ℕ) (old new : List View) (e : Event) (a : Answer) →
      Happens digest keys old e a new → AreOf origin old → AreOf origin new
  event_origin origin old new (Take target item) a h of number v here =
      elim (set_back old new target h.after h.set h.before h.found number v here) [
        | inl same ↦ of number v same
        | inr b ↦ ap (λ w. w.origin) b.1 ∙
            sym (answer_grows digest (IsGood digest h.before.origin keys item) (plus digest h.before item) h.before
            (within_plus digest h.before item) a h.after h.takes).origin_is ∙ of target h.before h.found
      ]
  event_origin origin old new (Merge target source) a h of number v here =
      elim (set_back old new target h.after h.set h.before h.found number v here) [
        | inl same ↦ of number v same
        | inr b ↦ ap (λ w. w.origin) b.1 ∙
            sym (answer_grows digest (h.before.origin ≡ h.other.origin) (union h.before h.other) h.before
            (within_union h.before h.other) a h.after h.merges).origin_is ∙ of target h.before h.found
      ]

-- ---- one part of views: the strings or the notes

-- the part of a union, of a view with an item, and of a larger view
record IsPart (digest : List ℕ → List ℕ) (part : View → Strings) (adds : Item → List (List ℕ)) : Type 0 where
  union_is : (v w : View) → part (union v w) ≡ set.union (part v) (part w)
  plus_is : (v : View) (item : Item) → part (plus digest v item) ≡ set.union (part v) (set.from_list (adds item))
  within : (v w : View) → IsSubview v w → (q : List ℕ) → Has (part v) q → Has (part w) q

of_strings : (digest : List ℕ → List ℕ) → IsPart digest (λ v. v.strings) (strings_of digest)
of_strings digest = record { union_is = λ v w. refl; plus_is = λ v item. refl; within = λ v w h. h.strings_are }

of_notes : (digest : List ℕ → List ℕ) → IsPart digest (λ v. v.notes) notes_of
of_notes digest = record { union_is = λ v w. refl; plus_is = λ v item. refl; within = λ v w h. h.notes_are }

-- the answer means that nothing changed
abbrev ChangesNothing : Answer → Type 0
ChangesNothing a = (a ≡ Refused) ⊎ (a ≡ Clashed)

abbrev IsExact : Answer → Type 0
IsExact a = (a ≡ Done) ⊎ (a ≡ Refused)

module _ (digest : List ℕ → List ℕ) (origin : List ℕ) (keys : List Key) (part : View → Strings)
    (adds : Item → List (List ℕ)) (is_part : IsPart digest part adds) (keep : Answer → Bool) where
  abbrev Opens : List View → List Event → ℕ → List ℕ → Type 0
  Opens opened events mirror q = OpensWith opened part events mirror q

  abbrev Adds : List View → List Event → ℕ → List ℕ → Type 0
  Adds opened events mirror q = TakesIn digest origin keys adds events mirror q

  -- the kept events of a list, if its first event is kept and if it is not
  kept_cases : (C : List Event → Type 0) (e : Event) (es : List Event) (a : Answer) (rest : List Answer) →
      (keep a ≡ true → C (e ∷ events_of keep es rest)) → (keep a ≡ false → C (events_of keep es rest)) →
      C (events_of keep (e ∷ es) (a ∷ rest))
  kept_cases C e es a rest in_list out = at (keep a) refl
    where
      at : (b : Bool) → keep a ≡ b → C (cond b (e ∷ events_of keep es rest) (events_of keep es rest))
      at true h = in_list h
      at false h = out h

  more_open : (e : Event) (es : List Event) (a : Answer) (rest : List Answer) (opened mirror : ℕ) →
      OpeningReaches opened mirror (events_of keep es rest) →
      OpeningReaches opened mirror (events_of keep (e ∷ es) (a ∷ rest))
  more_open e es a rest opened mirror h =
      kept_cases (OpeningReaches opened mirror) e es a rest (λ k. open_later e (events_of keep es rest) opened mirror h)
      (λ k. h)

  more_item : (e : Event) (es : List Event) (a : Answer) (rest : List Answer) (item : Item) (mirror : ℕ) →
      Reaches item mirror (events_of keep es rest) → Reaches item mirror (events_of keep (e ∷ es) (a ∷ rest))
  more_item e es a rest item mirror h =
      kept_cases (Reaches item mirror) e es a rest (λ k. item_later e (events_of keep es rest) item mirror h) (λ k. h)

  -- ---- nothing more

  module _ (skips : (a : Answer) → keep a ≡ false → ChangesNothing a) where
    abbrev From : List View → List Event → ℕ → List ℕ → Type 0
    From opened events mirror q = Opens opened events mirror q ⊎ Adds opened events mirror q

    from_before : (old : List View) (e : Event) (es : List Event) (a : Answer) (rest : List Answer) (number mirror : ℕ)
        (v : View) (q : List ℕ) → slice_get old number ≡ Some v → Has (part v) q →
        OpeningReaches number mirror (events_of keep es rest) → From old (events_of keep (e ∷ es) (a ∷ rest)) mirror q
    from_before old e es a rest number mirror v q found has on =
        inl (record
        { number = number; view = v; is = found; reaches = more_open e es a rest number mirror on; has = has })

    from_take : (old mid : List View) (target : ℕ) (item : Item) (es : List Event) (a : Answer) (rest : List Answer)
        (mirror : ℕ) (q : List ℕ) → AreOf origin old → (h : TakesAt digest keys old target item a mid) →
        Has (part h.after) q → OpeningReaches target mirror (events_of keep es rest) →
        From old (events_of keep (Take target item ∷ es) (a ∷ rest)) mirror q
    from_take old mid target item es a rest mirror q of h has on =
        let before = from_before old (Take target item) es a rest target mirror h.before q h.found in
        elim (answer_within digest (IsGood digest h.before.origin keys item) (plus digest h.before item) h.before
        (within_plus digest h.before item) a h.after h.takes) [
          | inl same ↦ before (subst (λ v. Has (part v) q) same has) on
          | inr changed ↦
              let full : Has (set.union (part h.before) (set.from_list (adds item))) q =
              subst (λ s. Has s q) (is_part.plus_is h.before item)
              (is_part.within h.after (plus digest h.before item) changed.1 q has) in
              elim (has_cases (part h.before) (set.from_list (adds item)) q full) [
                | inl b ↦ before b on
                | inr b ↦ kept_cases (λ events. From old events mirror q) (Take target item) es a rest
                    (λ k. inr
                    (record {
                      item =
                          item;
                      good =
                          subst (λ o. IsGood digest o keys item) (of target h.before h.found) changed.0;
                      reaches =
                          item_by (events_of keep es rest) target item mirror on;
                      has =
                          listed_from_has (adds item) q b;
                    }))
                    (λ k. inl
                    (record {
                      number =
                          target;
                      view =
                          h.before;
                      is =
                          h.found;
                      reaches =
                          on;
                      has =
                          subst (λ v. Has (part v) q)
                          (answer_changes digest (IsGood digest h.before.origin keys item)
                          (plus digest h.before item) h.before (within_plus digest h.before item) a h.after h.takes
                          (skips a k)) has;
                    }))
              ]
        ]

    from_merge : (old mid : List View) (target source : ℕ) (es : List Event) (a : Answer) (rest : List Answer)
        (mirror : ℕ) (q : List ℕ) → (h : MergesAt digest keys old target source a mid) → Has (part h.after) q →
        OpeningReaches target mirror (events_of keep es rest) →
        From old (events_of keep (Merge target source ∷ es) (a ∷ rest)) mirror q
    from_merge old mid target source es a rest mirror q h has on =
        let before = from_before old (Merge target source) es a rest target mirror h.before q h.found in
        elim (answer_within digest (h.before.origin ≡ h.other.origin) (union h.before h.other) h.before
        (within_union h.before h.other) a h.after h.merges) [
          | inl same ↦ before (subst (λ v. Has (part v) q) same has) on
          | inr changed ↦
              let full : Has (set.union (part h.before) (part h.other)) q =
              subst (λ s. Has s q) (is_part.union_is h.before h.other)
              (is_part.within h.after (union h.before h.other) changed.1 q has) in
              elim (has_cases (part h.before) (part h.other) q full) [
                | inl b ↦ before b on
                | inr b ↦ kept_cases (λ events. From old events mirror q) (Merge target source) es a rest
                    (λ k. inl
                    (record {
                      number =
                          source;
                      view =
                          h.other;
                      is =
                          h.found_other;
                      reaches = open_by (events_of keep es rest) target source mirror on;
                      has = b;
                    }))
                    (λ k. inl
                    (record {
                      number =
                          target;
                      view =
                          h.before;
                      is =
                          h.found;
                      reaches =
                          on;
                      has =
                          subst (λ v. Has (part v) q)
                          (answer_changes digest (h.before.origin ≡ h.other.origin) (union h.before h.other) h.before
                          (within_union h.before h.other) a h.after h.merges (skips a k)) has;
                    }))
              ]
        ]

    from_event : (old mid : List View) (e : Event) (es : List Event) (a : Answer) (rest : List Answer)
        (number mirror : ℕ) (v : View) (q : List ℕ) → AreOf origin old → Happens digest keys old e a mid →
        slice_get mid number ≡ Some v → Has (part v) q → OpeningReaches number mirror (events_of keep es rest) →
        From old (events_of keep (e ∷ es) (a ∷ rest)) mirror q
    from_event old mid (Take target item) es a rest number mirror v q of h found has on =
        elim (set_back digest keys old mid target h.after h.set h.before h.found number v found) [
          | inl same ↦ from_before old (Take target item) es a rest number mirror v q same has on
          | inr b ↦ from_take old mid target item es a rest mirror q of h (subst (λ w. Has (part w) q) b.1 has)
              (subst (λ n. OpeningReaches n mirror (events_of keep es rest)) b.0 on)
        ]
    from_event old mid (Merge target source) es a rest number mirror v q of h found has on =
        elim (set_back digest keys old mid target h.after h.set h.before h.found number v found) [
          | inl same ↦ from_before old (Merge target source) es a rest number mirror v q same has on
          | inr b ↦ from_merge old mid target source es a rest mirror q h (subst (λ w. Has (part w) q) b.1 has)
              (subst (λ n. OpeningReaches n mirror (events_of keep es rest)) b.0 on)
        ]

    run_only : (old new : List View) (es : List Event) (rest : List Answer) → AreOf origin old →
        Run digest keys old es rest new → (mirror : ℕ) (v : View) → slice_get new mirror ≡ Some v → (q : List ℕ) →
        Has (part v) q → From old (events_of keep es rest) mirror q
    run_only old new [] [] of run mirror v found q has =
        inl (record {
          number =
              mirror;
          view =
              v;
          is = ap (λ xs. slice_get xs mirror) (sym run) ∙ found;
          reaches = open_itself mirror [];
          has = has;
        })
    run_only old new (e ∷ es) (a ∷ rest) of run mirror v found q has =
        elim (run_only run.0 new es rest
        (event_origin digest keys origin old run.0 e a run.1 of) run.2 mirror v found q has) [
          | inl o ↦ from_event old run.0 e es a rest o.number mirror o.view q of run.1 o.is o.has o.reaches
          | inr t ↦ inr
              (record {
                item =
                    t.item;
                good = t.good;
                reaches = more_item e es a rest t.item mirror t.reaches;
                has = t.has;
              })
        ]
    run_only old new [] (a ∷ rest) of run mirror v found q has = absurd run
    run_only old new (e ∷ es) [] of run mirror v found q has = absurd run

  -- ---- everything

  abbrev KeepsExact : List Answer → Type 0
  KeepsExact rest = AllByRecursion (λ a. keep a ≡ true → IsExact a) rest

  -- a kept merge added everything that its source held
  merge_adds : (old mid : List View) (target source : ℕ) (a : Answer) → AreOf origin old → IsExact a →
      (h : MergesAt digest keys old target source a mid) → (v : View) → slice_get old source ≡ Some v → (q : List ℕ) →
      Has (part v) q → Has (part h.after) q
  merge_adds old mid target source a of (inl done) h v found q has =
      let m : Answers digest h.before (h.before.origin ≡ h.other.origin) (union h.before h.other) Done h.after =
      subst (λ b. Answers digest h.before (h.before.origin ≡ h.other.origin)
      (union h.before h.other) b h.after) done h.merges in
      let same : v ≡ h.other = one_of_list old source v h.other found h.found_other in
      subst (λ w. Has (part w) q) (sym m.2)
      (subst (λ s. Has s q) (sym (is_part.union_is h.before h.other))
      (has_right (part h.before) (part h.other) q (subst (λ w. Has (part w) q) same has)))
  merge_adds old mid target source a of (inr refused) h v found q has =
      let m : Answers digest h.before (h.before.origin ≡ h.other.origin) (union h.before h.other) Refused h.after =
      subst (λ b. Answers digest h.before (h.before.origin ≡ h.other.origin)
      (union h.before h.other) b h.after) refused h.merges in
      absurd (m.0 (of target h.before h.found ∙ sym (of source h.other h.found_other)))

  -- a kept take of a valid item added it
  take_adds : (old mid : List View) (target : ℕ) (item : Item) (a : Answer) → AreOf origin old → IsExact a →
      (h : TakesAt digest keys old target item a mid) → IsGood digest origin keys item → (q : List ℕ) →
      Contains (adds item) q → Has (part h.after) q
  take_adds old mid target item a of (inl done) h good q has =
      let m : Answers digest h.before (IsGood digest h.before.origin keys item)
      (plus digest h.before item) Done h.after =
      subst (λ b. Answers digest h.before (IsGood digest h.before.origin keys item)
      (plus digest h.before item) b h.after) done h.takes in
      subst (λ w. Has (part w) q) (sym m.2)
      (subst (λ s. Has s q) (sym (is_part.plus_is h.before item))
      (has_right (part h.before) (set.from_list (adds item)) q (has_from_listed (adds item) q has)))
  take_adds old mid target item a of (inr refused) h good q has =
      let m : Answers digest h.before (IsGood digest h.before.origin keys item)
      (plus digest h.before item) Refused h.after =
      subst (λ b. Answers digest h.before (IsGood digest h.before.origin keys item)
      (plus digest h.before item) b h.after) refused h.takes in
      absurd (m.0 (subst (λ o. IsGood digest o keys item) (sym (of target h.before h.found)) good))

  after_is : (old mid : List View) (target : ℕ) (before after : View) → slice_get old target ≡ Some before →
      mid ≡ slice_set old target after → slice_get mid target ≡ Some after
  after_is old mid target before after found is =
      ap (λ xs. slice_get xs target) is ∙ get_set_same old target before after found

  merge_on : (old mid : List View) (e : Event) (a : Answer) → AreOf origin old → IsExact a →
      Happens digest keys old e a mid → (number target : ℕ) → e ≡ Merge target number → (v : View) →
      slice_get old number ≡ Some v → (q : List ℕ) → Has (part v) q →
      (w : View) × (slice_get mid target ≡ Some w) × Has (part w) q
  merge_on old mid e a of exact h number target is v found q has =
      let m : MergesAt digest keys old target number a mid = subst (λ f. Happens digest keys old f a mid) is h in (
        m.after,
        after_is old mid target m.before m.after m.found m.set,
        merge_adds old mid target number a of exact m v found q has,
      )

  take_on : (old mid : List View) (e : Event) (a : Answer) → AreOf origin old → IsExact a →
      Happens digest keys old e a mid → (item : Item) (target : ℕ) → e ≡ Take target item →
      IsGood digest origin keys item → (q : List ℕ) → Contains (adds item) q →
      (w : View) × (slice_get mid target ≡ Some w) × Has (part w) q
  take_on old mid e a of exact h item target is good q has =
      let m : TakesAt digest keys old target item a mid = subst (λ f. Happens digest keys old f a mid) is h in (
        m.after,
        after_is old mid target m.before m.after m.found m.set,
        take_adds old mid target item a of exact m good q has,
      )

  run_opens : (old new : List View) (es : List Event) (rest : List Answer) → AreOf origin old → KeepsExact rest →
      Run digest keys old es rest new → (mirror : ℕ) (v : View) → slice_get new mirror ≡ Some v →
      (number : ℕ) (u : View) → slice_get old number ≡ Some u → (q : List ℕ) → Has (part u) q →
      OpeningReaches number mirror (events_of keep es rest) → Has (part v) q
  run_opens old new [] [] of exact run mirror v found number u from q has on =
      let same : u ≡ v =
      one_of_list old number u v from
      (subst (λ n. slice_get old n ≡ Some v) (sym (open_none number mirror on))
      (ap (λ xs. slice_get xs mirror) (sym run) ∙ found)) in
      subst (λ w. Has (part w) q) same has
  run_opens old new (e ∷ es) (a ∷ rest) of exact run mirror v found number u from q has on =
      let of' = event_origin digest keys origin old run.0 e a run.1 of in
      let next : (n : ℕ) (w : View) → slice_get run.0 n ≡ Some w → Has (part w) q →
      OpeningReaches n mirror (events_of keep es rest) → Has (part v) q =
      (λ n w is h r. run_opens run.0 new es rest of' exact.1 run.2 mirror v found n w is q h r) in
      let grown = event_grows digest keys old run.0 e a run.1 number u from in
      let stays : OpeningReaches number mirror (events_of keep es rest) → Has (part v) q =
      (λ r. next number grown.after grown.is (is_part.within u grown.after grown.grows q has) r) in
      kept_cases (λ events. OpeningReaches number mirror events → Has (part v) q) e es a rest
      (λ k r. elim (open_first e (events_of keep es rest) number mirror r) [
        | inl r' ↦ stays r'
        | inr b ↦ let m =
            merge_on old run.0 e a of
            (exact.0 k) run.1 number b.target b.is u from q has in next b.target m.0 m.1 m.2 b.on
      ])
      (λ k r. stays r)
      on
  run_opens old new [] (a ∷ rest) of exact run mirror v found number u from q has on = absurd run
  run_opens old new (e ∷ es) [] of exact run mirror v found number u from q has on = absurd run

  run_takes : (old new : List View) (es : List Event) (rest : List Answer) → AreOf origin old → KeepsExact rest →
      Run digest keys old es rest new → (mirror : ℕ) (v : View) → slice_get new mirror ≡ Some v → (item : Item) →
      IsGood digest origin keys item → (q : List ℕ) → Contains (adds item) q →
      Reaches item mirror (events_of keep es rest) → Has (part v) q
  run_takes old new [] [] of exact run mirror v found item good q has on = absurd (item_none item mirror on)
  run_takes old new (e ∷ es) (a ∷ rest) of exact run mirror v found item good q has on =
      let of' = event_origin digest keys origin old run.0 e a run.1 of in
      let next : Reaches item mirror (events_of keep es rest) → Has (part v) q =
      (λ r. run_takes run.0 new es rest of' exact.1 run.2 mirror v found item good q has r) in
      kept_cases (λ events. Reaches item mirror events → Has (part v) q) e es a rest
      (λ k r. elim (item_first e (events_of keep es rest) item mirror r) [
        | inl r' ↦ next r'
        | inr b ↦ let m =
            take_on old run.0 e a of
            (exact.0 k) run.1 item b.target b.is good q has in
            run_opens run.0 new es rest of' exact.1 run.2 mirror v found b.target m.0 m.1 q m.2 b.on
      ])
      (λ k r. next r)
      on
  run_takes old new [] (a ∷ rest) of exact run mirror v found item good q has on = absurd run
  run_takes old new (e ∷ es) [] of exact run mirror v found item good q has on = absurd run

-- ---- the laws

module _ (digest : List ℕ → List ℕ) (origin : List ℕ) (keys : List Key) (opened final : List View) (events : List Event)
    (answers : List Answer) (of : AreOf origin opened) (run : Run digest keys opened events answers final)
    (keep : Answer → Bool) where
  has_reached : AllByRecursion (λ a. keep a ≡ true → IsExact a) answers → (mirror : ℕ) (v : View) →
      slice_get final mirror ≡ Some v → HasReached digest origin keys opened (events_of keep events answers) mirror v
  has_reached exact mirror v found = record {
    strings = λ q h. elim h [
      | inl o ↦ run_opens digest origin keys (λ w. w.strings) (strings_of digest)
          (of_strings digest) keep opened final events answers of exact run mirror v found o.number o.view o.is q
          o.has o.reaches
      | inr t ↦ run_takes digest origin keys (λ w. w.strings) (strings_of digest)
          (of_strings digest) keep opened final events answers of exact run mirror v found t.item t.good q
          t.has t.reaches
    ];
    notes = λ q h. elim h [
      | inl o ↦ run_opens digest origin keys (λ w. w.notes) notes_of
          (of_notes digest) keep opened final events answers of exact run mirror v found o.number o.view o.is q
          o.has o.reaches
      | inr t ↦ run_takes digest origin keys (λ w. w.notes) notes_of
          (of_notes digest) keep opened final events answers of exact run mirror v found t.item t.good q t.has t.reaches
    ];
  }

  reached_only : ((a : Answer) → keep a ≡ false → ChangesNothing a) → (mirror : ℕ) (v : View) →
      slice_get final mirror ≡ Some v →
      HasReachedOnly digest origin keys opened (events_of keep events answers) mirror v
  reached_only skips mirror v found = record {
    strings =
        λ q h. run_only digest origin keys (λ w. w.strings) (strings_of digest)
        (of_strings digest) keep skips opened final events answers of run mirror v found q h;
    notes = λ q h. run_only digest origin keys (λ w. w.notes) notes_of
        (of_notes digest) keep skips opened final events answers of run mirror v found q h;
  }

done_exact : (answers : List Answer) → AllByRecursion (λ a. is_done a ≡ true → IsExact a) answers
done_exact [] = tt
done_exact (a ∷ rest) = (one a, done_exact rest)
  where
    one : (a : Answer) → is_done a ≡ true → IsExact a
    one Done h = inl refl
    one Refused h = inr refl
    one Clashed h = absurd (cc h)
    one Exhausted h = absurd (cc h)

skips_none : (a : Answer) → may_change a ≡ false → ChangesNothing a
skips_none Done h = absurd (cc h)
skips_none Refused h = inl refl
skips_none Clashed h = inr refl
skips_none Exhausted h = absurd (cc h)

pub run_is_bounded : ForMirrors RunIsBounded
run_is_bounded digest origin keys opened final events answers r mirror v found = record {
  lower = has_reached digest origin keys opened final events answers r.of_origin r.run is_done
      (done_exact answers) mirror v found;
  upper = reached_only digest origin keys opened final events answers r.of_origin r.run may_change skips_none
      mirror v found;
}

abbrev all_of : Answer → Bool
all_of a = true

all_events : (digest : List ℕ → List ℕ) (keys : List Key) (old new : List View) (events : List Event)
    (answers : List Answer) → Run digest keys old events answers new → events_of all_of events answers ≡ events
all_events digest keys old new [] answers run = refl
all_events digest keys old new (e ∷ es) [] run = absurd run
all_events digest keys old new (e ∷ es) (a ∷ rest) run =
    ap (λ fs. e ∷ fs) (all_events digest keys run.0 new es rest run.2)

-- ---- repeated events

open_once : (e : Event) (es : List Event) (opened mirror : ℕ) → OpeningReaches opened mirror (e ∷ e ∷ es) →
    OpeningReaches opened mirror (e ∷ es)
open_once e es opened mirror h =
    elim (open_first e (e ∷ es) opened mirror h) [
      | inl on ↦ on
      | inr b ↦ elim (open_first e es b.target mirror b.on) [
        | inl on ↦ subst (λ f. OpeningReaches opened mirror (f ∷ es)) (sym b.is) (open_by es b.target opened mirror on)
        | inr c ↦
            let same : Merge b.target opened ≡ Merge c.target b.target = sym b.is ∙ c.is in
            let target_is : c.target ≡ b.target = sym (cc same) in
            subst (λ f. OpeningReaches opened mirror (f ∷ es)) (sym b.is)
            (open_by es b.target opened mirror (subst (λ n. OpeningReaches n mirror es) target_is c.on))
      ]
    ]

item_once : (e : Event) (es : List Event) (item : Item) (mirror : ℕ) → Reaches item mirror (e ∷ e ∷ es) →
    Reaches item mirror (e ∷ es)
item_once e es item mirror h =
    elim (item_first e (e ∷ es) item mirror h) [
      | inl on ↦ on
      | inr b ↦ elim (open_first e es b.target mirror b.on) [
        | inl on ↦ subst (λ f. Reaches item mirror (f ∷ es)) (sym b.is) (item_by es b.target item mirror on)
        | inr c ↦ take_is_no_merge b.target item c.target b.target (sym b.is ∙ c.is)
      ]
    ]

-- an event that the same event follows can be left out
open_next : (e : Event) (es : List Event) → IsNext e es → (opened mirror : ℕ) → OpeningReaches opened mirror (e ∷ es) →
    OpeningReaches opened mirror es
open_next e [] same opened mirror h = absurd same
open_next e (f ∷ es) same opened mirror h =
    open_once f es opened mirror (subst (λ g. OpeningReaches opened mirror (g ∷ f ∷ es)) (sym same) h)

item_next : (e : Event) (es : List Event) → IsNext e es → (item : Item) (mirror : ℕ) → Reaches item mirror (e ∷ es) →
    Reaches item mirror es
item_next e [] same item mirror h = absurd same
item_next e (f ∷ es) same item mirror h =
    item_once f es item mirror (subst (λ g. Reaches item mirror (g ∷ f ∷ es)) (sym same) h)

open_kept : (e : Event) (es fs : List Event) →
    ((opened mirror : ℕ) → OpeningReaches opened mirror es → OpeningReaches opened mirror fs) → (opened mirror : ℕ) →
    OpeningReaches opened mirror (e ∷ es) → OpeningReaches opened mirror (e ∷ fs)
open_kept e es fs on opened mirror h =
    elim (open_first e es opened mirror h) [
      | inl a ↦ open_later e fs opened mirror (on opened mirror a)
      | inr b ↦ subst (λ f. OpeningReaches opened mirror (f ∷ fs)) (sym b.is)
          (open_by fs b.target opened mirror (on b.target mirror b.on))
    ]

item_kept : (e : Event) (es fs : List Event) →
    ((opened mirror : ℕ) → OpeningReaches opened mirror es → OpeningReaches opened mirror fs) →
    ((item : Item) (mirror : ℕ) → Reaches item mirror es → Reaches item mirror fs) → (item : Item) (mirror : ℕ) →
    Reaches item mirror (e ∷ es) → Reaches item mirror (e ∷ fs)
item_kept e es fs on more item mirror h =
    elim (item_first e es item mirror h) [
      | inl a ↦ item_later e fs item mirror (more item mirror a)
      | inr b ↦ subst (λ f. Reaches item mirror (f ∷ fs)) (sym b.is)
          (item_by fs b.target item mirror (on b.target mirror b.on))
    ]

-- the event did not run out of memory
abbrev is_answered : Answer → Bool
is_answered Done = true
is_answered Refused = true
is_answered Clashed = true
is_answered Exhausted = false

-- an opening view that reaches a mirror does so by the events that did not run out of memory
open_answered : (es : List Event) (as' : List Answer) → length es ≡ length as' → AreRetried es as' →
    (opened mirror : ℕ) → OpeningReaches opened mirror es → OpeningReaches opened mirror (events_of is_answered es as')
open_answered [] as' len h opened mirror on = on
open_answered (e ∷ es) [] len h opened mirror on = absurd (omega (arith, len))
open_answered (e ∷ es) (Done ∷ as') len h opened mirror on =
    open_kept e es (events_of is_answered es as') (open_answered es as' (omega (arith, len)) h) opened mirror on
open_answered (e ∷ es) (Refused ∷ as') len h opened mirror on =
    open_kept e es (events_of is_answered es as') (open_answered es as' (omega (arith, len)) h) opened mirror on
open_answered (e ∷ es) (Clashed ∷ as') len h opened mirror on =
    open_kept e es (events_of is_answered es as') (open_answered es as' (omega (arith, len)) h) opened mirror on
open_answered (e ∷ es) (Exhausted ∷ as') len h opened mirror on =
    open_answered es as' (omega (arith, len)) h.1 opened mirror (open_next e es h.0 opened mirror on)

item_answered : (es : List Event) (as' : List Answer) → length es ≡ length as' → AreRetried es as' →
    (item : Item) (mirror : ℕ) → Reaches item mirror es → Reaches item mirror (events_of is_answered es as')
item_answered [] as' len h item mirror on = on
item_answered (e ∷ es) [] len h item mirror on = absurd (omega (arith, len))
item_answered (e ∷ es) (Done ∷ as') len h item mirror on =
    item_kept e es (events_of is_answered es as') (open_answered es as' (omega (arith, len)) h)
    (item_answered es as' (omega (arith, len)) h) item mirror on
item_answered (e ∷ es) (Refused ∷ as') len h item mirror on =
    item_kept e es (events_of is_answered es as') (open_answered es as' (omega (arith, len)) h)
    (item_answered es as' (omega (arith, len)) h) item mirror on
item_answered (e ∷ es) (Clashed ∷ as') len h item mirror on =
    item_kept e es (events_of is_answered es as') (open_answered es as' (omega (arith, len)) h)
    (item_answered es as' (omega (arith, len)) h) item mirror on
item_answered (e ∷ es) (Exhausted ∷ as') len h item mirror on =
    item_answered es as' (omega (arith, len)) h.1 item mirror (item_next e es h.0 item mirror on)

pub run_lengths : (digest : List ℕ → List ℕ) (keys : List Key) (old new : List View) (es : List Event)
    (as' : List Answer) → Run digest keys old es as' new → length es ≡ length as'
run_lengths digest keys old new [] [] run = refl
run_lengths digest keys old new (e ∷ es) (a ∷ as') run = ap suc (run_lengths digest keys run.0 new es as' run.2)
run_lengths digest keys old new [] (a ∷ as') run = absurd run
run_lengths digest keys old new (e ∷ es) [] run = absurd run

-- answers without OutOfMemory and without collisions are exact
answered_exact : (answers : List Answer) → (Contains answers Clashed → ⊥) →
    AllByRecursion (λ a. is_answered a ≡ true → IsExact a) answers
answered_exact [] apart = tt
answered_exact (a ∷ more) apart = (one a apart, answered_exact more (λ c. apart (suc c.0, omega (arith, c.1), c.2)))
  where
    one : (a : Answer) → (Contains (a ∷ more) Clashed → ⊥) → is_answered a ≡ true → IsExact a
    one Done c h = inl refl
    one Refused c h = inr refl
    one Clashed c h = absurd (c (0, omega arith, refl))
    one Exhausted c h = absurd (cc h)

pub run_origin : (digest : List ℕ → List ℕ) (keys : List Key) (origin : List ℕ) (old new : List View) (es : List Event)
    (rest : List Answer) → AreOf origin old → Run digest keys old es rest new → AreOf origin new
run_origin digest keys origin old new [] [] of run = subst (AreOf origin) (sym run) of
run_origin digest keys origin old new (e ∷ es) (a ∷ rest) of run =
    run_origin digest keys origin run.0 new es rest (event_origin digest keys origin old run.0 e a run.1 of) run.2
run_origin digest keys origin old new [] (a ∷ rest) of run = absurd run
run_origin digest keys origin old new (e ∷ es) [] of run = absurd run

pub run_is_reached : ForMirrors RunIsReached
run_is_reached digest origin keys opened final events answers r apart retried mirror v found =
    let of = r.of_origin in
    let run = r.run in
    let all = all_events digest keys opened final events answers run in
    let len = run_lengths digest keys opened final events answers run in
    let had =
    has_reached digest origin keys opened final events answers of run is_answered
    (answered_exact answers apart) mirror v found in
    record {
      origin_is = run_origin digest keys origin opened final events answers of run mirror v found;
      has = record {
        strings = λ q h. had.strings q (elim h [
          | inl o ↦ inl
              (record {
                number =
                    o.number;
                view =
                    o.view;
                is =
                    o.is;
                reaches = open_answered events answers len retried o.number mirror o.reaches;
                has = o.has;
              })
          | inr t ↦ inr
              (record {
                item =
                    t.item;
                good =
                    t.good;
                reaches = item_answered events answers len retried t.item mirror t.reaches;
                has = t.has;
              })
        ]);
        notes = λ q h. had.notes q (elim h [
          | inl o ↦ inl
              (record {
                number =
                    o.number;
                view =
                    o.view;
                is =
                    o.is;
                reaches = open_answered events answers len retried o.number mirror o.reaches;
                has = o.has;
              })
          | inr t ↦ inr
              (record {
                item =
                    t.item;
                good =
                    t.good;
                reaches = item_answered events answers len retried t.item mirror t.reaches;
                has = t.has;
              })
        ]);
      };
      only = subst (λ es. HasReachedOnly digest origin keys opened es mirror v) all
          (reached_only digest origin keys opened final events answers of run all_of
          (λ a h. absurd (cc h)) mirror v found);
    }

-- ---- no collision

module _ (digest : List ℕ → List ℕ) (origin : List ℕ) (keys : List Key) (M : List ℕ → Type 0)
    (clean : (x y : List ℕ) → M x → M y → digest x ≡ digest y → x ≡ y) where
  abbrev AllMet : List View → Type 0
  AllMet world = (number : ℕ) (v : View) → slice_get world number ≡ Some v → (q : List ℕ) → Has v.strings q → M q

  abbrev AllTaken : List Event → Type 0
  AllTaken events =
      (position target : ℕ) (item : Item) → slice_get events position ≡ Some (Take target item) →
      IsGood digest origin keys item → (q : List ℕ) → Contains (strings_of digest item) q → M q

  no_clash_of : (v : Strings) → ((q : List ℕ) → Has v q → M q) → HasClash digest v → ⊥
  no_clash_of v all c =
      c.differ (clean c.first c.second (all c.first c.first_held) (all c.second c.second_held) c.same_digest)

  plus_met : (old : List View) (number : ℕ) (v : View) → slice_get old number ≡ Some v → AreOf origin old → AllMet old →
      (es : List Event) (target : ℕ) (item : Item) → AllTaken (Take target item ∷ es) →
      IsGood digest v.origin keys item → (q : List ℕ) → Has (plus digest v item).strings q → M q
  plus_met old number v found of met es target item taken good q h =
      elim (has_cases v.strings (set.from_list (strings_of digest item)) q h) [
        | inl a ↦ met number v found q a
        | inr b ↦ taken 0 target item refl (subst (λ o. IsGood digest o keys item) (of number v found) good) q
            (listed_from_has _ q b)
      ]

  union_met : (old : List View) (number other : ℕ) (v w : View) → slice_get old number ≡ Some v →
      slice_get old other ≡ Some w → AllMet old → (q : List ℕ) → Has (union v w).strings q → M q
  union_met old number other v w found found_other met q h =
      elim (has_cases v.strings w.strings q h) [ inl a ↦ met number v found q a | inr b ↦ met other w found_other q b ]

  event_clean : (old mid : List View) (e : Event) (es : List Event) (a : Answer) → AreOf origin old → AllMet old →
      AllTaken (e ∷ es) → Happens digest keys old e a mid → a ≡ Clashed → ⊥
  event_clean old mid (Take target item) es a of met taken h is =
      let c : Answers digest h.before (IsGood digest h.before.origin keys item)
      (plus digest h.before item) Clashed h.after =
      subst (λ b. Answers digest h.before (IsGood digest h.before.origin keys item)
      (plus digest h.before item) b h.after) is h.takes in
      no_clash_of (plus digest h.before item).strings
      (plus_met old target h.before h.found of met es target item taken c.0) c.1
  event_clean old mid (Merge target source) es a of met taken h is =
      let c : Answers digest h.before (h.before.origin ≡ h.other.origin) (union h.before h.other) Clashed h.after =
      subst (λ b. Answers digest h.before (h.before.origin ≡ h.other.origin)
      (union h.before h.other) b h.after) is h.merges in
      no_clash_of (union h.before h.other).strings
      (union_met old target source h.before h.other h.found h.found_other met) c.1

  event_met : (old mid : List View) (e : Event) (es : List Event) (a : Answer) → AreOf origin old → AllMet old →
      AllTaken (e ∷ es) → Happens digest keys old e a mid → AllMet mid
  event_met old mid (Take target item) es a of met taken h number v found q has =
      elim (set_back digest keys old mid target h.after h.set h.before h.found number v found) [
        | inl same ↦ met number v same q has
        | inr b ↦
            let has' : Has h.after.strings q = subst (λ w. Has w.strings q) b.1 has in
            elim (answer_within digest (IsGood digest h.before.origin keys item) (plus digest h.before item) h.before
            (within_plus digest h.before item) a h.after h.takes) [
              | inl same ↦ met target h.before h.found q (subst (λ w. Has w.strings q) same has')
              | inr changed ↦ plus_met old target h.before h.found of met es target item taken changed.0 q
                  (changed.1.strings_are q has')
            ]
      ]
  event_met old mid (Merge target source) es a of met taken h number v found q has =
      elim (set_back digest keys old mid target h.after h.set h.before h.found number v found) [
        | inl same ↦ met number v same q has
        | inr b ↦
            let has' : Has h.after.strings q = subst (λ w. Has w.strings q) b.1 has in
            elim (answer_within digest (h.before.origin ≡ h.other.origin) (union h.before h.other) h.before
            (within_union h.before h.other) a h.after h.merges) [
              | inl same ↦ met target h.before h.found q (subst (λ w. Has w.strings q) same has')
              | inr changed ↦ union_met old target source h.before h.other h.found h.found_other met q
                  (changed.1.strings_are q has')
            ]
      ]

  run_clean : (old new : List View) (es : List Event) (rest : List Answer) → AreOf origin old → AllMet old →
      AllTaken es → Run digest keys old es rest new → AllByRecursion (λ a. a ≡ Clashed → ⊥) rest
  run_clean old new [] [] of met taken run = tt
  run_clean old new (e ∷ es) (a ∷ rest) of met taken run = (
    event_clean old run.0 e es a of met taken run.1,
    run_clean run.0 new es rest (event_origin digest keys origin old run.0 e a run.1 of)
        (event_met old run.0 e es a of met taken run.1)
        (λ position target item is. taken (suc position) target item is) run.2,
  )
  run_clean old new [] (a ∷ rest) of met taken run = absurd run
  run_clean old new (e ∷ es) [] of met taken run = absurd run

pub none_clashes : ForMirrors NoneClashes
none_clashes digest origin keys opened final events answers r clean c =
    let M : List ℕ → Type 0 = IsMet digest origin keys opened events in
    let all =
    run_clean digest origin keys M clean opened final events answers r.of_origin
    (λ number v is q has. inl (record { number = number; view = v; is = is; has = has }))
    (λ position target item is good q has. inr
    (record { position = position; target = target; item = item; is = is; good = good; has = has })) r.run in
    All-contains (λ a. a ≡ Clashed → ⊥) answers Clashed (All-from_recursion (λ a. a ≡ Clashed → ⊥) answers all) c refl
