-- The items that reach a mirror, by the first event of a list, by the last one, and by a fold.
use Rattle.std.proofs.Common.{zero, suc, ◌≡◌, ℕ, ◌+◌, List, [], ◌∷◌, ◌++◌, Some, None, sym, refl, ◌∙◌, subst, ◌⊎◌, inl}
use Rattle.std.proofs.Common.{inr, arith}
use Rattle.std.specs.Prelude.{slice_get}
use Rattle.mirror_model.specs.declared.items.Item.{Item}
use Rattle.mirror_model.specs.declared.events.Event.{Event}
use Rattle.mirror_model.specs.declared.events.Event.TheVariants.{Take, Merge}
use Rattle.mirror_model.specs.Events.{MergesLead, Reaches, OpeningReaches}
use Rattle.mirror_model.specs.ReachLaws.{ReachesGoByLast, OpeningReachesGoByLast}

-- ---- positions after one more event

later : (e : Event) (es : List Event) (first source : ℕ) (ps : List ℕ) (end : ℕ) → MergesLead es first source ps end →
    (qs : List ℕ) × MergesLead (e ∷ es) (suc first) source qs end
later e es first source [] end h = ([], h)
later e es first source (p ∷ ps) end h =
    let next : p + 1 ≡ suc p = omega arith in
    let rest = later e es (p + 1) h.0 ps end h.3 in
    let next' : suc (p + 1) ≡ suc p + 1 = omega arith in
    (suc p ∷ rest.0, (h.0, omega (arith, h.1), h.2, subst (λ n. MergesLead (e ∷ es) n h.0 rest.0 end) next' rest.1))

earlier : (e : Event) (es : List Event) (first source : ℕ) (ps : List ℕ) (end : ℕ) →
    MergesLead (e ∷ es) (suc first) source ps end → (qs : List ℕ) × MergesLead es first source qs end
earlier e es first source [] end h = ([], h)
earlier e es first source (zero ∷ ps) end h = absurd (omega (arith, h.1))
earlier e es first source (suc p ∷ ps) end h =
    let next : suc p + 1 ≡ suc (p + 1) = omega arith in
    let rest = earlier e es (p + 1) h.0 ps end (subst (λ n. MergesLead (e ∷ es) n h.0 ps end) next h.3) in
    (p ∷ rest.0, (h.0, omega (arith, h.1), h.2, rest.1))

-- ---- by the first event

-- the first event is a merge with the mirror as its source, and the rest lead on from its target
pub record GoesBy (e : Event) (es : List Event) (opened mirror : ℕ) : Type 0 where
  pub target : ℕ
  pub is : e ≡ Merge target opened
  pub on : OpeningReaches target mirror es

pub open_none : (opened mirror : ℕ) → OpeningReaches opened mirror [] → opened ≡ mirror
open_none opened mirror h = at h.merges h.lead
  where
    at : (ps : List ℕ) → MergesLead [] 0 opened ps mirror → opened ≡ mirror
    at [] l = l
    at (p ∷ ps) l = absurd (let none : None ≡ Some (Merge l.0 opened) = l.2 in cc none)

pub open_itself : (mirror : ℕ) (es : List Event) → OpeningReaches mirror mirror es
open_itself mirror es = record { merges = []; lead = refl }

pub open_first : (e : Event) (es : List Event) (opened mirror : ℕ) → OpeningReaches opened mirror (e ∷ es) →
    OpeningReaches opened mirror es ⊎ GoesBy e es opened mirror
open_first e es opened mirror h = at h.merges h.lead
  where
    at : (ps : List ℕ) → MergesLead (e ∷ es) 0 opened ps mirror →
        OpeningReaches opened mirror es ⊎ GoesBy e es opened mirror
    at [] l = inl (record { merges = []; lead = l })
    at (zero ∷ ps) l =
        let is : Some e ≡ Some (Merge l.0 opened) = l.2 in
        let one : zero + 1 ≡ suc 0 = refl in
        let rest = earlier e es 0 l.0 ps mirror l.3 in
        inr (record { target = l.0; is = cc is; on = record { merges = rest.0; lead = rest.1 } })
    at (suc p ∷ ps) l =
        let rest = earlier e es 0 opened (suc p ∷ ps) mirror (l.0, omega arith, l.2, l.3) in
        inl (record { merges = rest.0; lead = rest.1 })

pub open_later : (e : Event) (es : List Event) (opened mirror : ℕ) → OpeningReaches opened mirror es →
    OpeningReaches opened mirror (e ∷ es)
open_later e es opened mirror h = from_zero (later e es 0 opened h.merges mirror h.lead)
  where
    from_zero : ((qs : List ℕ) × MergesLead (e ∷ es) 1 opened qs mirror) → OpeningReaches opened mirror (e ∷ es)
    from_zero ([], l) = record { merges = []; lead = l }
    from_zero (p ∷ ps, l) = record { merges = p ∷ ps; lead = (l.0, omega arith, l.2, l.3) }

pub open_by : (es : List Event) (target source mirror : ℕ) → OpeningReaches target mirror es →
    OpeningReaches source mirror (Merge target source ∷ es)
open_by es target source mirror h =
    let rest = later (Merge target source) es 0 target h.merges mirror h.lead in
    record { merges = zero ∷ rest.0; lead = (target, omega arith, refl, rest.1) }

-- the first event is a take of the item, and the rest lead on from its target
pub record BeginsBy (e : Event) (es : List Event) (item : Item) (mirror : ℕ) : Type 0 where
  pub target : ℕ
  pub is : e ≡ Take target item
  pub on : OpeningReaches target mirror es

pub item_none : (item : Item) (mirror : ℕ) → Reaches item mirror [] → ⊥
item_none item mirror h = let none : None ≡ Some (Take h.target item) = h.take in cc none

pub item_first : (e : Event) (es : List Event) (item : Item) (mirror : ℕ) → Reaches item mirror (e ∷ es) →
    Reaches item mirror es ⊎ BeginsBy e es item mirror
item_first e es item mirror h = at h.position h.take h.lead
  where
    at : (p : ℕ) → slice_get (e ∷ es) p ≡ Some (Take h.target item) →
        MergesLead (e ∷ es) (p + 1) h.target h.merges mirror → Reaches item mirror es ⊎ BeginsBy e es item mirror
    at zero t l =
        let is : Some e ≡ Some (Take h.target item) = t in
        let rest = earlier e es 0 h.target h.merges mirror l in
        inr (record { target = h.target; is = cc is; on = record { merges = rest.0; lead = rest.1 } })
    at (suc p) t l =
        let next : suc p + 1 ≡ suc (p + 1) = omega arith in
        let rest =
        earlier e es (p + 1) h.target h.merges mirror
        (subst (λ n. MergesLead (e ∷ es) n h.target h.merges mirror) next l) in
        inl (record { position = p; target = h.target; take = t; merges = rest.0; lead = rest.1 })

pub item_later : (e : Event) (es : List Event) (item : Item) (mirror : ℕ) → Reaches item mirror es →
    Reaches item mirror (e ∷ es)
item_later e es item mirror h =
    let next : suc (h.position + 1) ≡ suc h.position + 1 = omega arith in
    let rest = later e es (h.position + 1) h.target h.merges mirror h.lead in
    record {
      position =
          suc h.position;
      target =
          h.target;
      take =
          h.take;
      merges = rest.0;
      lead = subst (λ n. MergesLead (e ∷ es) n h.target rest.0 mirror) next rest.1;
    }

pub item_by : (es : List Event) (target : ℕ) (item : Item) (mirror : ℕ) → OpeningReaches target mirror es →
    Reaches item mirror (Take target item ∷ es)
item_by es target item mirror h =
    let rest = later (Take target item) es 0 target h.merges mirror h.lead in
    record { position = 0; target = target; take = refl; merges = rest.0; lead = rest.1 }

-- ---- by the last event

pub take_is_no_merge : {X : Type 0} (t : ℕ) (x : Item) (target source : ℕ) → Take t x ≡ Merge target source → X
take_is_no_merge t x target source e = absurd (cc e)

open_take_to : (es : List Event) (t : ℕ) (x : Item) (opened mirror : ℕ) →
    OpeningReaches opened mirror (es ++ Take t x ∷ []) → OpeningReaches opened mirror es
open_take_to [] t x opened mirror h =
    elim (open_first (Take t x) [] opened mirror h) [ inl a ↦ a | inr b ↦ take_is_no_merge t x b.target opened b.is ]
open_take_to (e ∷ es) t x opened mirror h =
    elim (open_first e (es ++ Take t x ∷ []) opened mirror h) [
      | inl a ↦ open_later e es opened mirror (open_take_to es t x opened mirror a)
      | inr b ↦ subst (λ f. OpeningReaches opened mirror (f ∷ es)) (sym b.is)
          (open_by es b.target opened mirror (open_take_to es t x b.target mirror b.on))
    ]

pub open_more : (es more : List Event) (opened mirror : ℕ) → OpeningReaches opened mirror es →
    OpeningReaches opened mirror (es ++ more)
open_more [] more opened mirror h =
    subst (λ m. OpeningReaches opened m more) (open_none opened mirror h) (open_itself opened more)
open_more (e ∷ es) more opened mirror h =
    elim (open_first e es opened mirror h) [
      | inl a ↦ open_later e (es ++ more) opened mirror (open_more es more opened mirror a)
      | inr b ↦ subst (λ f. OpeningReaches opened mirror (f ∷ (es ++ more))) (sym b.is)
          (open_by (es ++ more) b.target opened mirror (open_more es more b.target mirror b.on))
    ]

open_merge_to : (es : List Event) (target source opened mirror : ℕ) →
    OpeningReaches opened mirror (es ++ Merge target source ∷ []) →
    OpeningReaches opened mirror es ⊎ ((mirror ≡ target) × OpeningReaches opened source es)
open_merge_to [] target source opened mirror h =
    elim (open_first (Merge target source) [] opened mirror h) [
      | inl a ↦ inl a
      | inr b ↦
          let here : Merge target source ≡ Merge b.target opened = b.is in
          let t : target ≡ b.target = cc here in
          let s : source ≡ opened = cc here in
          inr (
            sym (t ∙ open_none b.target mirror b.on),
            subst (λ m. OpeningReaches opened m []) (sym s) (open_itself opened []),
          )
    ]
open_merge_to (e ∷ es) target source opened mirror h =
    elim (open_first e (es ++ Merge target source ∷ []) opened mirror h) [
      | inl a ↦ elim
          (open_merge_to es target source opened mirror a) [
            | inl c ↦ inl (open_later e es opened mirror c)
            | inr d ↦ inr
                (d.0, open_later e es opened source d.1)
          ]
      | inr b ↦ elim (open_merge_to es target source b.target mirror b.on) [
        | inl c ↦ inl
            (subst (λ f. OpeningReaches opened mirror (f ∷ es)) (sym b.is) (open_by es b.target opened mirror c))
        | inr d ↦ inr
            (d.0, subst (λ f. OpeningReaches opened source (f ∷ es)) (sym b.is) (open_by es b.target opened source d.1))
      ]
    ]

open_merge_from : (es : List Event) (target source opened : ℕ) → OpeningReaches opened source es →
    OpeningReaches opened target (es ++ Merge target source ∷ [])
open_merge_from [] target source opened h =
    subst (λ o. OpeningReaches o target (Merge target source ∷ [])) (sym (open_none opened source h))
    (open_by [] target source target (open_itself target []))
open_merge_from (e ∷ es) target source opened h =
    elim (open_first e es opened source h) [
      | inl a ↦ open_later e (es ++ Merge target source ∷ []) opened target (open_merge_from es target source opened a)
      | inr b ↦ subst (λ f. OpeningReaches opened target (f ∷ (es ++ Merge target source ∷ []))) (sym b.is)
          (open_by (es ++ Merge target source ∷ []) b.target opened target
          (open_merge_from es target source b.target b.on))
    ]

pub openings_go_by_last : OpeningReachesGoByLast
openings_go_by_last es = record {
  none = λ opened mirror. (
    open_none opened mirror,
    λ e. subst (λ m. OpeningReaches opened m []) e (open_itself opened []),
  );
  take = λ t x opened mirror. (open_take_to es t x opened mirror, open_more es (Take t x ∷ []) opened mirror);
  merge = λ target source opened mirror. (
    open_merge_to es target source opened mirror,
    λ h. elim h [
      | inl a ↦ open_more es (Merge target source ∷ []) opened mirror a
      | inr b ↦ subst (λ m. OpeningReaches opened m (es ++ Merge target source ∷ [])) (sym b.0)
          (open_merge_from es target source opened b.1)
    ],
  );
}

item_take_to : (es : List Event) (t : ℕ) (x item : Item) (mirror : ℕ) → Reaches item mirror (es ++ Take t x ∷ []) →
    Reaches item mirror es ⊎ ((mirror ≡ t) × (item ≡ x))
item_take_to [] t x item mirror h =
    elim (item_first (Take t x) [] item mirror h) [
      | inl a ↦ inl a
      | inr b ↦
          let here : Take t x ≡ Take b.target item = b.is in
          let same_t : t ≡ b.target = cc here in
          let same_x : x ≡ item = cc here in
          inr (sym (same_t ∙ open_none b.target mirror b.on), sym same_x)
    ]
item_take_to (e ∷ es) t x item mirror h =
    elim (item_first e (es ++ Take t x ∷ []) item mirror h) [
      | inl a ↦ elim (item_take_to es t x item mirror a) [ inl c ↦ inl (item_later e es item mirror c) | inr d ↦ inr d ]
      | inr b ↦ inl
          (subst (λ f. Reaches item mirror (f ∷ es)) (sym b.is)
          (item_by es b.target item mirror (open_take_to es t x b.target mirror b.on)))
    ]

item_more : (es more : List Event) (item : Item) (mirror : ℕ) → Reaches item mirror es →
    Reaches item mirror (es ++ more)
item_more [] more item mirror h = absurd (item_none item mirror h)
item_more (e ∷ es) more item mirror h =
    elim (item_first e es item mirror h) [
      | inl a ↦ item_later e (es ++ more) item mirror (item_more es more item mirror a)
      | inr b ↦ subst (λ f. Reaches item mirror (f ∷ (es ++ more))) (sym b.is)
          (item_by (es ++ more) b.target item mirror (open_more es more b.target mirror b.on))
    ]

item_take_from : (es : List Event) (t : ℕ) (x : Item) → Reaches x t (es ++ Take t x ∷ [])
item_take_from [] t x = item_by [] t x t (open_itself t [])
item_take_from (e ∷ es) t x = item_later e (es ++ Take t x ∷ []) x t (item_take_from es t x)

item_merge_to : (es : List Event) (target source : ℕ) (item : Item) (mirror : ℕ) →
    Reaches item mirror (es ++ Merge target source ∷ []) →
    Reaches item mirror es ⊎ ((mirror ≡ target) × Reaches item source es)
item_merge_to [] target source item mirror h =
    elim (item_first
    (Merge target source) [] item mirror h) [
      | inl a ↦ inl a
      | inr b ↦ take_is_no_merge b.target item target source
          (sym b.is)
    ]
item_merge_to (e ∷ es) target source item mirror h =
    elim (item_first e (es ++ Merge target source ∷ []) item mirror h) [
      | inl a ↦ elim
          (item_merge_to es target source item mirror a) [
            | inl c ↦ inl (item_later e es item mirror c)
            | inr d ↦ inr
                (d.0, item_later e es item source d.1)
          ]
      | inr b ↦ elim (open_merge_to es target source b.target mirror b.on) [
        | inl c ↦ inl (subst (λ f. Reaches item mirror (f ∷ es)) (sym b.is) (item_by es b.target item mirror c))
        | inr d ↦ inr (d.0, subst (λ f. Reaches item source (f ∷ es)) (sym b.is) (item_by es b.target item source d.1))
      ]
    ]

item_merge_from : (es : List Event) (target source : ℕ) (item : Item) → Reaches item source es →
    Reaches item target (es ++ Merge target source ∷ [])
item_merge_from [] target source item h = absurd (item_none item source h)
item_merge_from (e ∷ es) target source item h =
    elim (item_first e es item source h) [
      | inl a ↦ item_later e (es ++ Merge target source ∷ []) item target (item_merge_from es target source item a)
      | inr b ↦ subst (λ f. Reaches item target (f ∷ (es ++ Merge target source ∷ []))) (sym b.is)
          (item_by (es ++ Merge target source ∷ []) b.target item target
          (open_merge_from es target source b.target b.on))
    ]

pub reaches_go_by_last : ReachesGoByLast
reaches_go_by_last es = record {
  none = item_none;
  take = λ t x item mirror. (
    item_take_to es t x item mirror,
    λ h. elim h [
      | inl a ↦ item_more es (Take t x ∷ []) item mirror a
      | inr b ↦ subst (λ m. Reaches item m (es ++ Take t x ∷ [])) (sym b.0)
          (subst (λ y. Reaches y t (es ++ Take t x ∷ [])) (sym b.1) (item_take_from es t x))
    ],
  );
  merge = λ target source item mirror. (
    item_merge_to es target source item mirror,
    λ h. elim h [
      | inl a ↦ item_more es (Merge target source ∷ []) item mirror a
      | inr b ↦ subst (λ m. Reaches item m (es ++ Merge target source ∷ [])) (sym b.0)
          (item_merge_from es target source item b.1)
    ],
  );
}
