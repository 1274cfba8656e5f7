-- The refusals that the events of a play give.
use Rattle.std.proofs.Common.{◌≡◌, ℕ, ◌+◌, ◌<◌, List, [], ◌∷◌, ◌++◌, length, take, set, get_or, Some, Result}
use Rattle.std.proofs.Common.{sym, ap, subst, ◌∙◌}
use Rattle.std.specs.Prelude.{slice_get, option_map}
use Rattle.std.proofs.lemmas.List.{take_more}
use Rattle.std.proofs.lemmas.Option.{slice_get-map, slice_get-get_or}
use Rattle.std.proofs.Math.Seq.{map-set_same}
use Rattle.signed_note.specs.Keys.{Key}
use Rattle.mirror_model.specs.Marks.{State}
use Rattle.mirror_model.specs.Steps.{Answer, Takes, Merges}
use Rattle.mirror_model.specs.View.{View}
use Rattle.mirror_model.specs.declared.events.Event.{Event}
use Rattle.mirror_model.specs.declared.fault.TakeFault.{TakeFault}
use Rattle.mirror_model.specs.declared.items.Item.{Item}
use Rattle.mirror_model.proofs.Happening.{takes_grow, merges_grow}
use Rattle.tlog_mirror.specs.Plays.{JudgesEvent, JudgesEvents, origins_of}
use Rattle.tlog_mirror.specs.Judged.{JudgesItem}

module _ (digest : List ℕ → List ℕ) (keys : List Key) where
  -- ---- one mirror of several takes an item

  module _ (world : List State) (target : ℕ) (d : State) (here : target < length world) where
    pub judged_at : (item : Item) (answer : Result (Unit {0}) TakeFault) →
        JudgesItem digest keys (get_or world target d).view.origin item answer → (origin : List ℕ) →
        slice_get (origins_of world) target ≡ Some origin → JudgesItem digest keys origin item answer
    judged_at item answer judged origin at =
        let found =
        slice_get-map (λ (s : State). s.view.origin) world target ∙
        ap (option_map (λ (s : State). s.view.origin)) (slice_get-get_or world target d here) in
        let same : Some (get_or world target d).view.origin ≡ Some origin = sym found ∙ at in
        subst (λ o. JudgesItem digest keys o item answer) (cc same) judged

    pub taken_origins : (item : Item) (answer : Answer) (w : State) →
        Takes digest keys (get_or world target d).view item answer w.view →
        origins_of (set world target w) ≡ origins_of world
    taken_origins item answer w takes =
        map-set_same (λ (s : State). s.view.origin) world target w d
        (sym (takes_grow digest keys (get_or world target d).view w.view item answer takes).origin_is)

  -- ---- one more event

  one_more : (origins : List (List ℕ)) (events : List Event) (answers : List (Result (Unit {0}) TakeFault))
      (event : Event) (answer : Result (Unit {0}) TakeFault) → JudgesEvents digest keys origins events answers →
      JudgesEvent digest keys origins event answer →
      JudgesEvents digest keys origins (events ++ event ∷ []) (answers ++ answer ∷ [])
  one_more origins [] [] event answer judged last = (last, tt)
  one_more origins (e ∷ events) (a ∷ answers) event answer judged last =
      (judged.0, one_more origins events answers event answer judged.1 last)
  one_more origins [] (a ∷ answers) event answer judged last = absurd judged
  one_more origins (e ∷ events) [] event answer judged last = absurd judged

  pub judged_more :
      (origins : List (List ℕ)) (events : List Event) (i : ℕ) (event : Event) → i < length events →
      event ≡ get_or events i event →
      (answers all : List (Result (Unit {0}) TakeFault)) (answer : Result (Unit {0}) TakeFault) →
      all ≡ answers ++ answer ∷ [] →
      JudgesEvents digest keys origins (take i events) answers → JudgesEvent digest keys origins event answer →
      JudgesEvents digest keys origins (take (i + 1) events) all
  judged_more origins events i event lt is answers all answer items judged last =
      let more : take (i + 1) events ≡ take i events ++ event ∷ [] =
      take_more events i event lt ∙ ap (λ x. take i events ++ x ∷ []) (sym is) in
      rw (more, items) (one_more origins (take i events) answers event answer judged last)

-- one of several mirrors is merged with another
pub merged_origins : (digest : List ℕ → List ℕ) (world : List State) (target : ℕ) (d before w : State) (other : View)
    (answer : Answer) → get_or world target d ≡ before → Merges digest before.view other answer w.view →
    origins_of (set world target w) ≡ origins_of world
merged_origins digest world target d before w other answer is merges =
    map-set_same (λ (s : State). s.view.origin) world target w d
    (sym (merges_grow digest before.view other w.view answer merges).origin_is ∙
    ap (λ (s : State). s.view.origin) (sym is))
