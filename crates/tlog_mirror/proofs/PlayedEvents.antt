-- Events on mirrors and the views: one more event, and one event again.
use Rattle.std.proofs.Common.{◌≡◌, ℕ, zero, suc, ◌+◌, ◌-◌, ◌<◌, List, [], ◌∷◌, ◌++◌, length, map, take, set}
use Rattle.std.proofs.Common.{get_or, Some, refl, sym, ap, subst, ◌∙◌, arith}
use Rattle.std.specs.Prelude.{slice_get, option_map}
use Rattle.std.proofs.lemmas.List.{set-append_left, set-append_right, get_or_append_left, get_or-append_right}
use Rattle.std.proofs.lemmas.List.{map-append, map-set, set-get_or, take_more}
use Rattle.std.proofs.lemmas.Option.{slice_get-map, slice_get-get_or}
use Rattle.std.proofs.Math.Seq.{map-set_same}
use Rattle.signed_note.specs.Keys.{Key}
use Rattle.mirror_model.specs.View.{View}
use Rattle.mirror_model.specs.Marks.{State}
use Rattle.mirror_model.specs.Steps.{Answer, Happens, Merges, MergesAt, Run, Takes, TakesAt}
use Rattle.mirror_model.specs.declared.events.Event.{Event}
use Rattle.mirror_model.specs.declared.items.Item.{Item}
use Rattle.mirror_model.specs.declared.items.Item.TheVariants.{Tile, Bundle}
use Rattle.mirror_model.proofs.Happening.{event_again}
use Rattle.tlog_mirror.specs.Plays.{HappensWithin, RunsOut, RunsWithin, all_remembered, views_of}

-- ---- which events fit

-- ---- on a list of mirrors

module _ (world : List State) (target : ℕ) (d : State) (lt : target < length world) where
  view_found : (before : State) → get_or world target d ≡ before → slice_get (views_of world) target ≡ Some before.view
  view_found before is =
      slice_get-map (λ (s : State). s.view) world target
      ∙ ap (option_map (λ (s : State). s.view)) (slice_get-get_or world target d lt ∙ ap Some is)

  -- one mirror takes or is merged, and the remembered points stay
  pub remembers : (w : State) → w.remembered ≡ (get_or world target d).remembered →
      all_remembered (set world target w) ≡ all_remembered world
  remembers w same = map-set_same (λ (s : State). s.remembered) world target w d same

  pub taken_at :
      (digest : List ℕ → List ℕ) (keys : List Key) (item : Item) (answer : Answer) (w : State) →
      Takes digest keys (get_or world target d).view item answer w.view →
      TakesAt digest keys (views_of world) target item answer (views_of (set world target w))
  taken_at digest keys item answer w takes = record {
    before = (get_or world target d).view;
    after = w.view;
    found = view_found (get_or world target d) refl;
    takes = takes;
    set = map-set (λ (s : State). s.view) world target w;
  }

  pub merged_at :
      (digest : List ℕ → List ℕ) (keys : List Key) (source : ℕ) (e : State) → source < length world →
      (answer : Answer) (before other w : State) →
      get_or world target d ≡ before → get_or world source e ≡ other →
      Merges digest before.view other.view answer w.view →
      MergesAt digest keys (views_of world) target source answer (views_of (set world target w))
  merged_at digest keys source e within answer before other w is is_other merges = record {
    before = before.view;
    other = other.view;
    after = w.view;
    found = view_found before is;
    found_other =
        slice_get-map (λ (s : State). s.view) world source
        ∙ ap (option_map (λ (s : State). s.view)) (slice_get-get_or world source e within ∙ ap Some is_other);
    merges = merges;
    set = map-set (λ (s : State). s.view) world target w;
  }

  -- a mirror is merged with itself, and does not change
  pub merged_itself :
      (digest : List ℕ → List ℕ) (keys : List Key) (source : ℕ) → target ≡ source → (answer : Answer) →
      Merges digest (get_or world target d).view (get_or world target d).view answer (get_or world target d).view →
      MergesAt digest keys (views_of world) target source answer (views_of world)
  merged_itself digest keys source same answer merges =
      subst (λ ws. MergesAt digest keys (views_of world) target source answer (views_of ws)) (set-get_or world target d)
      (merged_at digest keys source d (omega arith) answer (get_or world target d) (get_or world target d)
      (get_or world target d) refl (ap (λ n. get_or world n d) (sym same)) merges)

-- ---- one item

module _ (digest : List ℕ → List ℕ) (keys : List Key) (old new : View) (item : Item) (width : ℕ) (bytes read : List ℕ)
    (answer : Answer) (same : read ≡ bytes) where
  pub tile_taken : item ≡ Tile width bytes → ((ks : List Key) → Takes digest ks old (Tile width read) answer new) →
      Takes digest keys old item answer new
  tile_taken is takes = subst (λ x. Takes digest keys old x answer new) (ap (Tile width) same ∙ sym is) (takes keys)

  pub bundle_taken : item ≡ Bundle width bytes →
      ((ks : List Key) → Takes digest ks old (Bundle width read) answer new) → Takes digest keys old item answer new
  bundle_taken is takes = subst (λ x. Takes digest keys old x answer new) (ap (Bundle width) same ∙ sym is) (takes keys)

-- a list in two parts
module _ (world front back : List State) (parts : world ≡ front ++ back) (target source : ℕ) (d e w : State) where
  -- the target is in the first part, the source is the first of the second part
  module _ (len : length front ≡ source) (below : target < source) where
    pub target_in_front : get_or world target d ≡ get_or front target d
    target_in_front = ap (λ xs. get_or xs target d) parts ∙ get_or_append_left front back d target (omega arith)

    pub source_in_back : get_or world source e ≡ get_or back 0 e
    source_in_back =
        let none : source - source ≡ 0 = omega arith in
        ap (λ xs. get_or xs source e) parts ∙ get_or-append_right front back source source e len (omega arith) ∙
        ap (λ i. get_or back i e) none

    pub set_in_front : set world target w ≡ set front target w ++ back
    set_in_front = ap (λ xs. set xs target w) parts ∙ set-append_left front back target w (omega arith)

  -- the source is in the first part, the target is the first of the second part
  module _ (len : length front ≡ target) (below : source < target) where
    pub source_in_front : get_or world source e ≡ get_or front source e
    source_in_front = ap (λ xs. get_or xs source e) parts ∙ get_or_append_left front back e source (omega arith)

    pub target_in_back : get_or world target d ≡ get_or back 0 d
    target_in_back =
        let none : target - target ≡ 0 = omega arith in
        ap (λ xs. get_or xs target d) parts ∙ get_or-append_right front back target target d len (omega arith) ∙
        ap (λ i. get_or back i d) none

    pub set_in_back : set world target w ≡ front ++ set back 0 w
    set_in_back =
        let none : target - target ≡ 0 = omega arith in
        ap (λ xs. set xs target w) parts ∙ set-append_right front back target target w len (omega arith) ∙
        ap (λ i. front ++ set back i w) none

-- ---- one more event, and one event again

module _ (digest : List ℕ → List ℕ) (keys : List Key) where
  within_push :
      (tries : ℕ) (old mid new : List View) (es : List Event) (answers : List Answer) (e : Event) (a : Answer) →
      RunsWithin digest keys tries old es answers mid → HappensWithin digest keys tries mid e a new →
      RunsWithin digest keys tries old (es ++ e ∷ []) (answers ++ a ∷ []) new
  within_push tries old mid new [] [] e a run step =
      (new, subst (λ w. HappensWithin digest keys tries w e a new) run step, refl)
  within_push tries old mid new (f ∷ es) (b ∷ answers) e a run step =
      (run.0, run.1, within_push tries run.0 mid new es answers e a run.2 step)
  within_push tries old mid new [] (b ∷ answers) e a run step = absurd run
  within_push tries old mid new (f ∷ es) [] e a run step = absurd run

  again : (times : ℕ) (old between new : List View) (e : Event) (a : Answer) → RunsOut digest keys times old e between →
      Happens digest keys between e a new → Happens digest keys old e a new
  again zero old between new e a is h = subst (λ w. Happens digest keys w e a new) is h
  again (suc times) old between new e a r h =
      again times old r.0 new e a r.1 (event_again digest keys r.0 between new e a r.2 h)

  -- an event that happens again has the same result as one that happens once
  pub runs_once :
      (tries : ℕ) (old new : List View) (es : List Event) (answers : List Answer) →
      RunsWithin digest keys tries old es answers new → Run digest keys old es answers new
  runs_once tries old new [] [] r = r
  runs_once tries old new (e ∷ es) (a ∷ answers) r =
      (r.0, again r.1.before old r.1.between r.0 e a r.1.ran_out r.1.last, runs_once tries r.0 new es answers r.2)
  runs_once tries old new [] (a ∷ answers) r = absurd r
  runs_once tries old new (e ∷ es) [] r = absurd r

  -- the next event of a list
  module _ {R : Type 0} (kind : R → Answer) (es : List Event) (i : ℕ) (e : Event) (lt : i < length es)
      (at : e ≡ get_or es i e) where
    taken_more : take (i + 1) es ≡ take i es ++ e ∷ []
    taken_more = take_more es i e lt ∙ ap (λ x. take i es ++ x ∷ []) (sym at)

    pub within_more :
        (tries : ℕ) (old mid new : List View) (answers pushed : List R) (a : R) → pushed ≡ answers ++ a ∷ [] →
        RunsWithin digest keys tries old (take i es) (map kind answers) mid →
        HappensWithin digest keys tries mid e (kind a) new →
        RunsWithin digest keys tries old (take (i + 1) es) (map kind pushed) new
    within_more tries old mid new answers pushed a is run step =
        subst (λ xs. RunsWithin digest keys tries old xs (map kind pushed) new) (sym taken_more)
        (subst (λ ys. RunsWithin digest keys tries old (take i es ++ e ∷ []) ys new)
        (sym (ap (map kind) is ∙ map-append kind answers (a ∷ [])))
        (within_push tries old mid new (take i es) (map kind answers) e (kind a) run step))
