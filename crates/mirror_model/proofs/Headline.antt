-- Plays: several runs in order are one run, and the views after it.
use Rattle.std.proofs.Common.{◌≡◌, ℕ, List, [], ◌∷◌, ◌++◌, zero, suc, sym, refl, ap, ◌∙◌, subst, inl, inr}
use Rattle.std.proofs.Common.{arith}
use Rattle.std.specs.Prelude.{slice_get, slice_set, Some, map}
use Rattle.std.specs.List.{Contains}
use Rattle.std.proofs.lemmas.List.Elements.{Contains-append_cases, Contains-append_left, Contains-append_right}
use Rattle.signed_note.specs.Keys.{Key}
use Rattle.mirror_model.specs.View.{View, IsSubview}
use Rattle.mirror_model.specs.Strings.{IsDigest}
use Rattle.mirror_model.specs.declared.events.Event.{Event}
use Rattle.mirror_model.specs.declared.events.Event.TheVariants.{Take, Merge}
use Rattle.mirror_model.specs.Steps.{Answer, Done, Refused, Clashed, Exhausted, Happens, Run}
use Rattle.mirror_model.specs.Reached.{IsNext, AreRetried}
use Rattle.mirror_model.specs.RunLaws.{AreLawful, IsReached, ForMirrors}
use Rattle.mirror_model.specs.Headline.{Play, events_in, answers_in, NoneAnswered, Plays, ReachesToo, PlaysBring}
use Rattle.mirror_model.specs.Headline.{PlaysAreOneRun, RunIsOnePlay, RetriedRunLeaves, NoPlayToRetry, RetriedInEachPlay, PlaysKeepEntries}
use Rattle.mirror_model.specs.Headline.{SameReachedSameView, NoPlayClashes, MirrorsAgree, PlaysTellTruth, PlaysGrow}
use Rattle.mirror_model.specs.Headline.{StandsIn, LeavesRest, placed, PartIsPlayed, PartIsRetried}
use Rattle.mirror_model.proofs.Views.{same_is_one, complete_stays, forks_stay}
use Rattle.mirror_model.proofs.OneLists.{serves_truth, forks_tell, complete_is_same}
use Rattle.mirror_model.proofs.Steps.{same_number, one_of_list, get_set_same, get_set_other}
use Rattle.mirror_model.proofs.Retrying.{nothing_to_retry, retries_join}
use Rattle.mirror_model.proofs.Joining.{runs_join}
use Rattle.mirror_model.proofs.Playing.{run_lengths, run_is_reached, none_clashes}
use Rattle.mirror_model.proofs.Keeping.{run_is_lawful, run_grows}

-- ---- plays are one run

pub plays_are_one_run : PlaysAreOneRun
plays_are_one_run digest keys old new [] p = p
plays_are_one_run digest keys old new (play ∷ plays) p =
    runs_join digest keys old p.0 new play.events (events_in plays) play.answers (answers_in plays) p.1
    (plays_are_one_run digest keys p.0 new plays p.2)

nothing_after : {X : Type 0} (xs : List X) → xs ++ [] ≡ xs
nothing_after [] = refl
nothing_after (x ∷ xs) = ap (λ ys. x ∷ ys) (nothing_after xs)

pub run_is_one_play : RunIsOnePlay
run_is_one_play digest keys opened final events answers run = record {
  played = (final, run, refl);
  events_are = nothing_after events;
  answers_are = nothing_after answers;
}

pub retried_run_leaves : ForMirrors RetriedRunLeaves
retried_run_leaves digest origin keys opened final events answers r retried mirror v is = record {
  final = final;
  of_origin = r.of_origin;
  played = (final, r.run, refl);
  retried = subst (λ es. AreRetried es (answers ++ [])) (sym (nothing_after events))
      (subst (AreRetried events) (sym (nothing_after answers)) retried);
  is = is;
}

-- ---- repeated events

pub retried_in_each : RetriedInEachPlay
retried_in_each digest keys old new [] p each = tt
retried_in_each digest keys old new (play ∷ plays) p each =
    retries_join play.events (events_in plays) play.answers (answers_in plays)
    (run_lengths digest keys old p.0 play.events play.answers p.1) (each play (0, omega arith, refl))
    (retried_in_each digest keys p.0 new plays p.2 (λ q c. each q (suc c.0, omega (arith, c.1), c.2)))

-- an answer of one of the plays is among the answers of all plays
in_answers : (answer : Answer) (plays : List Play) (play : Play) → Contains plays play → Contains play.answers answer →
    Contains (answers_in plays) answer
in_answers answer [] play c d = absurd (omega (arith, c.1))
in_answers answer (first ∷ plays) play (zero, lt, is) d =
    Contains-append_left first.answers (answers_in plays) answer
    (subst (λ (p : Play). Contains p.answers answer) (sym is) d)
in_answers answer (first ∷ plays) play (suc k, lt, is) d =
    Contains-append_right first.answers (answers_in plays) answer
    (in_answers answer plays play (k, omega (arith, lt), is) d)

none_in_answers : (answer : Answer) (plays : List Play) → NoneAnswered answer plays →
    Contains (answers_in plays) answer → ⊥
none_in_answers answer [] none c = absurd (omega (arith, c.1))
none_in_answers answer (play ∷ plays) none c = elim (Contains-append_cases play.answers (answers_in plays) answer c) [
  | inl a ↦ none play (0, omega arith, refl) a
  | inr b ↦ none_in_answers answer plays (λ p d e. none p (suc d.0, omega (arith, d.1), d.2) e) b
]

pub no_play_to_retry : NoPlayToRetry
no_play_to_retry plays none =
    nothing_to_retry (events_in plays) (answers_in plays) (none_in_answers Exhausted plays none)

-- ---- mirrors agree

half : (digest : List ℕ → List ℕ) (origin : List ℕ) (keys : List Key) (opened opened' : List View)
    (events events' : List Event) (mirror mirror' : ℕ) (v w : View) →
    IsReached digest origin keys opened events mirror v → IsReached digest origin keys opened' events' mirror' w →
    ReachesToo digest origin keys opened opened' events events' mirror mirror' → IsSubview v w
half digest origin keys opened opened' events events' mirror mirror' v w a b too = record {
  origin_is = a.origin_is ∙ sym b.origin_is;
  notes_are = λ q h. b.has.notes q (elim (a.only.notes q h) [
    | inl o ↦ inl (too.notes q o)
    | inr t ↦ inr (record { item = t.item; good = t.good; reaches = too.items t.item t.good t.reaches; has = t.has })
  ]);
  strings_are = λ q h. b.has.strings q (elim (a.only.strings q h) [
    | inl o ↦ inl (too.strings q o)
    | inr t ↦ inr (record { item = t.item; good = t.good; reaches = too.items t.item t.good t.reaches; has = t.has })
  ]);
}

pub plays_bring : ForMirrors PlaysBring
plays_bring digest origin keys opened plays mirror v l none =
    run_is_reached digest origin keys opened l.final (events_in plays) (answers_in plays)
    (record { of_origin = l.of_origin; run = plays_are_one_run digest keys opened l.final plays l.played })
    (none_in_answers Clashed plays none) l.retried mirror v l.is

pub same_reached : ForMirrors SameReachedSameView
same_reached digest origin keys opened opened' plays plays' mirror mirror' v w p q apart apart' alike =
    let a = plays_bring digest origin keys opened plays mirror v p apart in
    let b = plays_bring digest origin keys opened' plays' mirror' w q apart' in
    same_is_one v w
    (half digest origin keys opened opened' (events_in plays) (events_in plays') mirror mirror' v w a b alike.there)
    (half digest origin keys opened' opened (events_in plays') (events_in plays) mirror' mirror w v b a alike.back)

pub no_play_clashes : ForMirrors NoPlayClashes
no_play_clashes digest origin keys opened final plays clean of played play in_plays c =
    none_clashes digest origin keys opened final (events_in plays) (answers_in plays)
    (record { of_origin = of; run = plays_are_one_run digest keys opened final plays played }) clean
    (in_answers Clashed plays play in_plays c)

pub mirrors_agree : ForMirrors MirrorsAgree
mirrors_agree digest origin keys opened opened' plays plays' mirror mirror' v w clean clean' p q alike =
    same_reached digest origin keys opened opened' plays plays' mirror mirror' v w p q
    (no_play_clashes digest origin keys opened p.final plays clean p.of_origin p.played)
    (no_play_clashes digest origin keys opened' q.final plays' clean' q.of_origin q.played)
    alike

-- ---- reports are true

plays_lawful : (digest : List ℕ → List ℕ) → IsDigest digest →
    (keys : List Key) (opened final : List View) (plays : List Play) → AreLawful digest opened →
    Plays digest keys opened plays final → AreLawful digest final
plays_lawful digest hash keys opened final plays lawful p =
    run_is_lawful digest hash keys opened final (events_in plays) (answers_in plays) lawful
    (plays_are_one_run digest keys opened final plays p)

pub plays_tell_truth : PlaysTellTruth
plays_tell_truth digest hash keys opened final plays lawful p mirror v is = record {
  served = λ note size root entries s. serves_truth digest v note size root entries s;
  forks = λ a b first second differ f s. forks_tell digest hash v
      (plays_lawful digest hash keys opened final plays lawful p mirror v is) a b first second differ f s;
}

plays_within : (digest : List ℕ → List ℕ) (keys : List Key) (opened final : List View) (plays : List Play) →
    Plays digest keys opened plays final → (mirror : ℕ) (before after : View) → slice_get opened mirror ≡ Some before →
    slice_get final mirror ≡ Some after → IsSubview before after
plays_within digest keys opened final plays p =
    run_grows digest keys opened final (events_in plays) (answers_in plays)
    (plays_are_one_run digest keys opened final plays p)

pub plays_grow : PlaysGrow
plays_grow digest keys opened final plays p mirror before after found is =
    let grows = plays_within digest keys opened final plays p mirror before after found is in
    record {
      stays = λ size root entries c. complete_stays digest before after grows size root entries c;
      forks = λ a b f. forks_stay digest before after grows a b f;
    }

pub plays_keep_entries : PlaysKeepEntries
plays_keep_entries digest hash keys opened final plays lawful p mirror before after found is =
    let after_lawful = plays_lawful digest hash keys opened final plays lawful p mirror after is in
    complete_is_same digest hash before after
    (plays_within digest keys opened final plays p mirror before after found is) after_lawful.no_clash

-- ---- plays of some mirrors

module _ (place : ℕ → ℕ) where
  -- setting a view in the part sets the same view in the whole list
  set_stands : (part whole : List View) (target : ℕ) (before after : View) → StandsIn place part whole →
      slice_get part target ≡ Some before →
      StandsIn place (slice_set part target after) (slice_set whole (place target) after)
  set_stands part whole target before after s found = record {
    apart = s.apart;
    found = λ i v is. elim (same_number i target) [
      | inl e ↦
          let here : slice_get (slice_set part target after) i ≡ Some after =
          subst (λ n. slice_get (slice_set part target after) n ≡ Some after) (sym e)
          (get_set_same part target before after found) in
          let same : v ≡ after = one_of_list (slice_set part target after) i v after is here in
          let there : slice_get (slice_set whole (place target) after) (place target) ≡ Some after =
          get_set_same whole (place target) before after (s.found target before found) in
          subst (λ w. slice_get (slice_set whole (place target) after) (place i) ≡ Some w) (sym same)
          (subst (λ n. slice_get (slice_set whole (place target) after) (place n) ≡ Some after) (sym e) there)
      | inr ne ↦
          let was : slice_get part i ≡ Some v = sym (get_set_other part target i after ne) ∙ is in
          get_set_other whole (place target) (place i) after (λ e. ne (s.apart i target e)) ∙ s.found i v was
    ];
  }

  module _ (digest : List ℕ → List ℕ) (keys : List Key) where
    -- the whole list after one event of the part
    record Placed (e : Event) (a : Answer) (mid whole : List View) : Type 0 where
      new : List View
      happens : Happens digest keys whole (placed place e) a new
      stands : StandsIn place mid new
      rest : (number : ℕ) → ((i : ℕ) → number ≡ place i → ⊥) → slice_get new number ≡ slice_get whole number

    event_placed : (part mid whole : List View) (e : Event) (a : Answer) → StandsIn place part whole →
        Happens digest keys part e a mid → Placed e a mid whole
    event_placed part mid whole (Take target item) a s h = record {
      new = slice_set whole (place target) h.after;
      happens =
          record {
            before =
                h.before;
            after = h.after;
            found = s.found target h.before h.found;
            takes = h.takes;
            set = refl;
          };
      stands = subst (λ m. StandsIn place m (slice_set whole (place target) h.after)) (sym h.set)
          (set_stands part whole target h.before h.after s h.found);
      rest = λ number other. get_set_other whole (place target) number h.after (other target);
    }
    event_placed part mid whole (Merge target source) a s h = record {
      new = slice_set whole (place target) h.after;
      happens =
          record {
            before =
                h.before;
            other =
                h.other;
            after =
                h.after;
            found =
                s.found target h.before h.found;
            found_other =
                s.found source h.other h.found_other;
            merges = h.merges;
            set = refl;
          };
      stands = subst (λ m. StandsIn place m (slice_set whole (place target) h.after)) (sym h.set)
          (set_stands part whole target h.before h.after s h.found);
      rest = λ number other. get_set_other whole (place target) number h.after (other target);
    }

    run_placed : (part whole after : List View) (es : List Event) (as' : List Answer) → StandsIn place part whole →
        Run digest keys part es as' after →
        (new : List View) × Run digest keys whole (map (placed place) es) as' new × LeavesRest place after whole new
    run_placed part whole after [] [] s run =
        (whole, refl, record { stands = subst (λ m. StandsIn place m whole) (sym run) s; rest = λ number other. refl })
    run_placed part whole after (e ∷ es) (a ∷ as') s run =
        let step = event_placed part run.0 whole e a s run.1 in
        let more = run_placed run.0 step.new after es as' step.stands run.2 in (
          more.0,
          (step.new, step.happens, more.1),
          record { stands = more.2.stands; rest = λ number other. more.2.rest number other ∙ step.rest number other },
        )
    run_placed part whole after [] (a ∷ as') s run = absurd run
    run_placed part whole after (e ∷ es) [] s run = absurd run

pub part_is_played : PartIsPlayed
part_is_played digest keys place part whole after events answers s run =
    run_placed place digest keys part whole after events answers s run

next_placed : (place : ℕ → ℕ) (e : Event) (es : List Event) → IsNext e es →
    IsNext (placed place e) (map (placed place) es)
next_placed place e [] h = h
next_placed place e (f ∷ es) h = ap (placed place) h

pub part_is_retried : PartIsRetried
part_is_retried place [] as' h = tt
part_is_retried place (e ∷ es) [] h = tt
part_is_retried place (e ∷ es) (Done ∷ as') h = part_is_retried place es as' h
part_is_retried place (e ∷ es) (Refused ∷ as') h = part_is_retried place es as' h
part_is_retried place (e ∷ es) (Clashed ∷ as') h = part_is_retried place es as' h
part_is_retried place (e ∷ es) (Exhausted ∷ as') h = (next_placed place e es h.0, part_is_retried place es as' h.1)
