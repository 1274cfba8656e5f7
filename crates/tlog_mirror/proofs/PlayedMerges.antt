-- One of several mirrors is merged with another, each in a part of the list.
use Rattle.std.proofs.Common.{◌≡◌, ℕ, ◌<◌, List, ◌++◌, length, set, get_or, sym, ap, subst, ◌∙◌}
use Rattle.signed_note.specs.Keys.{Key}
use Rattle.mirror_model.specs.Marks.{State}
use Rattle.mirror_model.specs.Steps.{Answer, Merges, MergesAt}
use Rattle.tlog_mirror.specs.Plays.{all_remembered, origins_of, views_of}
use Rattle.tlog_mirror.proofs.JudgedEvents.{merged_origins}
use Rattle.tlog_mirror.proofs.PlayedEvents.{merged_at, remembers, set_in_back, set_in_front}
use Rattle.tlog_mirror.proofs.PlayedEvents.{source_in_back, source_in_front, target_in_back, target_in_front}

-- the result of the merge for all the mirrors
pub record IsMerged (digest : List ℕ → List ℕ) (world after : List State) (target source : ℕ) (answer : Answer)
    : Type 0 where
  pub merges : (keys : List Key) → MergesAt digest keys (views_of world) target source answer (views_of after)
  pub origins : origins_of after ≡ origins_of world
  pub remembered : all_remembered after ≡ all_remembered world

module _ (digest : List ℕ → List ℕ) (world front back : List State) (parts : world ≡ front ++ back) (target source : ℕ)
    (d e : State) (here : target < length world) (there : source < length world) (w : State) (answer : Answer) where
  -- for every place of the two, and however the parts are joined again
  merged_where :
      (before other : State) (after : List State) → get_or world target d ≡ before → get_or world source e ≡ other →
      set world target w ≡ after → Merges digest before.view other.view answer w.view →
      w.remembered ≡ before.remembered → IsMerged digest world after target source answer
  merged_where before other after is is_other whole merges same = record {
    merges = λ keys. subst
        (λ (ws : List State). MergesAt digest keys (views_of world) target source answer (views_of ws)) whole
        (merged_at world target d here digest keys source e there answer before other w is is_other merges);
    origins = ap origins_of (sym whole)
        ∙ merged_origins digest world target d before w other.view answer is merges;
    remembered = ap all_remembered (sym whole)
        ∙ remembers world target d here w (same ∙ ap (λ (s : State). s.remembered) (sym is));
  }

  -- the target is in the first part, the source is the first of the second part
  pub merged_in_front : length front ≡ source → target < source →
      Merges digest (get_or front target d).view (get_or back 0 e).view answer w.view →
      w.remembered ≡ (get_or front target d).remembered →
      IsMerged digest world (set front target w ++ back) target source answer
  merged_in_front len below =
      merged_where (get_or front target d) (get_or back 0 e) (set front target w ++ back)
      (target_in_front world front back parts target source d e w len below)
      (source_in_back world front back parts target source d e w len below)
      (set_in_front world front back parts target source d e w len below)

  -- the source is in the first part, the target is the first of the second part
  pub merged_in_back : length front ≡ target → source < target →
      Merges digest (get_or back 0 d).view (get_or front source e).view answer w.view →
      w.remembered ≡ (get_or back 0 d).remembered →
      IsMerged digest world (front ++ set back 0 w) target source answer
  merged_in_back len below =
      merged_where (get_or back 0 d) (get_or front source e) (front ++ set back 0 w)
      (target_in_back world front back parts target source d e w len below)
      (source_in_front world front back parts target source d e w len below)
      (set_in_back world front back parts target source d e w len below)
