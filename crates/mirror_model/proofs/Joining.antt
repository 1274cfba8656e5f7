-- Runs in order, and runs of one event.
use Rattle.std.proofs.Common.{[], ◌∷◌, subst, refl}
use Rattle.mirror_model.specs.declared.events.Event.TheVariants.{Take, Merge}
use Rattle.mirror_model.specs.Steps.{Run}
use Rattle.mirror_model.specs.RunLaws.{RunsJoin, TakeIsRun, MergeIsRun}
use Rattle.mirror_model.specs.PlayExamples.{TwoCallsAreOneRun}

pub runs_join : RunsJoin
runs_join digest keys old mid new [] fs [] bs p q = subst (λ w. Run digest keys w fs bs new) p q
runs_join digest keys old mid new (e ∷ es) fs (a ∷ as') bs p q =
    (p.0, p.1, runs_join digest keys p.0 mid new es fs as' bs p.2 q)
runs_join digest keys old mid new [] fs (a ∷ as') bs p q = absurd p
runs_join digest keys old mid new (e ∷ es) fs [] bs p q = absurd p

pub take_is_run : TakeIsRun
take_is_run digest keys views mirror old new item answer found takes =
    (_, record { before = old; after = new; found = found; takes = takes; set = refl }, refl)

pub merge_is_run : MergeIsRun
merge_is_run digest keys views mirror source old other new answer found found_other merges = (
  _,
  record {
    before = old;
    other = other;
    after = new;
    found = found;
    found_other = found_other;
    merges = merges;
    set = refl;
  },
  refl,
)

pub two_calls : TwoCallsAreOneRun
two_calls digest keys first taken second merged item answer other takes merges =
    runs_join digest keys (first ∷ second ∷ []) (taken ∷ second ∷ []) (taken ∷ merged ∷ [])
    (Take 0 item ∷ []) (Merge 1 0 ∷ []) (answer ∷ []) (other ∷ [])
    (take_is_run digest keys (first ∷ second ∷ []) 0 first taken item answer refl takes)
    (merge_is_run digest keys (taken ∷ second ∷ []) 1 0 second taken merged other refl refl merges)
