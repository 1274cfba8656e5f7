-- A proof was looked for on the shelf after a call that did not bring the copy.
use Rattle.std.proofs.Common.{◌≡◌, ℕ, List, [], Option, Some, None, Result, Ok, Err, subst, sym}
use Rattle.std.specs.Prelude.{IfOk, IfErr}
use Rattle.mirror_sources.specs.Recorded.{KeepsRecord}
use Rattle.mirror_folders.specs.Shelf.{Put}
use Rattle.copy_follow.specs.Moments.{InTheEnd}
use Rattle.copy_places.specs.declared.candidate.Candidate.{Candidate}
use Rattle.copy_follow.specs.Blame.{CountsFollow}
use Rattle.copy_follow.specs.Ending.{EndsAt, EndsRun}
use Rattle.tlog_tiles.specs.declared.paths.Path.TheVariants.{Checkpoint}
use Rattle.mirror_folders.specs.Shelf.{HasPut}
use Rattle.copy_follow.specs.RunStanding.{EachStays, IsCopyOfRun, PrunedAs, PrunedUnder, StandsAfter, StandsAs, StandsOrNone, StandsUnder}
use Rattle.copy_follow.specs.declared.follow_fault.FollowFault.{FollowFault}
use Rattle.copy_follow.specs.declared.follow_fault.FollowFault.TheVariants.{Source}
use Rattle.copy_follow.specs.declared.run.Outcome.{Outcome}
use Rattle.copy_follow.specs.declared.run.Outcome.TheVariants as turn
use Rattle.copy_follow.proofs.Ending.{ends_so}

pub end_later : (y z : Option (List Put)) (so : List Put → Type 0) → KeepsRecord y z → InTheEnd y so → InTheEnd z so
end_later None z so kept h = absurd h
end_later (Some ys) None so kept h = absurd kept
end_later (Some ys) (Some zs) so kept h = subst so (sym kept) h

pub stays_later : (digest : List ℕ → List ℕ) (origin : List ℕ) (x y z : Option (List Put)) → EachStays digest origin x y →
    KeepsRecord y z → EachStays digest origin x z
stays_later digest origin x y z s kept = record {
  whole = record {
    copy = λ held is note entries copy. end_later y z _ kept (s.whole.copy held is note entries copy);
    none = λ held is none. end_later y z _ kept (s.whole.none held is none);
  };
  pruned = λ held is note entries copy. end_later y z _ kept (s.pruned held is note entries copy);
}

pub after_later : (digest : List ℕ → List ℕ) (origin : List ℕ) (c : Candidate) (x y z : Option (List Put)) {E : Type 0}
    (t : Outcome) (r : Result Outcome E) → t ≡ turn.Contradicts → StandsAfter digest origin c x y t → KeepsRecord y z →
    IfOk r (λ t. (digest : List ℕ → List ℕ) (origin : List ℕ) (old new : Option (List Put)) →
    EachStays digest origin old new → StandsAfter digest origin c old new t) →
    IfOk r (λ t. StandsAfter digest origin c x z t)
after_later digest origin c x y z t (Err e) is stands kept h = tt
after_later digest origin c x y z t (Ok u) is stands kept h =
    let stays : StandsAfter digest origin c x y turn.Contradicts = subst (StandsAfter digest origin c x y) is stands in
    h digest origin x z (stays_later digest origin x y z stays kept)

-- the same of a candidate that was not had, whatever came of its proof
pub after_lacked : (digest : List ℕ → List ℕ) (origin : List ℕ) (c : Candidate) (x y z : Option (List Put)) {E : Type 0}
    (t : Outcome) (fault : FollowFault) (r : Result Outcome E) → t ≡ turn.NotHad fault → StandsAfter digest origin c x y t →
    KeepsRecord y z →
    IfOk r (λ t. (digest : List ℕ → List ℕ) (origin : List ℕ) (candidate : Candidate) (old new : Option (List Put)) →
    EachStays digest origin old new → StandsAfter digest origin candidate old new t) →
    IfOk r (λ t. StandsAfter digest origin c x z t)
after_lacked digest origin c x y z t fault (Err e) is stands kept h = tt
after_lacked digest origin c x y z t fault (Ok u) is stands kept h =
    let stays : StandsAfter digest origin c x y (turn.NotHad fault) = subst (StandsAfter digest origin c x y) is stands in
    h digest origin c x z (stays_later digest origin x y z stays kept)

pub source_lacked : {E : Type 0} (so : Type 0) (t : Outcome) (fault : FollowFault) (r : Result Outcome E) → t ≡ turn.NotHad fault →
    (t ≡ turn.NotHad Source → so) → IfOk r (λ u. u ≡ turn.NotHad Source → fault ≡ Source) →
    IfOk r (λ u. u ≡ turn.NotHad Source → so)
source_lacked so t fault (Err e) is given h = tt
source_lacked so t fault (Ok u) is given h = λ same. given (subst (λ f. t ≡ turn.NotHad f) (h same) is)

pub counts_later : {T : Type 0} (old mid new : ℕ) (r : Result T FollowFault) → mid ≡ old → CountsFollow mid new r → CountsFollow old new r
counts_later old mid new r is h = subst (λ n. CountsFollow n new r) is h

pub ends_later : {T : Type 0} (so : Type 0) (r : Result T FollowFault) → IfErr r (EndsRun ⊥ ⊥) → IfErr r (EndsAt so)
ends_later so (Ok x) h = tt
ends_later so (Err fault) h = ends_so ⊥ ⊥ so so fault (λ none. absurd none) (λ none. absurd none) h

pub source_never : {E : Type 0} (so : Type 0) (v : Outcome) (r : Result Outcome E) →
    IfOk r (λ t. t ≡ v → ⊥) → IfOk r (λ t. t ≡ v → so)
source_never so v (Ok t) h = λ is. absurd (h is)
source_never so v (Err e) h = tt

-- the copy of the run is still on the shelf
pub known_later : (digest : List ℕ → List ℕ) (origin : List ℕ) (x y z : Option (List Put)) (copy : Option Candidate) →
    IsCopyOfRun digest origin x y copy → KeepsRecord y z → IsCopyOfRun digest origin x z copy
known_later digest origin x y z copy k kept = record {
  some = λ held is note entries c. as_later copy entries (k.some held is note entries c);
  pruned = λ held is note entries c. pruned_later copy entries (k.pruned held is note entries c);
  none = λ held is none. none_later copy (k.none held is none);
}
  where
    as_later : (copy : Option Candidate) (entries : List (List ℕ)) → StandsAs digest origin copy entries y →
        StandsAs digest origin copy entries z
    as_later None entries h = absurd h
    as_later (Some c) entries h = end_later y z (StandsUnder digest origin c entries) kept h

    pruned_later : (copy : Option Candidate) (entries : List (List ℕ)) → PrunedAs digest origin copy entries y →
        PrunedAs digest origin copy entries z
    pruned_later None entries h = absurd h
    pruned_later (Some c) entries h = end_later y z (PrunedUnder digest origin c entries) kept h

    none_later : (copy : Option Candidate) → StandsOrNone digest origin copy y → StandsOrNone digest origin copy z
    none_later None h = end_later y z (λ now. HasPut now Checkpoint → ⊥) kept h
    none_later (Some c) h = end_later y z (StandsUnder digest origin c []) kept h
