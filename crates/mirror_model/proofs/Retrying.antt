-- Repeating events that ran out of memory.
use Rattle.std.proofs.Common.{◌≡◌, List, [], ◌∷◌, ◌++◌, map, zero, suc, Result, Ok, Err, refl, ap}
use Rattle.std.proofs.Common.{arith}
use Rattle.std.specs.List.{Contains}
use Rattle.mirror_model.specs.declared.events.Event.{Event}
use Rattle.mirror_model.specs.declared.fault.TakeFault.{TakeFault}
use Rattle.mirror_model.specs.declared.fault.TakeFault.TheVariants as taking
use Rattle.mirror_model.specs.declared.fault.MergeFault.{MergeFault}
use Rattle.mirror_model.specs.declared.fault.MergeFault.TheVariants as merging
use Rattle.mirror_model.specs.Answered.{answer_of, merge_answer_of}
use Rattle.mirror_model.specs.Steps.{Done, Refused, Clashed, Exhausted}
use Rattle.mirror_model.specs.Reached.{IsNext}
use Rattle.mirror_model.specs.RetryLaws.{NothingToRetry, NoAnswerToRetry, IsAnsweredOutOfMemory, RetriesJoin}

-- ---- nothing to retry

later : {X : Type 0} (x : X) (xs : List X) (y : X) → Contains xs y → Contains (x ∷ xs) y
later x xs y c = (suc c.0, omega (arith, c.1), c.2)

pub nothing_to_retry : NothingToRetry
nothing_to_retry [] answers none = tt
nothing_to_retry (e ∷ es) [] none = tt
nothing_to_retry (e ∷ es) (Done ∷ more) none = nothing_to_retry es more (λ c. none (later Done more Exhausted c))
nothing_to_retry (e ∷ es) (Refused ∷ more) none = nothing_to_retry es more (λ c. none (later Refused more Exhausted c))
nothing_to_retry (e ∷ es) (Clashed ∷ more) none = nothing_to_retry es more (λ c. none (later Clashed more Exhausted c))
nothing_to_retry (e ∷ es) (Exhausted ∷ more) none = absurd (none (0, omega arith, refl))

take_exhausted : (answer : Result (Unit {0}) TakeFault) → answer_of answer ≡ Exhausted →
    answer ≡ Err taking.OutOfMemory
take_exhausted (Ok done) h = absurd (cc h)
take_exhausted (Err (taking.Note fault)) h = absurd (cc h)
take_exhausted (Err (taking.Checkpoint fault)) h = absurd (cc h)
take_exhausted (Err taking.OtherOrigin) h = absurd (cc h)
take_exhausted (Err taking.NoTrustedSignature) h = absurd (cc h)
take_exhausted (Err taking.EdgeCount) h = absurd (cc h)
take_exhausted (Err taking.EdgeLength) h = absurd (cc h)
take_exhausted (Err taking.EdgeMismatch) h = absurd (cc h)
take_exhausted (Err taking.RowLength) h = absurd (cc h)
take_exhausted (Err taking.BundleShort) h = absurd (cc h)
take_exhausted (Err taking.BundleLong) h = absurd (cc h)
take_exhausted (Err taking.Collision) h = absurd (cc h)
take_exhausted (Err taking.OutOfMemory) h = refl

merge_exhausted : (answer : Result (Unit {0}) MergeFault) → merge_answer_of answer ≡ Exhausted →
    answer ≡ Err merging.OutOfMemory
merge_exhausted (Ok done) h = absurd (cc h)
merge_exhausted (Err merging.OtherOrigin) h = absurd (cc h)
merge_exhausted (Err merging.Collision) h = absurd (cc h)
merge_exhausted (Err merging.OutOfMemory) h = refl

pub is_answered_out_of_memory : IsAnsweredOutOfMemory
is_answered_out_of_memory = record {
  takes = λ answer. (take_exhausted answer, λ e. ap answer_of e);
  merges = λ answer. (merge_exhausted answer, λ e. ap merge_answer_of e);
}

among_answers : (answers : List (Result (Unit {0}) TakeFault)) → Contains (map answer_of answers) Exhausted →
    Contains answers (Err taking.OutOfMemory)
among_answers [] c = absurd (omega (arith, c.1))
among_answers (a ∷ more) (zero, lt, is) = (0, omega arith, take_exhausted a is)
among_answers (a ∷ more) (suc k, lt, is) = later a more _ (among_answers more (k, omega (arith, lt), is))

pub no_answer_to_retry : NoAnswerToRetry
no_answer_to_retry events answers none =
    nothing_to_retry events (map answer_of answers) (λ c. none (among_answers answers c))

-- ---- two lists

next_append : (e : Event) (es fs : List Event) → IsNext e es → IsNext e (es ++ fs)
next_append e [] fs h = absurd h
next_append e (f ∷ es) fs h = h

pub retries_join : RetriesJoin
retries_join [] fs [] bs len p q = q
retries_join [] fs (a ∷ as') bs len p q = absurd (omega (arith, len))
retries_join (e ∷ es) fs [] bs len p q = absurd (omega (arith, len))
retries_join (e ∷ es) fs (Done ∷ as') bs len p q = retries_join es fs as' bs (omega (arith, len)) p q
retries_join (e ∷ es) fs (Refused ∷ as') bs len p q = retries_join es fs as' bs (omega (arith, len)) p q
retries_join (e ∷ es) fs (Clashed ∷ as') bs len p q = retries_join es fs as' bs (omega (arith, len)) p q
retries_join (e ∷ es) fs (Exhausted ∷ as') bs len p q =
    (next_append e es fs p.0, retries_join es fs as' bs (omega (arith, len)) p.1 q)
