-- Laws of repeating events that ran out of memory.
use Rattle.std.specs.Prelude.{◌≡◌, ◌↔◌, List, ◌++◌, length, map, Result, Err}
use Rattle.std.specs.List.{Contains}
use Rattle.mirror_model.specs.declared.events.Event.{Event}
use Rattle.mirror_model.specs.declared.fault.TakeFault.{TakeFault}
use Rattle.mirror_model.specs.declared.fault.TakeFault.TheVariants as taking
use Rattle.mirror_model.specs.declared.fault.MergeFault.{MergeFault}
use Rattle.mirror_model.specs.declared.fault.MergeFault.TheVariants as merging
use Rattle.mirror_model.specs.Answered.{answer_of, merge_answer_of}
use Rattle.mirror_model.specs.Steps.{Answer, Exhausted}
use Rattle.mirror_model.specs.Reached.{AreRetried}

-- if no event ran out of memory, none has to be repeated
abbrev pub NothingToRetry : Type 0
NothingToRetry =
    (events : List Event) (answers : List Answer) →
    (¬ Contains answers Exhausted) →
    AreRetried events answers

-- if no answer is OutOfMemory, no event has to be repeated
abbrev pub NoAnswerToRetry : Type 0
NoAnswerToRetry =
    (events : List Event) (answers : List (Result (Unit {0}) TakeFault)) →
    (¬ Contains answers (Err taking.OutOfMemory)) →
    AreRetried events (map answer_of answers)

-- a take or a merge ran out of memory exactly if its answer was OutOfMemory
pub record IsAnsweredOutOfMemory : Type 0 where
  pub takes :
      (answer : Result (Unit {0}) TakeFault) →
      (answer_of answer ≡ Exhausted) ↔ (answer ≡ Err taking.OutOfMemory)
  pub merges :
      (answer : Result (Unit {0}) MergeFault) →
      (merge_answer_of answer ≡ Exhausted) ↔ (answer ≡ Err merging.OutOfMemory)

-- if each of two lists repeats its events that ran out of memory, so do both as one list
abbrev pub RetriesJoin : Type 0
RetriesJoin =
    (first second : List Event) (answers more : List Answer) →
    length first ≡ length answers →
    AreRetried first answers →
    AreRetried second more →
    AreRetried (first ++ second) (answers ++ more)
