-- Plays: events on mirrors, in order. Only the contracts of private functions cite `HasWidth`.
use Rattle.std.specs.Prelude.{◌≡◌, ℕ, zero, suc, ◌+◌, ◌<◌, List, [], ◌∷◌, map, Some, Result, Ok}
use Rattle.std.specs.Prelude.{Err, slice_get, ⊤}
use Rattle.signed_note.specs.Keys.{Key}
use Rattle.mirror_model.specs.View.{View}
use Rattle.mirror_model.specs.Marks.{Points, State}
use Rattle.mirror_model.specs.declared.events.Event.{Event}
use Rattle.mirror_model.specs.declared.events.Event.TheVariants.{Take, Merge}
use Rattle.mirror_model.specs.declared.fault.MergeFault.{MergeFault}
use Rattle.mirror_model.specs.declared.fault.TakeFault.{TakeFault}
use Rattle.mirror_model.specs.declared.items.Item.{Item}
use Rattle.mirror_model.specs.declared.items.Item.TheVariants.{Head, Tile, Bundle}
use Rattle.mirror_model.specs.Answered.{take_fault_of}
use Rattle.mirror_model.specs.Item.{IsWidth}
use Rattle.mirror_model.specs.Steps.{Answer, Exhausted, Happens}
use Rattle.tlog_mirror.specs.Judged.{JudgesItem}

-- the views of mirrors
abbrev pub views_of : List State → List View
views_of world = map (λ state. state.view) world

-- the points that mirrors remember
abbrev pub all_remembered : List State → List Points
all_remembered world = map (λ state. state.remembered) world

-- the origins of mirrors
abbrev pub origins_of : List State → List (List ℕ)
origins_of world = map (λ state. state.view.origin) world

-- a merge may give this answer, in the form of a take's answer
abbrev pub IsMergeAnswer : Result (Unit {0}) TakeFault → Type 0
IsMergeAnswer (Ok done) = ⊤
IsMergeAnswer (Err fault) = (merging : MergeFault) × (fault ≡ take_fault_of merging)

module _ (digest : List ℕ → List ℕ) (keys : List Key) where
  -- the answer to an event on mirrors of these origins is possible. For a take the item decides; a merge has an answer
  -- of merges; a merge of a mirror with itself has Ok
  abbrev pub JudgesEvent : List (List ℕ) → Event → Result (Unit {0}) TakeFault → Type 0
  JudgesEvent origins (Take target item) answer =
      (origin : List ℕ) → slice_get origins target ≡ Some origin →
      JudgesItem digest keys origin item answer
  JudgesEvent origins (Merge target source) answer =
      IsMergeAnswer answer × (target ≡ source → answer ≡ Ok tt)

  -- each answer to events on mirrors of these origins, in order, is possible
  abbrev pub JudgesEvents :
      List (List ℕ) → List Event → List (Result (Unit {0}) TakeFault) → Type 0
  JudgesEvents origins [] [] = ⊤
  JudgesEvents origins (event ∷ events) (answer ∷ answers) =
      JudgesEvent origins event answer × JudgesEvents origins events answers
  JudgesEvents origins [] (answer ∷ answers) = ⊥
  JudgesEvents origins (event ∷ events) [] = ⊥

  -- the event happens that number of times, and each time memory is refused
  abbrev pub RunsOut : ℕ → List View → Event → List View → Type 0
  RunsOut zero old event new = new ≡ old
  RunsOut (suc times) old event new =
      (between : List View) × RunsOut times old event between
      × Happens digest keys between event Exhausted new

  -- an event happens until its answer is not OutOfMemory, at most that number of times, and this is its last answer
  pub record HappensWithin (tries : ℕ) (old : List View) (event : Event) (answer : Answer)
      (new : List View) : Type 0 where
    pub before : ℕ
    pub few : before < tries
    pub between : List View
    pub ran_out : RunsOut before old event between
    pub last : Happens digest keys between event answer new
    pub all_tried : answer ≡ Exhausted → before + 1 ≡ tries

  -- events happen in order, each at most that number of times, with one answer each
  abbrev pub RunsWithin : ℕ → List View → List Event → List Answer → List View → Type 0
  RunsWithin tries old [] [] new = new ≡ old
  RunsWithin tries old (event ∷ events) (answer ∷ answers) new =
      (between : List View) × HappensWithin tries old event answer between
      × RunsWithin tries between events answers new
  RunsWithin tries old [] (answer ∷ answers) new = ⊥
  RunsWithin tries old (event ∷ events) [] new = ⊥

-- if the item is a tile or a bundle, its width is from 1 to 256
abbrev pub HasWidth : Item → Type 0
HasWidth (Head note edge) = ⊤
HasWidth (Tile width bytes) = IsWidth width
HasWidth (Bundle width bytes) = IsWidth width
