-- Laws of one event: its answer, and the view after it.
use Rattle.std.specs.Prelude.{◌≡◌, ◌≢◌, ◌⊎◌, ℕ, List, Some, slice_get}
use Rattle.signed_note.specs.Keys.{Key}
use Rattle.node_store.specs.Strings.{Has}
use Rattle.mirror_model.specs.View.{View, union, IsSubview}
use Rattle.mirror_model.specs.Strings.{IsDigest, HasClash}
use Rattle.mirror_model.specs.Complete.{IsLawful}
use Rattle.mirror_model.specs.declared.items.Item.{Item}
use Rattle.mirror_model.specs.Item.{IsGood, plus}
use Rattle.mirror_model.specs.declared.events.Event.{Event}
use Rattle.mirror_model.specs.declared.events.Event.TheVariants.{Merge}
use Rattle.mirror_model.specs.Steps.{Answer, Exhausted, IsBetween, Takes, Merges, Happens}
use Rattle.mirror_model.specs.RunLaws.{AreLawful}

-- a take has one answer and one view after it, apart from OutOfMemory
abbrev pub TakesHaveOneAnswer : Type 0
TakesHaveOneAnswer =
    (digest : List ℕ → List ℕ) (keys : List Key) (old new other : View) (item : Item)
    (a b : Answer) →
    Takes digest keys old item a new → Takes digest keys old item b other → a ≢ Exhausted →
    b ≢ Exhausted →
    (a ≡ b) × (new ≡ other)

-- a merge has one answer and one view after it, apart from OutOfMemory
abbrev pub MergesHaveOneAnswer : Type 0
MergesHaveOneAnswer =
    (digest : List ℕ → List ℕ) (old source new other : View) (a b : Answer) →
    Merges digest old source a new →
    Merges digest old source b other → a ≢ Exhausted → b ≢ Exhausted → (a ≡ b) × (new ≡ other)

-- a take that ran out of memory and is repeated has the result of one take
abbrev pub RetriedTakeIsOneTake : Type 0
RetriedTakeIsOneTake =
    (digest : List ℕ → List ℕ) (keys : List Key) (old between new : View) (item : Item)
    (answer : Answer) →
    Takes digest keys old item Exhausted between → Takes digest keys between item answer new →
    Takes digest keys old item answer new

-- a merge that ran out of memory and is repeated has the result of one merge
abbrev pub RetriedMergeIsOneMerge : Type 0
RetriedMergeIsOneMerge =
    (digest : List ℕ → List ℕ) (old other between new : View) (answer : Answer) →
    Merges digest old other Exhausted between → Merges digest between other answer new →
    Merges digest old other answer new

-- after a take that ran out of memory, there is a new note only if the view has the whole item
abbrev pub NewNoteMeansWholeItem : Type 0
NewNoteMeansWholeItem =
    (digest : List ℕ → List ℕ) (keys : List Key) (old new : View) (item : Item) (note : List ℕ) →
    Takes digest keys old item Exhausted new → Has new.notes note →
    Has old.notes note ⊎ (new ≡ plus digest old item)

-- a view between two lawful ones is lawful, if new notes were added last
abbrev pub BetweenIsLawful : Type 0
BetweenIsLawful =
    (digest : List ℕ → List ℕ) (old whole new : View) → IsLawful digest old →
    IsLawful digest whole →
    IsBetween old whole new → IsLawful digest new

-- ---- the view after an event

-- no take loses anything: the old view is within the new one, for every answer
abbrev pub TakesGrow : Type 0
TakesGrow =
    (digest : List ℕ → List ℕ) (keys : List Key) (old new : View) (item : Item) (answer : Answer) →
    Takes digest keys old item answer new →
    IsSubview old new

-- no merge loses anything: the old view is within the new one, for every answer
abbrev pub MergesGrow : Type 0
MergesGrow =
    (digest : List ℕ → List ℕ) (old other new : View) (answer : Answer) →
    Merges digest old other answer new →
    IsSubview old new

-- a take keeps a lawful view lawful, for every answer
abbrev pub TakesKeepLawful : Type 0
TakesKeepLawful =
    (digest : List ℕ → List ℕ) →
    IsDigest digest →
    (keys : List Key) (old new : View) (item : Item) (answer : Answer) →
    IsLawful digest old →
    Takes digest keys old item answer new →
    IsLawful digest new

-- a merge of two lawful views makes a lawful view, for every answer
abbrev pub MergesKeepLawful : Type 0
MergesKeepLawful =
    (digest : List ℕ → List ℕ) (old other new : View) (answer : Answer) →
    IsLawful digest old →
    IsLawful digest other →
    Merges digest old other answer new →
    IsLawful digest new

-- the view after an event that ran out of memory is between the old view and the whole one. It is
-- the old view if the event is not allowed or the whole view collides. It has a new note only if it
-- has all strings
pub record IsLeft (digest : List ℕ → List ℕ) (old : View) (Allowed : Type 0) (whole new : View)
    : Type 0 where
  pub between : IsBetween old whole new
  pub not_allowed : (¬ Allowed) → new ≡ old
  pub clashing : HasClash digest whole.strings → new ≡ old

-- a take that ran out of memory leaves the old view, or one between it and the view with the item
abbrev pub RefusedTakeIsBetween : Type 0
RefusedTakeIsBetween =
    (digest : List ℕ → List ℕ) (keys : List Key) (old new : View) (item : Item) →
    Takes digest keys old item Exhausted new →
    IsLeft digest old (IsGood digest old.origin keys item) (plus digest old item) new

-- a merge that ran out of memory leaves the old view, or one between it and the union of the two
abbrev pub RefusedMergeIsBetween : Type 0
RefusedMergeIsBetween =
    (digest : List ℕ → List ℕ) (old other new : View) →
    Merges digest old other Exhausted new →
    IsLeft digest old (old.origin ≡ other.origin) (union old other) new

-- ---- the same for a list of mirrors

-- an event at one mirror of a list removes nothing from any view
abbrev pub EventGrows : Type 0
EventGrows =
    (digest : List ℕ → List ℕ) (keys : List Key) (old new : List View) (event : Event)
    (answer : Answer) →
    Happens digest keys old event answer new →
    (mirror : ℕ) (before after : View) →
    slice_get old mirror ≡ Some before →
    slice_get new mirror ≡ Some after →
    IsSubview before after

-- an event at one mirror of a list keeps all lawful views lawful
abbrev pub EventKeepsLawful : Type 0
EventKeepsLawful =
    (digest : List ℕ → List ℕ) →
    IsDigest digest →
    (keys : List Key) (old new : List View) (event : Event) (answer : Answer) →
    AreLawful digest old →
    Happens digest keys old event answer new →
    AreLawful digest new

-- an event at one mirror of a list has one answer and one list of views after it, apart from
-- OutOfMemory
abbrev pub EventsHaveOneAnswer : Type 0
EventsHaveOneAnswer =
    (digest : List ℕ → List ℕ) (keys : List Key) (old new other : List View) (event : Event)
    (a b : Answer) →
    Happens digest keys old event a new →
    Happens digest keys old event b other →
    a ≢ Exhausted →
    b ≢ Exhausted →
    (a ≡ b) × (new ≡ other)

-- an event that ran out of memory and is repeated has the result of one event, even if it merges a
-- mirror with itself
abbrev pub RetriedEventIsOneEvent : Type 0
RetriedEventIsOneEvent =
    (digest : List ℕ → List ℕ) (keys : List Key) (old between new : List View) (event : Event)
    (answer : Answer) →
    Happens digest keys old event Exhausted between →
    Happens digest keys between event answer new →
    Happens digest keys old event answer new

-- a merge of a mirror with itself changes nothing
abbrev pub SelfMergeChangesNothing : Type 0
SelfMergeChangesNothing =
    (digest : List ℕ → List ℕ) (keys : List Key) (old new : List View) (mirror : ℕ)
    (answer : Answer) →
    Happens digest keys old (Merge mirror mirror) answer new →
    new ≡ old
