-- Laws of runs: the views after them.
use Rattle.std.specs.Prelude.{◌≡◌, ◌⊎◌, ℕ, List, [], ◌∷◌, ◌++◌, Some, slice_get, slice_set}
use Rattle.std.specs.List.{Contains}
use Rattle.signed_note.specs.Keys.{Key}
use Rattle.node_store.specs.Strings.{Has}
use Rattle.mirror_model.specs.View.{View, IsSubview}
use Rattle.mirror_model.specs.Strings.{IsDigest}
use Rattle.mirror_model.specs.Complete.{IsLawful}
use Rattle.mirror_model.specs.declared.items.Item.{Item}
use Rattle.mirror_model.specs.Item.{IsGood, strings_of}
use Rattle.mirror_model.specs.declared.events.Event.{Event}
use Rattle.mirror_model.specs.declared.events.Event.TheVariants.{Take, Merge}
use Rattle.mirror_model.specs.Steps.{Answer, Clashed, Takes, Merges, Run}
use Rattle.mirror_model.specs.Reached.{HasReached, HasReachedOnly, events_of, is_done, may_change}
use Rattle.mirror_model.specs.Reached.{AreRetried}

-- all views of the list have that origin
abbrev pub AreOf : List ℕ → List View → Type 0
AreOf origin views = (mirror : ℕ) (v : View) → slice_get views mirror ≡ Some v → v.origin ≡ origin

module _ (digest : List ℕ → List ℕ) (origin : List ℕ) (keys : List Key) where
  -- a run of events leads from views of that origin to other views
  pub record IsRun (opened : List View) (events : List Event) (answers : List Answer)
      (final : List View) : Type 0 where
    pub of_origin : AreOf origin opened
    pub run : Run digest keys opened events answers final

  -- the bounds of a mirror's view, for all answers: it has everything that the events that were
  -- done bring to it, and only what they and the events that ran out of memory bring
  pub record IsBounded (opened : List View) (events : List Event) (answers : List Answer)
      (mirror : ℕ) (v : View) : Type 0 where
    pub lower : HasReached digest origin keys opened (events_of is_done events answers) mirror v
    pub upper :
        HasReachedOnly digest origin keys opened (events_of may_change events answers) mirror v

  -- after a run, each view is within these bounds
  abbrev pub RunIsBounded : Type 0
  RunIsBounded =
      (opened final : List View) (events : List Event) (answers : List Answer) →
      IsRun opened events answers final →
      (mirror : ℕ) (v : View) → slice_get final mirror ≡ Some v →
      IsBounded opened events answers mirror v

  -- the view is the union of the opening views and of the valid items that reach the mirror
  pub record IsReached (opened : List View) (events : List Event) (mirror : ℕ) (v : View)
      : Type 0 where
    pub origin_is : v.origin ≡ origin
    pub has : HasReached digest origin keys opened events mirror v
    pub only : HasReachedOnly digest origin keys opened events mirror v

  -- if nothing collided, and each event that ran out of memory was repeated, a view is the union of
  -- the opening views and valid items that reach its mirror
  abbrev pub RunIsReached : Type 0
  RunIsReached =
      (opened final : List View) (events : List Event) (answers : List Answer) →
      IsRun opened events answers final →
      (¬ Contains answers Clashed) → AreRetried events answers → (mirror : ℕ) (v : View) →
      slice_get final mirror ≡ Some v → IsReached opened events mirror v

-- the string is in an opening view
pub record IsOpened (opened : List View) (string : List ℕ) : Type 0 where
  pub number : ℕ
  pub view : View
  pub is : slice_get opened number ≡ Some view
  pub has : Has view.strings string

module _ (digest : List ℕ → List ℕ) (origin : List ℕ) (keys : List Key) where
  -- the string is in a valid item that some event of the list takes, at any mirror
  pub record IsTaken (events : List Event) (string : List ℕ) : Type 0 where
    pub position : ℕ
    pub target : ℕ
    pub item : Item
    pub is : slice_get events position ≡ Some (Take target item)
    pub good : IsGood digest origin keys item
    pub has : Contains (strings_of digest item) string

  -- the mirrors meet the string: it is in an opening view, or in a valid item that is taken
  abbrev pub IsMet : List View → List Event → List ℕ → Type 0
  IsMet opened events string = IsOpened opened string ⊎ IsTaken events string

  -- no two different strings that the mirrors meet share a digest
  abbrev pub NothingClashes : List View → List Event → Type 0
  NothingClashes opened events =
      (x y : List ℕ) → IsMet opened events x → IsMet opened events y → digest x ≡ digest y → x ≡ y

  -- if no two different strings met share a digest, no event is answered by a collision
  abbrev pub NoneClashes : Type 0
  NoneClashes =
      (opened final : List View) (events : List Event) (answers : List Answer) →
      IsRun digest origin keys opened events answers final → NothingClashes opened events →
      ¬ Contains answers Clashed

-- the law holds for each digest, origin and list of keys
abbrev pub ForMirrors : ((List ℕ → List ℕ) → List ℕ → List Key → Type 0) → Type 0
ForMirrors Law =
    (digest : List ℕ → List ℕ) (origin : List ℕ) (keys : List Key) → Law digest origin keys

-- all views of the list are lawful
abbrev pub AreLawful : (List ℕ → List ℕ) → List View → Type 0
AreLawful digest views =
    (mirror : ℕ) (v : View) → slice_get views mirror ≡ Some v → IsLawful digest v

-- a run keeps views lawful
abbrev pub RunIsLawful : Type 0
RunIsLawful =
    (digest : List ℕ → List ℕ) → IsDigest digest →
    (keys : List Key) (opened final : List View) (events : List Event) (answers : List Answer) →
    AreLawful digest opened → Run digest keys opened events answers final → AreLawful digest final

-- a run only makes views grow
abbrev pub RunGrows : Type 0
RunGrows =
    (digest : List ℕ → List ℕ) (keys : List Key) (opened final : List View) (events : List Event)
    (answers : List Answer) →
    Run digest keys opened events answers final → (mirror : ℕ) (v w : View) →
    slice_get opened mirror ≡ Some v →
    slice_get final mirror ≡ Some w → IsSubview v w

-- ---- runs of single calls

-- two runs, the second from the views after the first, are one run of the events of both
abbrev pub RunsJoin : Type 0
RunsJoin =
    (digest : List ℕ → List ℕ) (keys : List Key) (old between new : List View)
    (first second : List Event) (answers more : List Answer) →
    Run digest keys old first answers between →
    Run digest keys between second more new →
    Run digest keys old (first ++ second) (answers ++ more) new

-- one take by one of several mirrors is a run of one event, by the contract of the call
abbrev pub TakeIsRun : Type 0
TakeIsRun =
    (digest : List ℕ → List ℕ) (keys : List Key) (views : List View) (mirror : ℕ)
    (old new : View) (item : Item) (answer : Answer) →
    slice_get views mirror ≡ Some old →
    Takes digest keys old item answer new →
    Run digest keys views (Take mirror item ∷ []) (answer ∷ []) (slice_set views mirror new)

-- one merge of one of several mirrors is a run of one event, by the contract of the call
abbrev pub MergeIsRun : Type 0
MergeIsRun =
    (digest : List ℕ → List ℕ) (keys : List Key) (views : List View) (mirror source : ℕ)
    (old other new : View) (answer : Answer) →
    slice_get views mirror ≡ Some old →
    slice_get views source ≡ Some other →
    Merges digest old other answer new →
    Run digest keys views (Merge mirror source ∷ []) (answer ∷ []) (slice_set views mirror new)
