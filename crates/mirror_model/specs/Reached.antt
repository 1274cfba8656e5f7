-- The strings and notes that reached a mirror.
use Rattle.std.specs.Prelude.{◌≡◌, ◌⊎◌, ℕ, Bool, true, false, List, [], ◌∷◌, Some, slice_get, cond, ⊤}
use Rattle.std.specs.List.{Contains}
use Rattle.node_store.specs.Strings.{Strings, Has}
use Rattle.signed_note.specs.Keys.{Key}
use Rattle.mirror_model.specs.View.{View}
use Rattle.mirror_model.specs.declared.items.Item.{Item}
use Rattle.mirror_model.specs.Item.{IsGood, strings_of, notes_of}
use Rattle.mirror_model.specs.declared.events.Event.{Event}
use Rattle.mirror_model.specs.Events.{Reaches, OpeningReaches}
use Rattle.mirror_model.specs.Steps.{Answer, Done, Refused, Clashed, Exhausted}

-- the string is in an opening view that reaches the mirror
pub record OpensWith (opened : List View) (part : View → Strings) (events : List Event)
    (mirror : ℕ) (string : List ℕ) : Type 0 where
  pub number : ℕ
  pub view : View
  pub is : slice_get opened number ≡ Some view
  pub reaches : OpeningReaches number mirror events
  pub has : Has (part view) string

module _ (digest : List ℕ → List ℕ) (origin : List ℕ) (keys : List Key) where
  -- the string is in a valid item that reaches the mirror
  pub record TakesIn (part : Item → List (List ℕ)) (events : List Event) (mirror : ℕ)
      (string : List ℕ) : Type 0 where
    pub item : Item
    pub good : IsGood digest origin keys item
    pub reaches : Reaches item mirror events
    pub has : Contains (part item) string

module _ (digest : List ℕ → List ℕ) (origin : List ℕ) (keys : List Key) (opened : List View) where
  -- the string has reached the mirror: it was in an opening view or a valid item that reaches the
  -- mirror
  abbrev pub StringReaches : List Event → ℕ → List ℕ → Type 0
  StringReaches events mirror string =
      OpensWith opened (λ v. v.strings) events mirror string
      ⊎ TakesIn digest origin keys (strings_of digest) events mirror string

  -- the note has reached the mirror: it was in an opening view or a valid item that reaches the
  -- mirror
  abbrev pub NoteReaches : List Event → ℕ → List ℕ → Type 0
  NoteReaches events mirror note =
      OpensWith opened (λ v. v.notes) events mirror note
      ⊎ TakesIn digest origin keys notes_of events mirror note

  -- the view has everything that the events bring to the mirror
  pub record HasReached (events : List Event) (mirror : ℕ) (v : View) : Type 0 where
    pub strings : (string : List ℕ) → StringReaches events mirror string → Has v.strings string
    pub notes : (note : List ℕ) → NoteReaches events mirror note → Has v.notes note

  -- the view has only what the events bring to the mirror
  pub record HasReachedOnly (events : List Event) (mirror : ℕ) (v : View) : Type 0 where
    pub strings : (string : List ℕ) → Has v.strings string → StringReaches events mirror string
    pub notes : (note : List ℕ) → Has v.notes note → NoteReaches events mirror note

-- the events whose answers are wanted
abbrev pub events_of : (Answer → Bool) → List Event → List Answer → List Event
events_of wanted [] answers = []
events_of wanted (event ∷ events) [] = []
events_of wanted (event ∷ events) (answer ∷ answers) =
    cond (wanted answer) (event ∷ events_of wanted events answers) (events_of wanted events answers)

-- the event was done, not refused and not stopped
abbrev pub is_done : Answer → Bool
is_done Done = true
is_done Refused = false
is_done Clashed = false
is_done Exhausted = false

-- an event with that answer may have changed a view: it was done, or ran out of memory
abbrev pub may_change : Answer → Bool
may_change Done = true
may_change Refused = false
may_change Clashed = false
may_change Exhausted = true

-- the list begins with that event
abbrev pub IsNext : Event → List Event → Type 0
IsNext event [] = ⊥
IsNext event (next ∷ events) = next ≡ event

-- the same event directly follows each event that ran out of memory
abbrev pub AreRetried : List Event → List Answer → Type 0
AreRetried [] answers = ⊤
AreRetried (event ∷ events) [] = ⊤
AreRetried (event ∷ events) (Done ∷ answers) = AreRetried events answers
AreRetried (event ∷ events) (Refused ∷ answers) = AreRetried events answers
AreRetried (event ∷ events) (Clashed ∷ answers) = AreRetried events answers
AreRetried (event ∷ events) (Exhausted ∷ answers) = IsNext event events × AreRetried events answers
