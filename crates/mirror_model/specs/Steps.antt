-- The effect of each event on the views, by its answer.
use Rattle.std.specs.Prelude.{◌≡◌, ◌⊎◌, ℕ, List, [], ◌∷◌, Some, slice_get, slice_set}
use Rattle.node_store.specs.Strings.{Has, NoClash}
use Rattle.signed_note.specs.Keys.{Key}
use Rattle.mirror_model.specs.View.{View, union, IsSubview}
use Rattle.mirror_model.specs.Strings.{HasClash}
use Rattle.mirror_model.specs.declared.items.Item.{Item}
use Rattle.mirror_model.specs.Item.{IsGood, plus}
use Rattle.mirror_model.specs.declared.events.Event.{Event}
use Rattle.mirror_model.specs.declared.events.Event.TheVariants.{Take, Merge}

-- the answer to an event. Done: it was done. Refused: the item or the other mirror was refused.
-- Clashed: two different strings would share a digest. Exhausted: it ran out of memory
pub data Answer : Type 0 where
  Done : Answer
  Refused : Answer
  Clashed : Answer
  Exhausted : Answer

-- the view is between the old one and the whole one, and it has a new note only if it has all
-- strings
pub record IsBetween (old whole new : View) : Type 0 where
  pub grows : IsSubview old new
  pub within : IsSubview new whole
  pub notes_last :
      (note : List ℕ) → Has new.notes note →
      Has old.notes note ⊎ ((string : List ℕ) → Has whole.strings string → Has new.strings string)

module _ (digest : List ℕ → List ℕ) where
  -- an event would change the old view to the whole one, if it is allowed. It is refused exactly if
  -- it is not allowed, and collides exactly if the whole view does. OutOfMemory leaves the old view
  -- or, if the event is allowed and the whole view does not collide, one between the two
  abbrev pub Answers : View → Type 0 → View → Answer → View → Type 0
  Answers old Allowed whole Done new = Allowed × NoClash digest whole.strings × (new ≡ whole)
  Answers old Allowed whole Refused new = (¬ Allowed) × (new ≡ old)
  Answers old Allowed whole Clashed new = Allowed × HasClash digest whole.strings × (new ≡ old)
  Answers old Allowed whole Exhausted new =
      (new ≡ old) ⊎ (Allowed × NoClash digest whole.strings × IsBetween old whole new)

  -- a take of an item, with these keys
  abbrev pub Takes : List Key → View → Item → Answer → View → Type 0
  Takes keys old item answer new =
      Answers old (IsGood digest old.origin keys item) (plus digest old item) answer new

  -- a merge of another view, which stays unchanged
  abbrev pub Merges : View → View → Answer → View → Type 0
  Merges old other answer new = Answers old (old.origin ≡ other.origin) (union old other) answer new

module _ (digest : List ℕ → List ℕ) (keys : List Key) where
  -- one mirror of a list takes an item
  pub record TakesAt (old : List View) (target : ℕ) (item : Item) (answer : Answer)
      (new : List View) : Type 0 where
    pub before : View
    pub after : View
    pub found : slice_get old target ≡ Some before
    pub takes : Takes digest keys before item answer after
    pub set : new ≡ slice_set old target after

  -- one mirror of a list is merged with another
  pub record MergesAt (old : List View) (target source : ℕ) (answer : Answer) (new : List View)
      : Type 0 where
    pub before : View
    pub other : View
    pub after : View
    pub found : slice_get old target ≡ Some before
    pub found_other : slice_get old source ≡ Some other
    pub merges : Merges digest before other answer after
    pub set : new ≡ slice_set old target after

  -- one event happens to a list of mirrors: the mirror that it names takes the item or is merged,
  -- and all others stay unchanged
  abbrev pub Happens : List View → Event → Answer → List View → Type 0
  Happens old (Take target item) answer new = TakesAt old target item answer new
  Happens old (Merge target source) answer new = MergesAt old target source answer new

  -- events happen in order, each with an answer, from the old views to the new
  abbrev pub Run : List View → List Event → List Answer → List View → Type 0
  Run old [] [] new = new ≡ old
  Run old (event ∷ events) (answer ∷ answers) new =
      (between : List View) × Happens old event answer between × Run between events answers new
  Run old [] (answer ∷ answers) new = ⊥
  Run old (event ∷ events) [] new = ⊥
