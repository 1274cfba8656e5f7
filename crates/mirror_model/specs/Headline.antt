-- The headline: mirrors agree, and their reports are true, after any plays.
use Rattle.std.specs.Prelude.{◌≡◌, ◌≢◌, ◌↔◌, ℕ, List, [], ◌∷◌, ◌++◌, Some, slice_get, map}
use Rattle.std.specs.List.{Contains}
use Rattle.signed_note.specs.Keys.{Key}
use Rattle.mirror_model.specs.View.{View}
use Rattle.mirror_model.specs.Strings.{IsDigest}
use Rattle.mirror_model.specs.Complete.{Complete}
use Rattle.mirror_model.specs.Served.{Served}
use Rattle.mirror_model.specs.Forks.{Point, IsPrefix, IsFork}
use Rattle.mirror_model.specs.declared.items.Item.{Item}
use Rattle.mirror_model.specs.Item.{IsGood}
use Rattle.mirror_model.specs.declared.events.Event.{Event}
use Rattle.mirror_model.specs.declared.events.Event.TheVariants.{Take, Merge}
use Rattle.mirror_model.specs.Events.{Reaches}
use Rattle.mirror_model.specs.Steps.{Answer, Clashed, Exhausted, Run}
use Rattle.mirror_model.specs.Reached.{OpensWith, AreRetried}
use Rattle.mirror_model.specs.ReplyLaws.{IsTruth}
use Rattle.mirror_model.specs.RunLaws.{AreOf, AreLawful, IsReached, IsRun, NothingClashes}

-- ---- plays

-- a play: events, and an answer to each
pub record Play : Type 0 where
  pub events : List Event
  pub answers : List Answer

-- the events of several plays, in order
abbrev pub events_in : List Play → List Event
events_in [] = []
events_in (play ∷ plays) = play.events ++ events_in plays

-- the answers of several plays, in order
abbrev pub answers_in : List Play → List Answer
answers_in [] = []
answers_in (play ∷ plays) = play.answers ++ answers_in plays

-- no event of the plays was answered in that way
abbrev pub NoneAnswered : Answer → List Play → Type 0
NoneAnswered answer plays =
    (play : Play) → Contains plays play → ¬ Contains play.answers answer

-- no event of the plays was answered by a collision
abbrev pub NoneClashed : List Play → Type 0
NoneClashed plays = NoneAnswered Clashed plays

-- plays of any number of mirrors; each begins with the views at the end of the one before
abbrev pub Plays : (List ℕ → List ℕ) → List Key → List View → List Play → List View → Type 0
Plays digest keys old [] new = new ≡ old
Plays digest keys old (play ∷ plays) new =
    (between : List View) × Run digest keys old play.events play.answers between
    × Plays digest keys between plays new

-- in all plays in order, the same event directly follows an event that ran out of memory; the first
-- event of later plays can follow the last event of a play
abbrev pub PlaysAreRetried : List Play → Type 0
PlaysAreRetried plays = AreRetried (events_in plays) (answers_in plays)

-- a run, as one play
abbrev pub one_play : List Event → List Answer → List Play
one_play events answers = record { events = events; answers = answers } ∷ []

-- ---- mirrors agree

module _ (digest : List ℕ → List ℕ) (origin : List ℕ) (keys : List Key) where
  -- after plays of mirrors of one origin, a mirror has that view; each event that ran out of memory
  -- was repeated
  pub record Leaves (opened : List View) (plays : List Play) (mirror : ℕ) (v : View) : Type 0 where
    pub final : List View
    pub of_origin : AreOf origin opened
    pub played : Plays digest keys opened plays final
    pub retried : PlaysAreRetried plays
    pub is : slice_get final mirror ≡ Some v

  -- valid items, and strings and notes of opening views, that reach the first mirror in the first
  -- run also reach the other mirror in the other run
  pub record ReachesToo (opened opened' : List View) (events events' : List Event)
      (mirror mirror' : ℕ) : Type 0 where
    pub items :
        (item : Item) → IsGood digest origin keys item → Reaches item mirror events →
        Reaches item mirror' events'
    pub strings :
        (string : List ℕ) → OpensWith opened (λ v. v.strings) events mirror string →
        OpensWith opened' (λ v. v.strings) events' mirror' string
    pub notes :
        (note : List ℕ) → OpensWith opened (λ v. v.notes) events mirror note →
        OpensWith opened' (λ v. v.notes) events' mirror' note

  -- the same valid items, and the same strings and notes of opening views, reach both
  pub record ReachedAlike (opened opened' : List View) (events events' : List Event)
      (mirror mirror' : ℕ) : Type 0 where
    pub there : ReachesToo opened opened' events events' mirror mirror'
    pub back : ReachesToo opened' opened events' events mirror' mirror

  -- if nothing collided, a mirror's view is the union of the opening views and of the valid items
  -- that reach it
  abbrev pub PlaysBring : Type 0
  PlaysBring =
      (opened : List View) (plays : List Play) (mirror : ℕ) (v : View) →
      Leaves opened plays mirror v →
      NoneClashed plays →
      IsReached digest origin keys opened (events_in plays) mirror v

  -- mirrors hold equal views if the same items reached them, in any order, with repeats and by any
  -- merges
  abbrev pub SameReachedSameView : Type 0
  SameReachedSameView =
      (opened opened' : List View) (plays plays' : List Play) (mirror mirror' : ℕ) (v w : View) →
      Leaves opened plays mirror v →
      Leaves opened' plays' mirror' w →
      NoneClashed plays →
      NoneClashed plays' →
      ReachedAlike opened opened' (events_in plays) (events_in plays') mirror mirror' →
      v ≡ w

  -- as long as no two different strings met share a digest, no event is answered by a collision,
  -- even if an event that ran out of memory was not repeated
  abbrev pub NoPlayClashes : Type 0
  NoPlayClashes =
      (opened final : List View) (plays : List Play) →
      NothingClashes digest origin keys opened (events_in plays) →
      AreOf origin opened →
      Plays digest keys opened plays final →
      NoneClashed plays

  -- The headline. Two mirrors hold equal views after any plays, if the same valid items, and the
  -- same strings and notes of opening views, reached both. The premise is that no two different
  -- byte strings met share a digest.
  abbrev pub MirrorsAgree : Type 0
  MirrorsAgree =
      (opened opened' : List View) (plays plays' : List Play) (mirror mirror' : ℕ) (v w : View) →
      NothingClashes digest origin keys opened (events_in plays) →
      NothingClashes digest origin keys opened' (events_in plays') →
      Leaves opened plays mirror v →
      Leaves opened' plays' mirror' w →
      ReachedAlike opened opened' (events_in plays) (events_in plays') mirror mirror' →
      v ≡ w

-- ---- plays and runs

-- plays in order are one run of their events, with their answers
abbrev pub PlaysAreOneRun : Type 0
PlaysAreOneRun =
    (digest : List ℕ → List ℕ) (keys : List Key) (opened final : List View) (plays : List Play) →
    Plays digest keys opened plays final →
    Run digest keys opened (events_in plays) (answers_in plays) final

-- the events, with their answers, are one play that leads to the same views
pub record IsOnePlay (digest : List ℕ → List ℕ) (keys : List Key) (opened : List View)
    (events : List Event) (answers : List Answer) (final : List View) : Type 0 where
  pub played : Plays digest keys opened (one_play events answers) final
  pub events_are : events_in (one_play events answers) ≡ events
  pub answers_are : answers_in (one_play events answers) ≡ answers

-- a run is one play; so the laws of plays hold for takes and merges that are called one by one
abbrev pub RunIsOnePlay : Type 0
RunIsOnePlay =
    (digest : List ℕ → List ℕ) (keys : List Key) (opened final : List View) (events : List Event)
    (answers : List Answer) →
    Run digest keys opened events answers final →
    IsOnePlay digest keys opened events answers final

module _ (digest : List ℕ → List ℕ) (origin : List ℕ) (keys : List Key) where
  -- the headline holds for a run in which each event that ran out of memory was repeated
  abbrev pub RetriedRunLeaves : Type 0
  RetriedRunLeaves =
      (opened final : List View) (events : List Event) (answers : List Answer) →
      IsRun digest origin keys opened events answers final →
      AreRetried events answers →
      (mirror : ℕ) (v : View) →
      slice_get final mirror ≡ Some v →
      Leaves digest origin keys opened (one_play events answers) mirror v

-- if no event of the plays ran out of memory, none has to be repeated
abbrev pub NoPlayToRetry : Type 0
NoPlayToRetry = (plays : List Play) → NoneAnswered Exhausted plays → PlaysAreRetried plays

-- if each play repeats its events that ran out of memory, so do the plays in order
abbrev pub RetriedInEachPlay : Type 0
RetriedInEachPlay =
    (digest : List ℕ → List ℕ) (keys : List Key) (opened final : List View) (plays : List Play) →
    Plays digest keys opened plays final →
    ((play : Play) → Contains plays play → AreRetried play.events play.answers) →
    PlaysAreRetried plays

-- ---- reports are true

-- the reports of a view are true. The served checkpoint has the length and the tree hash of exactly
-- the served entries. Two different complete tree heads are a fork exactly if neither list of
-- entries is a prefix of the other
pub record IsTruthful (digest : List ℕ → List ℕ) (v : View) : Type 0 where
  pub served :
      (note : List ℕ) (size : ℕ) (root : List ℕ) (entries : List (List ℕ)) →
      Served digest v note size root entries →
      IsTruth digest v note entries
  pub forks :
      (a b : Point) (first second : List (List ℕ)) →
      a ≢ b →
      Complete digest v a.size a.root first →
      Complete digest v b.size b.root second →
      IsFork digest v a b ↔ ((¬ IsPrefix first second) × (¬ IsPrefix second first))

-- the reports of a view are true after any plays from lawful views, for all answers, even if
-- strings share a digest
abbrev pub PlaysTellTruth : Type 0
PlaysTellTruth =
    (digest : List ℕ → List ℕ) →
    IsDigest digest →
    (keys : List Key) (opened final : List View) (plays : List Play) →
    AreLawful digest opened →
    Plays digest keys opened plays final →
    (mirror : ℕ) (v : View) →
    slice_get final mirror ≡ Some v →
    IsTruthful digest v

-- between two views: a complete tree head stays complete with the same entries, and a fork stays a
-- fork
pub record HasGrown (digest : List ℕ → List ℕ) (before after : View) : Type 0 where
  pub stays :
      (size : ℕ) (root : List ℕ) (entries : List (List ℕ)) →
      Complete digest before size root entries →
      Complete digest after size root entries
  pub forks : (a b : Point) → IsFork digest before a b → IsFork digest after a b

-- after any plays, for all answers, each view has grown: complete tree heads stay complete with the
-- same entries, and forks stay forks
abbrev pub PlaysGrow : Type 0
PlaysGrow =
    (digest : List ℕ → List ℕ) (keys : List Key) (opened final : List View) (plays : List Play) →
    Plays digest keys opened plays final →
    (mirror : ℕ) (before after : View) →
    slice_get opened mirror ≡ Some before →
    slice_get final mirror ≡ Some after →
    HasGrown digest before after

-- after any plays from lawful views, for all answers, a tree head that was complete before has no
-- other entries
abbrev pub PlaysKeepEntries : Type 0
PlaysKeepEntries =
    (digest : List ℕ → List ℕ) →
    IsDigest digest →
    (keys : List Key) (opened final : List View) (plays : List Play) →
    AreLawful digest opened →
    Plays digest keys opened plays final →
    (mirror : ℕ) (before after : View) →
    slice_get opened mirror ≡ Some before →
    slice_get final mirror ≡ Some after →
    (size : ℕ) (root : List ℕ) (entries others : List (List ℕ)) →
    Complete digest before size root entries →
    Complete digest after size root others →
    entries ≡ others

-- ---- plays of some mirrors

-- the views of the part are in the whole list at these places, and no two share a place
pub record StandsIn (place : ℕ → ℕ) (part whole : List View) : Type 0 where
  pub apart : (i j : ℕ) → place i ≡ place j → i ≡ j
  pub found : (i : ℕ) (v : View) → slice_get part i ≡ Some v → slice_get whole (place i) ≡ Some v

-- the event, with the mirrors at these places
abbrev pub placed : (ℕ → ℕ) → Event → Event
placed place (Take target item) = Take (place target) item
placed place (Merge target source) = Merge (place target) (place source)

-- the whole list after a run of a part: the views of the part, and all others unchanged
pub record LeavesRest (place : ℕ → ℕ) (part whole new : List View) : Type 0 where
  pub stands : StandsIn place part new
  pub rest :
      (number : ℕ) → ((i : ℕ) → ¬ (number ≡ place i)) →
      slice_get new number ≡ slice_get whole number

-- a play of some mirrors is a play of all of them; so the plays of a list may each be of other
-- mirrors
abbrev pub PartIsPlayed : Type 0
PartIsPlayed =
    (digest : List ℕ → List ℕ) (keys : List Key) (place : ℕ → ℕ) (part whole after : List View)
    (events : List Event) (answers : List Answer) →
    StandsIn place part whole →
    Run digest keys part events answers after →
    (new : List View) × Run digest keys whole (map (placed place) events) answers new
    × LeavesRest place after whole new

-- if a run of some mirrors repeats each event that ran out of memory, so does that run of all of
-- them
abbrev pub PartIsRetried : Type 0
PartIsRetried =
    (place : ℕ → ℕ) (events : List Event) (answers : List Answer) →
    AreRetried events answers →
    AreRetried (map (placed place) events) answers
