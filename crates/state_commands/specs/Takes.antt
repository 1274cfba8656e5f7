-- The command `take`: the item in the files, and the state that it leaves.
use Rattle.std.specs.Prelude.{◌≡◌, ◌≤◌, ℕ, List, [], ◌∷◌, map, Option, Result, Ok, Err, ⊤}
use Rattle.mirror_sources.specs.Recorded.{KeepsRecord}
use Rattle.signed_note.specs.Keys.{Key}
use Rattle.mirror_model.specs.Answered.{answer_of}
use Rattle.mirror_model.specs.Steps.{Takes}
use Rattle.mirror_model.specs.View.{View}
use Rattle.mirror_model.specs.declared.fault.TakeFault.{TakeFault}
use Rattle.mirror_model.specs.declared.items.Item.{Item}
use Rattle.mirror_model.specs.declared.items.Item.TheVariants as item
use Rattle.tlog_mirror.specs.Judged.{JudgesItem}
use Rattle.program_io.specs.Named.{NamedFile}
use Rattle.program_io.specs.Performing.{done, failed}
use Rattle.program_io.specs.Named.{FailsToPut, FailsToRead, HasContents, HaveContents}
use Rattle.program_io.specs.States.{BeginsWith, WritesState}
use Rattle.state_commands.specs.declared.item.ItemFiles.{ItemFiles}
use Rattle.state_commands.specs.declared.item.ItemFiles.TheVariants.{Head, Tile, Bundle}
use Rattle.state_commands.specs.declared.work_fault.TakeFilesFault.{TakeFilesFault}
use Rattle.state_commands.specs.declared.work_fault.TakeFilesFault.TheVariants.{State, Item as Unread}
use Rattle.state_commands.specs.declared.work_fault.TakeFilesFault.TheVariants.{Take, Out}

-- the width for the file of a tile or a bundle is from 1 to 256
abbrev pub NamesWidth : ItemFiles → Type 0
NamesWidth (Head note rows) = ⊤
NamesWidth (Tile width file) = (1 ≤ width) × (width ≤ 256)
NamesWidth (Bundle width file) = (1 ≤ width) × (width ≤ 256)

-- the names of the files
abbrev pub item_names : ItemFiles → List (List ℕ)
item_names (Head note rows) = note.now ∷ map (λ row. row.now) rows.now
item_names (Tile width file) = file.now ∷ []
item_names (Bundle width file) = file.now ∷ []

-- the files hold the item, if the puts are recorded
abbrev pub HoldItem : Option (List NamedFile) → ItemFiles → Item → Type 0
HoldItem recorded (Head note rows) (item.Head bytes edge) =
    HasContents recorded note.now bytes × HaveContents recorded (map (λ row. row.now) rows.now) edge
HoldItem recorded (Tile width file) (item.Tile size bytes) =
    (size ≡ width) × HasContents recorded file.now bytes
HoldItem recorded (Bundle width file) (item.Bundle size bytes) =
    (size ≡ width) × HasContents recorded file.now bytes
HoldItem recorded files other = ⊥

module _ (digest : List ℕ → List ℕ) (keys : List Key) (recorded : Option (List NamedFile)) where
  -- the files hold an item, and taking it gave this answer; a fault is the first that applies to an item of its kind
  pub record TakesOf (before : View) (files : ItemFiles) (answer : Result (Unit {0}) TakeFault)
      (after : View) : Type 0 where
    pub item : Item
    pub held : HoldItem recorded files item
    pub takes : Takes digest keys before item (answer_of answer) after
    pub judged : JudgesItem digest keys before.origin item answer

  -- first the files are read, and then the item is taken
  abbrev pub TakesHeld : {T : Type 0} → View → ItemFiles → View → Result T TakeFilesFault → Type 0
  TakesHeld before files after (Ok x) = TakesOf before files done after
  TakesHeld before files after (Err (Unread fault)) = FailsToRead recorded (item_names files) fault
  TakesHeld before files after (Err (Take fault)) = TakesOf before files (failed fault) after
  TakesHeld before files after (Err other) = ⊥

module _ (digest : List ℕ → List ℕ) (origin : List ℕ) (keys : List Key)
    (recorded : Option (List NamedFile)) (state : Option (List ℕ)) (files : ItemFiles) where
  -- there was a mirror, and it took the item in the files with this answer
  pub record TakesBegun (answer : Result (Unit {0}) TakeFault) (after : View) : Type 0 where
    pub before : View
    pub begun : BeginsWith digest origin keys recorded state (Ok before)
    pub taken : TakesOf digest keys recorded before files answer after

  -- there was a mirror to begin with
  abbrev pub HasBegun : Type 0
  HasBegun = (before : View) × BeginsWith digest origin keys recorded state (Ok before)

  -- the mirror with the item, or the first reason why there is none
  abbrev pub MakesTaken : Result View TakeFilesFault → Type 0
  MakesTaken (Ok after) = TakesBegun done after
  MakesTaken (Err (State fault)) = BeginsWith digest origin keys recorded state (Err fault)
  MakesTaken (Err (Unread fault)) = HasBegun × FailsToRead recorded (item_names files) fault
  MakesTaken (Err (Take fault)) = (after : View) × TakesBegun (failed fault) after
  MakesTaken (Err (Out fault)) = ⊥

  -- the new state was written to the file of that name; after a fault nothing was written
  abbrev pub LeavesTaken : {T : Type 0} → List ℕ → Option (List NamedFile) →
      Result T TakeFilesFault → Type 0
  LeavesTaken out new (Ok x) =
      (after : View) × TakesBegun done after × WritesState after out recorded new
  LeavesTaken out new (Err (State fault)) = MakesTaken (Err (State fault)) × KeepsRecord recorded new
  LeavesTaken out new (Err (Unread fault)) = MakesTaken (Err (Unread fault)) × KeepsRecord recorded new
  LeavesTaken out new (Err (Take fault)) = MakesTaken (Err (Take fault)) × KeepsRecord recorded new
  LeavesTaken out new (Err (Out fault)) =
      ((after : View) × TakesBegun done after) × FailsToPut recorded new fault
