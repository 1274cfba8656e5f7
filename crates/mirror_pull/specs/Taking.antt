-- The items that a pull takes from the replies of its source. Only contracts of private functions
-- cite these definitions, except `Grows`, `item_at`, `IsOfHead`, `IsPulled` and `PullsTo`.
use Rattle.std.specs.Prelude.{◌≡◌, ℕ, ◌≤◌, List, [], Result, Ok, Err, Bool, true, false, IsTrue, ⊤}
use Rattle.signed_note.specs.Keys.{Key}
use Rattle.tlog_tiles.specs.declared.paths.Path.{Path}
use Rattle.tlog_tiles.specs.declared.paths.Path.TheVariants.{Checkpoint, Tile, Entries}
use Rattle.node_store.specs.Strings.{Has, NoClash}
use Rattle.mirror_model.specs.View.{View, IsSubview}
use Rattle.mirror_model.specs.Heads.{IsOpenHead, HasHead}
use Rattle.mirror_model.specs.declared.items.Item.{Item}
use Rattle.mirror_model.specs.declared.items.Item.TheVariants as item
use Rattle.mirror_model.specs.Item.{IsGood, IsWidth, plus}
use Rattle.mirror_model.specs.Complete.{IsComplete}
use Rattle.mirror_model.specs.Steps.{Takes, Clashed, Exhausted}
use Rattle.mirror_model.specs.declared.fault.TakeFault.{TakeFault}
use Rattle.mirror_model.specs.declared.fault.TakeFault.TheVariants as take
use Rattle.mirror_pull.specs.declared.fault.PullFault.{PullFault}
use Rattle.mirror_pull.specs.declared.fault.PullFault.TheVariants.{NoCheckpoint, NoEdge, Head}
use Rattle.mirror_pull.specs.declared.fault.PullFault.TheVariants.{Source, Collision, OutOfMemory}
use Rattle.mirror_pull.specs.declared.pulling.Pulled.{Pulled}

-- the view has gained only strings
pub record GainsStrings (old new : View) : Type 0 where
  pub grows : IsSubview old new
  pub same_notes : (note : List ℕ) → Has new.notes note → Has old.notes note

-- the view has gained strings and at most one note, which is a checkpoint of the origin that opens
-- under the keys
pub record Grows (keys : List Key) (old new : View) : Type 0 where
  pub grows : IsSubview old new
  pub one_note :
      (note other : List ℕ) → Has new.notes note → Has new.notes other → (¬ Has old.notes note) →
      (¬ Has old.notes other) → note ≡ other
  pub good :
      (note : List ℕ) → Has new.notes note → (¬ Has old.notes note) →
      (size : ℕ) × (root : List ℕ) × IsOpenHead note old.origin keys size root

-- the item of the bytes at a path
abbrev pub item_at : Path → List ℕ → Item
item_at Checkpoint bytes = item.Tile 0 []
item_at (Tile level index width) bytes = item.Tile width bytes
item_at (Entries index width) bytes = item.Bundle width bytes

-- the path is that of a tile or bundle with a width from 1 to 256
abbrev pub IsTakeable : Path → Type 0
IsTakeable Checkpoint = ⊥
IsTakeable (Tile level index width) = IsWidth width
IsTakeable (Entries index width) = IsWidth width

-- the views before and after an item, by the answer of the pull: true if the item was refused
-- because it is not valid
abbrev pub TakesItem : (List ℕ → List ℕ) → View → Item → Result Bool PullFault → View → Type 0
TakesItem digest old item (Ok true) new = (¬ IsGood digest old.origin [] item) × (new ≡ old)
TakesItem digest old item (Ok false) new = IsGood digest old.origin [] item ×
    NoClash digest (plus digest old item).strings × (new ≡ plus digest old item)
TakesItem digest old item (Err Collision) new = Takes digest [] old item Clashed new
TakesItem digest old item (Err OutOfMemory) new = Takes digest [] old item Exhausted new
TakesItem digest old item (Err NoCheckpoint) new = ⊥
TakesItem digest old item (Err NoEdge) new = ⊥
TakesItem digest old item (Err (Head f)) new = ⊥
TakesItem digest old item (Err Source) new = ⊥

-- the answer may come after the tree head: a pull then ends early only for its source, a collision
-- or OutOfMemory
abbrev pub EndsAfterHead : {T : Type 0} → Result T PullFault → Type 0
EndsAfterHead (Ok x) = ⊤
EndsAfterHead (Err NoCheckpoint) = ⊥
EndsAfterHead (Err NoEdge) = ⊥
EndsAfterHead (Err (Head f)) = ⊥
EndsAfterHead (Err Source) = ⊤
EndsAfterHead (Err Collision) = ⊤
EndsAfterHead (Err OutOfMemory) = ⊤

-- the answer may come before the tree head: a pull then ends only for OutOfMemory, its source or
-- the right edge
abbrev pub EndsBeforeHead : {T : Type 0} → Result T PullFault → Type 0
EndsBeforeHead (Ok x) = ⊤
EndsBeforeHead (Err NoCheckpoint) = ⊥
EndsBeforeHead (Err NoEdge) = ⊤
EndsBeforeHead (Err (Head f)) = ⊥
EndsBeforeHead (Err Source) = ⊤
EndsBeforeHead (Err Collision) = ⊥
EndsBeforeHead (Err OutOfMemory) = ⊤

-- the fault of a take is a fault of the tree head, not a collision or OutOfMemory
abbrev pub IsOfHead : TakeFault → Type 0
IsOfHead take.Collision = ⊥
IsOfHead take.OutOfMemory = ⊥
IsOfHead f = ⊤

-- the views before and after the tree head, by the answer of the pull
abbrev pub TakesHead : {T : Type 0} → (List ℕ → List ℕ) → List Key → View → Item →
    Result T PullFault → View → Type 0
TakesHead digest keys old item (Ok x) new = IsGood digest old.origin keys item ×
    NoClash digest (plus digest old item).strings × (new ≡ plus digest old item)
TakesHead digest keys old item (Err NoCheckpoint) new = ⊥
TakesHead digest keys old item (Err NoEdge) new = ⊥
TakesHead digest keys old item (Err (Head f)) new = IsOfHead f ×
    (¬ IsGood digest old.origin keys item) × (new ≡ old)
TakesHead digest keys old item (Err Source) new = ⊥
TakesHead digest keys old item (Err Collision) new = Takes digest keys old item Clashed new
TakesHead digest keys old item (Err OutOfMemory) new = Takes digest keys old item Exhausted new

-- a note with that size and root is held, and the answer says whether the tree head is complete
pub record IsPulled (digest : List ℕ → List ℕ) (v : View) (p : Pulled) : Type 0 where
  pub head : HasHead v p.size p.root
  pub complete : IsTrue p.complete → IsComplete digest v p.size p.root
  pub not_complete : IsComplete digest v p.size p.root → IsTrue p.complete
  pub at_most : p.rounds ≤ 8

-- the views before and after a pull, by its answer
abbrev pub PullsTo : (List ℕ → List ℕ) → List Key → View → View → Result Pulled PullFault → Type 0
PullsTo digest keys old new (Ok p) = Grows keys old new × IsPulled digest new p
PullsTo digest keys old new (Err NoCheckpoint) = new ≡ old
PullsTo digest keys old new (Err NoEdge) = new ≡ old
PullsTo digest keys old new (Err (Head f)) = IsOfHead f × (new ≡ old)
PullsTo digest keys old new (Err Source) = Grows keys old new
PullsTo digest keys old new (Err Collision) = Grows keys old new
PullsTo digest keys old new (Err OutOfMemory) = Grows keys old new
