-- Laws of refusals: an item is refused exactly if it is not valid, and for only one reason.
use Rattle.std.specs.Prelude.{◌≡◌, ◌≢◌, ◌↔◌, ℕ, List, Result, Err}
use Rattle.signed_note.specs.Keys.{Key}
use Rattle.tlog_checkpoint.specs.declared.Checkpoint.{Checkpoint}
use Rattle.mirror_model.specs.Heads.{IsOpenHead}
use Rattle.mirror_model.specs.Item.{IsGoodTile, IsGoodBundle, IsGoodHead}
use Rattle.mirror_model.specs.Steps.{Refused}
use Rattle.mirror_model.specs.Answered.{answer_of}
use Rattle.mirror_model.specs.Refusals.{IsOpenCheckpoint, ReadsHead, JudgesHead, JudgesTile}
use Rattle.mirror_model.specs.Refusals.{JudgesBundle}
use Rattle.mirror_model.specs.declared.fault.TakeFault.{TakeFault}
use Rattle.mirror_model.specs.declared.fault.TakeFault.TheVariants.{OutOfMemory}

-- the answers to an item agree with its validity. A refused item is not valid; an item with another
-- answer is valid, apart from OutOfMemory. Two refusals of an item are the same
pub record JudgesOnce (Judges : Result (Unit {0}) TakeFault → Type 0) (Good : Type 0) : Type 0 where
  pub refused : (a : Result (Unit {0}) TakeFault) → Judges a → answer_of a ≡ Refused → ¬ Good
  pub taken :
      (a : Result (Unit {0}) TakeFault) → Judges a → answer_of a ≢ Refused → a ≢ Err OutOfMemory →
      Good
  pub once :
      (a b : Result (Unit {0}) TakeFault) → Judges a → Judges b → answer_of a ≡ Refused →
      answer_of b ≡ Refused →
      a ≡ b

-- a tile is refused exactly if it is not valid, and for only one reason
abbrev pub TilesAreJudged : Type 0
TilesAreJudged =
    (width : ℕ) (bytes : List ℕ) → JudgesOnce (JudgesTile width bytes) (IsGoodTile width bytes)

-- a bundle is refused exactly if it is not valid, and for only one reason
abbrev pub BundlesAreJudged : Type 0
BundlesAreJudged =
    (width : ℕ) (bytes : List ℕ) → JudgesOnce (JudgesBundle width bytes) (IsGoodBundle width bytes)

-- a tree head is refused exactly if it is not valid, and for only one reason
abbrev pub HeadsAreJudged : Type 0
HeadsAreJudged =
    (digest : List ℕ → List ℕ) (origin : List ℕ) (keys : List Key) (note : List ℕ)
    (rows : List (List ℕ)) →
    JudgesOnce (JudgesHead digest origin keys note rows) (IsGoodHead digest origin keys note rows)

-- reading a note as a tree head has one answer, apart from OutOfMemory
abbrev pub HeadNotesAreReadOnce : Type 0
HeadNotesAreReadOnce =
    (note origin : List ℕ) (keys : List Key) (a b : Result Checkpoint TakeFault) →
    ReadsHead note origin keys a →
    ReadsHead note origin keys b → a ≢ Err OutOfMemory → b ≢ Err OutOfMemory → a ≡ b

-- a checkpoint with that size and root is read from the note, which opens under the keys
pub record IsOpenAs (note origin : List ℕ) (keys : List Key) (size : ℕ) (root : List ℕ)
    : Type 0 where
  pub checkpoint : Checkpoint
  pub is_open : IsOpenCheckpoint note origin keys checkpoint
  pub size_is : checkpoint.size ≡ size
  pub root_is : checkpoint.root ≡ root

-- a note is an open tree head with a size and root exactly if a checkpoint with these is read from
-- it
abbrev pub OpenHeadsAreRead : Type 0
OpenHeadsAreRead =
    (note origin : List ℕ) (keys : List Key) (size : ℕ) (root : List ℕ) →
    IsOpenHead note origin keys size root ↔ IsOpenAs note origin keys size root
