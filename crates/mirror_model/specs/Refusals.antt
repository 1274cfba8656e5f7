-- The answers to taking an item: the first refusal that applies to it, in the order of the faults.
-- The definitions do not name the state of the mirror. A collision depends on the held strings;
-- here it means only that the item is valid. The item determines the answer, unless it is
-- OutOfMemory.
use Rattle.std.specs.Prelude.{◌≡◌, ◌≢◌, ℕ, ◌*◌, List, length, map, Result, Ok, Err, ⊤}
use Rattle.signed_note.specs.Keys.{Key}
use Rattle.signed_note.specs.Notes.{SignatureParts, IsNote, Opens}
use Rattle.signed_note.specs.Reading.{ReadsNote}
use Rattle.signed_note.specs.declared.fault.NoteFault.{NoteFault}
use Rattle.signed_note.specs.declared.fault.NoteFault.TheVariants as noting
use Rattle.tlog_checkpoint.specs.declared.Checkpoint.{Checkpoint}
use Rattle.tlog_checkpoint.specs.Grammar.{IsCheckpoint}
use Rattle.tlog_checkpoint.specs.Reading.{ReadsCheckpoint}
use Rattle.tlog_checkpoint.specs.declared.fault.CheckpointFault.{CheckpointFault}
use Rattle.tlog_checkpoint.specs.declared.fault.CheckpointFault.TheVariants as reading
use Rattle.tlog_tiles.specs.Bundle.{ReadsBundle}
use Rattle.tlog_tiles.specs.declared.bundle.BundleFault.TheVariants as bundling
use Rattle.mirror_model.specs.Edge.{edge_widths, edge_root}
use Rattle.mirror_model.specs.Item.{row_of, IsGoodTile, IsGoodBundle, IsGoodHead}
use Rattle.mirror_model.specs.declared.fault.TakeFault.{TakeFault}
use Rattle.mirror_model.specs.declared.fault.TakeFault.TheVariants as taking

-- the bytes are a note whose text is that checkpoint, with its extension lines
pub record IsCheckpointNote (bytes : List ℕ) (checkpoint : Checkpoint) (text : List ℕ)
    (lines : List SignatureParts) : Type 0 where
  pub is_note : IsNote bytes text lines
  pub is_checkpoint :
      IsCheckpoint text checkpoint.origin checkpoint.size checkpoint.root checkpoint.extensions

-- the checkpoint has that origin, and the note opens under the keys
pub record IsOpenCheckpoint (bytes origin : List ℕ) (keys : List Key) (checkpoint : Checkpoint)
    : Type 0 where
  pub text : List ℕ
  pub lines : List SignatureParts
  pub is : IsCheckpointNote bytes checkpoint text lines
  pub origin_is : checkpoint.origin ≡ origin
  pub opens : Opens text lines keys

-- the bytes are not a note, for that reason
pub record IsNoNote (bytes : List ℕ) (fault : NoteFault) : Type 0 where
  pub refused : ReadsNote bytes (Err fault)
  pub has_memory : fault ≢ noting.OutOfMemory

-- the bytes are a note, but its text is not a checkpoint, for that reason
pub record IsNoCheckpoint (bytes : List ℕ) (fault : CheckpointFault) : Type 0 where
  pub text : List ℕ
  pub lines : List SignatureParts
  pub is_note : IsNote bytes text lines
  pub refused : ReadsCheckpoint text (Err fault)
  pub has_memory : fault ≢ reading.OutOfMemory

-- the text of the note is a checkpoint with another origin
pub record HasOtherOrigin (bytes origin : List ℕ) : Type 0 where
  pub checkpoint : Checkpoint
  pub text : List ℕ
  pub lines : List SignatureParts
  pub is : IsCheckpointNote bytes checkpoint text lines
  pub differs : checkpoint.origin ≢ origin

-- the text of the note is a checkpoint with that origin, but no key of the list accepts a line of
-- the note
pub record HasNoSigner (bytes origin : List ℕ) (keys : List Key) : Type 0 where
  pub checkpoint : Checkpoint
  pub text : List ℕ
  pub lines : List SignatureParts
  pub is : IsCheckpointNote bytes checkpoint text lines
  pub origin_is : checkpoint.origin ≡ origin
  pub closed : ¬ Opens text lines keys

-- when a reader of checkpoint notes may return each answer. Ok: the note opens under the keys, and
-- has that checkpoint. A fault: it applies to the note
abbrev pub ReadsHead : List ℕ → List ℕ → List Key → Result Checkpoint TakeFault → Type 0
ReadsHead bytes origin keys (Ok checkpoint) = IsOpenCheckpoint bytes origin keys checkpoint
ReadsHead bytes origin keys (Err (taking.Note fault)) = IsNoNote bytes fault
ReadsHead bytes origin keys (Err (taking.Checkpoint fault)) = IsNoCheckpoint bytes fault
ReadsHead bytes origin keys (Err taking.OtherOrigin) = HasOtherOrigin bytes origin
ReadsHead bytes origin keys (Err taking.NoTrustedSignature) = HasNoSigner bytes origin keys
ReadsHead bytes origin keys (Err taking.EdgeCount) = ⊥
ReadsHead bytes origin keys (Err taking.EdgeLength) = ⊥
ReadsHead bytes origin keys (Err taking.EdgeMismatch) = ⊥
ReadsHead bytes origin keys (Err taking.RowLength) = ⊥
ReadsHead bytes origin keys (Err taking.BundleShort) = ⊥
ReadsHead bytes origin keys (Err taking.BundleLong) = ⊥
ReadsHead bytes origin keys (Err taking.Collision) = ⊥
ReadsHead bytes origin keys (Err taking.OutOfMemory) = ⊤

-- the number of rows is the number of partial tiles of that size
abbrev pub HasEdgeCount : ℕ → List (List ℕ) → Type 0
HasEdgeCount size rows = length rows ≡ length (edge_widths size)

-- the number of rows is the number of partial tiles of that size, and each row has 32 bytes for
-- each hash of its tile
abbrev pub HasEdgeLengths : ℕ → List (List ℕ) → Type 0
HasEdgeLengths size rows = map length rows ≡ map (λ width. 32 * width) (edge_widths size)

-- the note is valid, but the number of rows is not that of the partial tiles of its size
pub record HasOtherCount (bytes origin : List ℕ) (keys : List Key) (rows : List (List ℕ))
    : Type 0 where
  pub checkpoint : Checkpoint
  pub is_open : IsOpenCheckpoint bytes origin keys checkpoint
  pub differs : ¬ HasEdgeCount checkpoint.size rows

-- the note and the number of rows are valid, but some row does not have the length of its tile
pub record HasOtherLengths (bytes origin : List ℕ) (keys : List Key) (rows : List (List ℕ))
    : Type 0 where
  pub checkpoint : Checkpoint
  pub is_open : IsOpenCheckpoint bytes origin keys checkpoint
  pub count_is : HasEdgeCount checkpoint.size rows
  pub differ : ¬ HasEdgeLengths checkpoint.size rows

module _ (digest : List ℕ → List ℕ) where
  -- the note is valid, and each row has the length of its tile, but the rows do not lead to the
  -- root
  pub record HasOtherRoot (bytes origin : List ℕ) (keys : List Key) (rows : List (List ℕ))
      : Type 0 where
    pub checkpoint : Checkpoint
    pub is_open : IsOpenCheckpoint bytes origin keys checkpoint
    pub lengths_are : HasEdgeLengths checkpoint.size rows
    pub differs : edge_root digest (map row_of rows) ≢ checkpoint.root

  -- when taking a tree head may return each answer; a tree head is a note with the edge rows of its
  -- size, lowest level first
  abbrev pub JudgesHead :
      List ℕ → List Key → List ℕ → List (List ℕ) → Result (Unit {0}) TakeFault → Type 0
  JudgesHead origin keys bytes rows (Ok done) = IsGoodHead digest origin keys bytes rows
  JudgesHead origin keys bytes rows (Err (taking.Note fault)) = IsNoNote bytes fault
  JudgesHead origin keys bytes rows (Err (taking.Checkpoint fault)) = IsNoCheckpoint bytes fault
  JudgesHead origin keys bytes rows (Err taking.OtherOrigin) = HasOtherOrigin bytes origin
  JudgesHead origin keys bytes rows (Err taking.NoTrustedSignature) = HasNoSigner bytes origin keys
  JudgesHead origin keys bytes rows (Err taking.EdgeCount) = HasOtherCount bytes origin keys rows
  JudgesHead origin keys bytes rows (Err taking.EdgeLength) = HasOtherLengths bytes origin keys rows
  JudgesHead origin keys bytes rows (Err taking.EdgeMismatch) = HasOtherRoot bytes origin keys rows
  JudgesHead origin keys bytes rows (Err taking.RowLength) = ⊥
  JudgesHead origin keys bytes rows (Err taking.BundleShort) = ⊥
  JudgesHead origin keys bytes rows (Err taking.BundleLong) = ⊥
  JudgesHead origin keys bytes rows (Err taking.Collision) =
      IsGoodHead digest origin keys bytes rows
  JudgesHead origin keys bytes rows (Err taking.OutOfMemory) = ⊤

-- when taking a tile of that width may return each answer
abbrev pub JudgesTile : ℕ → List ℕ → Result (Unit {0}) TakeFault → Type 0
JudgesTile width bytes (Ok done) = IsGoodTile width bytes
JudgesTile width bytes (Err (taking.Note fault)) = ⊥
JudgesTile width bytes (Err (taking.Checkpoint fault)) = ⊥
JudgesTile width bytes (Err taking.OtherOrigin) = ⊥
JudgesTile width bytes (Err taking.NoTrustedSignature) = ⊥
JudgesTile width bytes (Err taking.EdgeCount) = ⊥
JudgesTile width bytes (Err taking.EdgeLength) = ⊥
JudgesTile width bytes (Err taking.EdgeMismatch) = ⊥
JudgesTile width bytes (Err taking.RowLength) = length bytes ≢ 32 * width
JudgesTile width bytes (Err taking.BundleShort) = ⊥
JudgesTile width bytes (Err taking.BundleLong) = ⊥
JudgesTile width bytes (Err taking.Collision) = IsGoodTile width bytes
JudgesTile width bytes (Err taking.OutOfMemory) = ⊤

-- when taking a bundle of that width may return each answer
abbrev pub JudgesBundle : ℕ → List ℕ → Result (Unit {0}) TakeFault → Type 0
JudgesBundle width bytes (Ok done) = IsGoodBundle width bytes
JudgesBundle width bytes (Err (taking.Note fault)) = ⊥
JudgesBundle width bytes (Err (taking.Checkpoint fault)) = ⊥
JudgesBundle width bytes (Err taking.OtherOrigin) = ⊥
JudgesBundle width bytes (Err taking.NoTrustedSignature) = ⊥
JudgesBundle width bytes (Err taking.EdgeCount) = ⊥
JudgesBundle width bytes (Err taking.EdgeLength) = ⊥
JudgesBundle width bytes (Err taking.EdgeMismatch) = ⊥
JudgesBundle width bytes (Err taking.RowLength) = ⊥
JudgesBundle width bytes (Err taking.BundleShort) =
    ReadsBundle width bytes (Err bundling.BundleShort)
JudgesBundle width bytes (Err taking.BundleLong) = ReadsBundle width bytes (Err bundling.BundleLong)
JudgesBundle width bytes (Err taking.Collision) = IsGoodBundle width bytes
JudgesBundle width bytes (Err taking.OutOfMemory) = ⊤
