-- The notes of a state text, opened.
use Rattle.std.specs.Prelude.{◌≡◌, ℕ, List, take, slice_get, map, All, Some, Result, Ok, Err, ⊤}
use Rattle.std.specs.List.{Contains}
use Rattle.signed_note.specs.Keys.{Key}
use Rattle.tlog_checkpoint.specs.declared.Checkpoint.{Checkpoint}
use Rattle.mirror_model.specs.Heads.{IsHead}
use Rattle.mirror_model.specs.Refusals.{IsOpenCheckpoint}
use Rattle.mirror_model.specs.declared.notes.HeadNote.{HeadNote}
use Rattle.mirror_model.specs.declared.fault.TakeFault.{TakeFault}
use Rattle.mirror_model.specs.declared.fault.TakeFault.TheVariants as taking
use Rattle.mirror_files.specs.declared.load_fault.LoadFault.{LoadFault}
use Rattle.mirror_files.specs.declared.load_fault.LoadFault.TheVariants.{StateMagic, StateShort}
use Rattle.mirror_files.specs.declared.load_fault.LoadFault.TheVariants.{StateLong, StateDigest}
use Rattle.mirror_files.specs.declared.load_fault.LoadFault.TheVariants.{OtherOrigin, StateOrder}
use Rattle.mirror_files.specs.declared.load_fault.LoadFault.TheVariants.{StateString, StateHead}
use Rattle.mirror_files.specs.declared.load_fault.LoadFault.TheVariants.{Collision, StateEdge, ReadFault}
use Rattle.mirror_files.specs.declared.load_fault.LoadFault.TheVariants.{OutOfMemory}

-- the note opens under the keys, as some checkpoint of that origin
abbrev pub OpensAsHead : List ℕ → List Key → List ℕ → Type 0
OpensAsHead origin keys note =
    (checkpoint : Checkpoint) × IsOpenCheckpoint note origin keys checkpoint

-- the fault of a loader if a note cannot be read as a tree head
abbrev pub note_fault_of : TakeFault → LoadFault
note_fault_of (taking.Note fault) = StateHead
note_fault_of (taking.Checkpoint fault) = StateHead
note_fault_of taking.OtherOrigin = StateHead
note_fault_of taking.NoTrustedSignature = StateHead
note_fault_of taking.EdgeCount = StateHead
note_fault_of taking.EdgeLength = StateHead
note_fault_of taking.EdgeMismatch = StateHead
note_fault_of taking.RowLength = StateHead
note_fault_of taking.BundleShort = StateHead
note_fault_of taking.BundleLong = StateHead
note_fault_of taking.Collision = StateHead
note_fault_of taking.OutOfMemory = OutOfMemory

-- each refusal of opening notes is right: StateHead if they do not open
abbrev pub FailsToOpen : (Closed : Type 0) → LoadFault → Type 0
FailsToOpen Closed StateMagic = ⊥
FailsToOpen Closed StateShort = ⊥
FailsToOpen Closed StateLong = ⊥
FailsToOpen Closed StateDigest = ⊥
FailsToOpen Closed OtherOrigin = ⊥
FailsToOpen Closed StateOrder = ⊥
FailsToOpen Closed StateString = ⊥
FailsToOpen Closed StateHead = Closed
FailsToOpen Closed Collision = ⊥
FailsToOpen Closed StateEdge = ⊥
FailsToOpen Closed ReadFault = ⊥
FailsToOpen Closed OutOfMemory = ⊤

-- the bytes of a tree head's note
abbrev pub head_bytes : HeadNote → List ℕ
head_bytes head = head.note.bytes

-- the text of the tree head's note is its checkpoint, of that origin
abbrev pub HasSaid : List ℕ → HeadNote → Type 0
HasSaid origin head =
    IsHead head.note.bytes origin head.checkpoint.size head.checkpoint.root

-- the tree head has that note, and the note opens under the keys
pub record IsOpened (origin : List ℕ) (keys : List Key) (note : List ℕ) (head : HeadNote)
    : Type 0 where
  pub opens : OpensAsHead origin keys note
  pub bytes_are : head_bytes head ≡ note
  pub said : HasSaid origin head

-- each answer of opening a note is right: its tree head, or the note does not open
abbrev pub OpensNote : List ℕ → List Key → List ℕ → Result HeadNote LoadFault → Type 0
OpensNote origin keys note (Ok head) = IsOpened origin keys note head
OpensNote origin keys note (Err fault) = FailsToOpen (¬ OpensAsHead origin keys note) fault

-- the tree heads of the notes so far, each of which opens under the keys
pub record AreOpened (origin : List ℕ) (keys : List Key) (notes : List (List ℕ))
    (heads : List HeadNote) : Type 0 where
  pub opened : All (OpensAsHead origin keys) notes
  pub bytes_are : map head_bytes heads ≡ notes
  pub said : All (HasSaid origin) heads

-- a note of the list does not open
pub record HasUnopened (origin : List ℕ) (keys : List Key) (notes : List (List ℕ)) : Type 0 where
  pub note : List ℕ
  pub is_listed : Contains notes note
  pub closed : ¬ OpensAsHead origin keys note

-- each answer of opening all notes is right: their tree heads, or one note does not open
abbrev pub OpensNotes :
    List ℕ → List Key → List (List ℕ) → Result (List HeadNote) LoadFault → Type 0
OpensNotes origin keys notes (Ok heads) = AreOpened origin keys notes heads
OpensNotes origin keys notes (Err fault) = FailsToOpen (HasUnopened origin keys notes) fault

-- the item is at that index of the list, and it is the first one without the property P
pub record IsFirstNot (P : List ℕ → Type 0) (items : List (List ℕ)) (index : ℕ) (item : List ℕ)
    : Type 0 where
  pub passed : All P (take index items)
  pub is_there : slice_get items index ≡ Some item
  pub fails : ¬ P item
