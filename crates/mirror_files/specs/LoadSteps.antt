-- The answers of the steps of a loader. The contracts of private functions cite these words; the definition of a
-- loader's answers needs none of them.
use Rattle.std.specs.Prelude.{◌≡◌, ℕ, List, All, Result, Ok, Err, ⊤}
use Rattle.std.specs.FinSet as set
use Rattle.node_store.specs.Strings.{NoClash}
use Rattle.mirror_model.specs.Complete.{HasEdge}
use Rattle.mirror_model.specs.Strings.{HasClash}
use Rattle.mirror_model.specs.View.{View}
use Rattle.byte_streams.specs.declared.fault.StreamFault.{StreamFault}
use Rattle.byte_streams.specs.declared.fault.StreamFault.TheVariants as streams
use Rattle.node_store.specs.declared.store.AddFault.{AddFault}
use Rattle.node_store.specs.declared.store.AddFault.TheVariants as adding
use Rattle.tlog_mirror.specs.Adding.{with_notes}
use Rattle.tlog_mirror.specs.Restored.{strings_alone}
use Rattle.mirror_files.specs.Loading.{HasUnheld}
use Rattle.mirror_files.specs.declared.load_fault.LoadFault.{LoadFault}
use Rattle.mirror_files.specs.declared.load_fault.LoadFault.TheVariants.{StateMagic, StateShort}
use Rattle.mirror_files.specs.declared.load_fault.LoadFault.TheVariants.{StateLong, StateDigest}
use Rattle.mirror_files.specs.declared.load_fault.LoadFault.TheVariants.{OtherOrigin, StateOrder}
use Rattle.mirror_files.specs.declared.load_fault.LoadFault.TheVariants.{StateString, StateHead}
use Rattle.mirror_files.specs.declared.load_fault.LoadFault.TheVariants.{Collision, StateEdge, ReadFault}
use Rattle.mirror_files.specs.declared.load_fault.LoadFault.TheVariants.{OutOfMemory}

-- the fault of a loader if its reader does not give all its bytes
abbrev pub stream_fault_of : StreamFault → LoadFault
stream_fault_of streams.ReadFault = ReadFault
stream_fault_of streams.WriteFault = ReadFault
stream_fault_of streams.OutOfMemory = OutOfMemory

-- each answer of making a mirror of strings, without notes, is right about them
abbrev pub MakesMirror : (List ℕ → List ℕ) → List ℕ → List (List ℕ) → Result View AddFault → Type 0
MakesMirror digest origin strings (Ok made) =
    (made ≡ strings_alone origin (set.from_list strings)) × NoClash digest (set.from_list strings)
MakesMirror digest origin strings (Err adding.Collision) = HasClash digest (set.from_list strings)
MakesMirror digest origin strings (Err adding.OutOfMemory) = ⊤

-- ---- notes

-- each answer of keeping all notes is right: all are kept, each with its right edge held, or the right edge of one is
-- not held
abbrev pub KeepsNotes : (List ℕ → List ℕ) → View → List (List ℕ) → Result (Unit {0}) LoadFault →
    View → Type 0
KeepsNotes digest old notes (Ok done) new =
    (new ≡ with_notes old notes) × All (HasEdge digest old) notes
KeepsNotes digest old notes (Err StateMagic) new = ⊥
KeepsNotes digest old notes (Err StateShort) new = ⊥
KeepsNotes digest old notes (Err StateLong) new = ⊥
KeepsNotes digest old notes (Err StateDigest) new = ⊥
KeepsNotes digest old notes (Err OtherOrigin) new = ⊥
KeepsNotes digest old notes (Err StateOrder) new = ⊥
KeepsNotes digest old notes (Err StateString) new = ⊥
KeepsNotes digest old notes (Err StateHead) new = ⊥
KeepsNotes digest old notes (Err Collision) new = ⊥
KeepsNotes digest old notes (Err StateEdge) new = HasUnheld digest old notes
KeepsNotes digest old notes (Err ReadFault) new = ⊥
KeepsNotes digest old notes (Err OutOfMemory) new = ⊤
