-- A mirror that is restored from kept strings and then from kept notes. Only the contract of a private function cites
-- `held_fault_of`.
use Rattle.std.specs.Prelude.{◌≡◌, ℕ, List, Result, Ok, Err}
use Rattle.std.specs.FinSet as set
use Rattle.signed_note.specs.Keys.{Key}
use Rattle.node_store.specs.Strings.{Strings}
use Rattle.mirror_model.specs.Complete.{HasEdge}
use Rattle.mirror_model.specs.Heads.{IsOpenHead}
use Rattle.mirror_model.specs.View.{View}
use Rattle.mirror_model.specs.declared.fault.TakeFault.{TakeFault}
use Rattle.mirror_model.specs.declared.fault.TakeFault.TheVariants as taking
use Rattle.tlog_mirror.specs.Adding.{with_note}
use Rattle.tlog_mirror.specs.declared.fault.RestoreFault.{RestoreFault}
use Rattle.tlog_mirror.specs.declared.fault.RestoreFault.TheVariants.{BadHead, UnheldEdge, OutOfMemory}

-- the view with these strings and no notes
abbrev pub strings_alone : List ℕ → Strings → View
strings_alone origin strings = record { origin = origin; notes = set.empty; strings = strings }

-- the note opens under the keys, and its text is a checkpoint of that origin
pub record IsOpenNote (origin : List ℕ) (keys : List Key) (note : List ℕ) : Type 0 where
  pub size : ℕ
  pub root : List ℕ
  pub is_head : IsOpenHead note origin keys size root

module _ (digest : List ℕ → List ℕ) where
  -- each answer of keeping a note is right: it is kept exactly if it opens and the strings of its right edge are held
  -- already
  abbrev pub KeepsHeld : View → List Key → List ℕ → Result (Unit {0}) RestoreFault → View → Type 0
  KeepsHeld old keys note (Ok done) new =
      IsOpenNote old.origin keys note × HasEdge digest old note × (new ≡ with_note old note)
  KeepsHeld old keys note (Err BadHead) new = (¬ IsOpenNote old.origin keys note) × (new ≡ old)
  KeepsHeld old keys note (Err UnheldEdge) new =
      IsOpenNote old.origin keys note × (¬ HasEdge digest old note) × (new ≡ old)
  KeepsHeld old keys note (Err OutOfMemory) new = new ≡ old

-- the fault of keeping a note, for a fault of reading it as a tree head
abbrev pub held_fault_of : TakeFault → RestoreFault
held_fault_of (taking.Note fault) = BadHead
held_fault_of (taking.Checkpoint fault) = BadHead
held_fault_of taking.OtherOrigin = BadHead
held_fault_of taking.NoTrustedSignature = BadHead
held_fault_of taking.EdgeCount = BadHead
held_fault_of taking.EdgeLength = BadHead
held_fault_of taking.EdgeMismatch = BadHead
held_fault_of taking.RowLength = BadHead
held_fault_of taking.BundleShort = BadHead
held_fault_of taking.BundleLong = BadHead
held_fault_of taking.Collision = BadHead
held_fault_of taking.OutOfMemory = OutOfMemory
