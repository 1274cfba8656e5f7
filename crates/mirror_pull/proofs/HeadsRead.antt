-- Tree heads that were read.
use Rattle.std.proofs.Common.{◌≡◌, ℕ, List, take, Option, Result, Ok, Err, refl, sym, subst}
use Rattle.tlog_hash.specs.Tree.{mth}
use Rattle.tlog_tiles.specs.declared.paths.Path.{Path}
use Rattle.mirror_model.specs.View.{View}
use Rattle.mirror_sources.specs.Honest.{IsHonest}
use Rattle.signed_note.specs.Keys.{Key}
use Rattle.tlog_checkpoint.specs.declared.Checkpoint.{Checkpoint}
use Rattle.mirror_model.specs.Heads.{IsOpenHead}
use Rattle.mirror_model.specs.Refusals.{IsOpenCheckpoint, ReadsHead}
use Rattle.mirror_model.specs.declared.fault.TakeFault.{TakeFault}
use Rattle.mirror_model.specs.declared.fault.TakeFault.TheVariants as fault
use Rattle.mirror_model.proofs.HeadNotes.{head_once, head_of}
use Rattle.mirror_model.proofs.RefusedHeads.{open_heads_are_read, head_notes_are_read_once}

-- the checkpoint that was read from a note is an open tree head with its size and root
pub opened_head : (note origin : List ℕ) (keys : List Key) (checkpoint : Checkpoint) →
    IsOpenCheckpoint note origin keys checkpoint → IsOpenHead note origin keys checkpoint.size checkpoint.root
opened_head note origin keys checkpoint is =
    (open_heads_are_read note origin keys checkpoint.size checkpoint.root).1
    (record { checkpoint = checkpoint; is_open = is; size_is = refl; root_is = refl })

-- the answer of reading the note of a tree head
abbrev refusal : TakeFault → Result Checkpoint TakeFault
refusal f = Err f

module _ (note origin : List ℕ) (keys : List Key) (size : ℕ) (root : List ℕ)
    (h : IsOpenHead note origin keys size root) where
  refuted : (f : TakeFault) → (refusal f ≡ refusal fault.OutOfMemory → ⊥) → ReadsHead note origin keys (Err f) → ⊥
  refuted f other reads =
      let read = (open_heads_are_read note origin keys size root).0 h in
      let e : Ok read.checkpoint ≡ Err f =
      head_notes_are_read_once note origin keys (Ok read.checkpoint) (Err f) read.is_open reads (λ x. cc x) other in
      cc e

  pub read_fault : (f : TakeFault) → ReadsHead note origin keys (Err f) → f ≡ fault.OutOfMemory
  read_fault (fault.Note f) r = absurd (refuted (fault.Note f) (λ e. cc e) r)
  read_fault (fault.Checkpoint f) r = absurd (refuted (fault.Checkpoint f) (λ e. cc e) r)
  read_fault fault.OtherOrigin r = absurd (refuted fault.OtherOrigin (λ e. cc e) r)
  read_fault fault.NoTrustedSignature r = absurd (refuted fault.NoTrustedSignature (λ e. cc e) r)
  read_fault fault.EdgeCount r = absurd r
  read_fault fault.EdgeLength r = absurd r
  read_fault fault.EdgeMismatch r = absurd r
  read_fault fault.RowLength r = absurd r
  read_fault fault.BundleShort r = absurd r
  read_fault fault.BundleLong r = absurd r
  read_fault fault.Collision r = absurd r
  read_fault fault.OutOfMemory r = refl

  pub read_size : (checkpoint : Checkpoint) → IsOpenCheckpoint note origin keys checkpoint →
      (checkpoint.size ≡ size) × (checkpoint.root ≡ root)
  read_size checkpoint is =
      let a = opened_head note origin keys checkpoint is in
      let s = head_once note origin origin checkpoint.size size checkpoint.root root
      (head_of note origin keys checkpoint.size checkpoint.root a) (head_of note origin keys size root h) in
      (s.size_is, s.root_is)

-- the note of an honest source is such a tree head
module _ (digest : List ℕ → List ℕ) (entries : List (List ℕ)) (keys : List Key) (v : View) (note taken : List ℕ)
    (size : ℕ) (may : Path → Option (List ℕ) → Type 0) (is : IsHonest digest entries v.origin keys note size may)
    (same : taken ≡ note) where
  open_head : IsOpenHead taken v.origin keys size (mth digest (take size entries))
  open_head =
      subst (λ (n : List ℕ). IsOpenHead n v.origin keys size (mth digest (take size entries))) (sym same) is.is_head

  pub honest_fault : (f : TakeFault) → ReadsHead taken v.origin keys (Err f) → f ≡ fault.OutOfMemory
  honest_fault = read_fault taken v.origin keys size (mth digest (take size entries)) open_head

  pub honest_size : (checkpoint : Checkpoint) → IsOpenCheckpoint taken v.origin keys checkpoint →
      (checkpoint.size ≡ size) × (checkpoint.root ≡ mth digest (take size entries))
  honest_size = read_size taken v.origin keys size (mth digest (take size entries)) open_head
