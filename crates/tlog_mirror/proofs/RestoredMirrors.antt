-- A mirror made of strings has the invariant, and the answers for a note that is kept over them.
use Rattle.std.proofs.Common.{◌≡◌, ◌≢◌, ◌≤◌, ℕ, List, [], ◌∷◌, length, Result, Ok, Err, refl, sym}
use Rattle.std.proofs.Common.{subst}
use Rattle.std.specs.FinSet as set
use Rattle.std.specs.List.Sorted.{IsStrictlySortedBy}
use Rattle.std.proofs.lemmas.List.Elements.{All-nil}
use Rattle.signed_note.specs.Keys.{Key}
use Rattle.node_store.specs.Strings.{Strings, Has, AllTagged, NoClash}
use Rattle.tlog_checkpoint.specs.declared.Checkpoint.{Checkpoint}
use Rattle.mirror_model.specs.Forks.{point_cmp}
use Rattle.mirror_model.specs.Heads.{IsHead}
use Rattle.mirror_model.specs.Marks.{Points}
use Rattle.mirror_model.specs.Origin.{IsOrigin}
use Rattle.mirror_model.specs.Refusals.{IsOpenCheckpoint, ReadsHead}
use Rattle.mirror_model.specs.View.{View}
use Rattle.mirror_model.specs.declared.fault.TakeFault.{TakeFault}
use Rattle.mirror_model.specs.declared.fault.TakeFault.TheVariants as taking
use Rattle.mirror_model.proofs.RefusedHeads.{head_notes_are_read_once, open_heads_are_read}
use Rattle.mirror_model.proofs.StringSets.{has_empty}
use Rattle.mirror_trees.proofs.EmptySets.{empty_settled}
use Rattle.tlog_mirror.specs.Kept.{note_bytes, IsKeptWell}
use Rattle.tlog_mirror.specs.Restored.{IsOpenNote, KeepsHeld, held_fault_of}
use Rattle.tlog_mirror.specs.declared.fault.RestoreFault.{RestoreFault}
use Rattle.mirror_trees.specs.declared.held_note.HeldNote.{HeldNote}

-- ---- a mirror of strings

module _ (digest : List ℕ → List ℕ) (origin : List ℕ) (strings : Strings) where
  strings_well : IsOrigin origin → NoClash digest strings → AllTagged strings →
      ((entry : List ℕ) → Has strings (0 ∷ entry) → length entry ≤ 65535) →
      IsKeptWell digest origin [] strings set.empty
  unfolding IsStrictlySortedBy
  strings_well is clean tagged short = record {
    sound = record {
      origin = is;
      lawful = record
          { no_clash = clean; are_strings = tagged; leaves_short = short; edges = λ note h. absurd (has_empty note h) };
      marks = λ point h. absurd (let none = set.contains-empty point_cmp point in cc (h, none));
    };
    settled = empty_settled digest strings set.empty (λ i. set.empty);
    rising = tt;
    said = All-nil (λ (k : HeldNote). IsHead (note_bytes k) origin k.size k.root);
  }

  pub restored_well :
      IsOrigin origin → NoClash digest strings → AllTagged strings →
      ((entry : List ℕ) → Has strings (0 ∷ entry) → length entry ≤ 65535) → (kept : List HeldNote)
      (remembered : Points) → kept ≡ [] → remembered ≡ set.empty → IsKeptWell digest origin kept strings remembered
  restored_well is clean tagged short kept remembered no_notes no_marks =
      subst (λ k. IsKeptWell digest origin k strings remembered) (sym no_notes)
      (subst (λ (m : Points). IsKeptWell digest origin [] strings m) (sym no_marks)
      (strings_well is clean tagged short))

-- ---- a note that is kept

module _ (note origin : List ℕ) (keys : List Key) where
  pub open_note : (checkpoint : Checkpoint) → IsOpenCheckpoint note origin keys checkpoint → IsOpenNote origin keys note
  open_note checkpoint h = record {
    size = checkpoint.size;
    root = checkpoint.root;
    is_head =
        (open_heads_are_read note origin keys checkpoint.size checkpoint.root).1
        (record { checkpoint = checkpoint; is_open = h; size_is = refl; root_is = refl });
  }

  -- a refused note does not open
  pub not_open : (fault : TakeFault) → fault ≢ taking.OutOfMemory → ReadsHead note origin keys (Err fault) →
      IsOpenNote origin keys note → ⊥
  not_open fault memory h opened =
      let as_read = (open_heads_are_read note origin keys opened.size opened.root).0 opened.is_head in
      let same : ◌≡◌ {A = Result Checkpoint TakeFault} (Err fault) (Ok as_read.checkpoint) =
      head_notes_are_read_once note origin keys (Err fault) (Ok as_read.checkpoint) h as_read.is_open
      (λ e. memory (cc e)) (λ e. cc e) in
      cc same

-- a refused note is not kept
module _ (digest : List ℕ → List ℕ) (old : View) (keys : List Key) (note : List ℕ) where
  refused : (fault : TakeFault) → ReadsHead note old.origin keys (Err fault) →
      KeepsHeld digest old keys note (Err (held_fault_of fault)) old
  refused (taking.Note fault) h = (not_open note old.origin keys (taking.Note fault) (λ e. cc e) h, refl)
  refused (taking.Checkpoint fault) h = (not_open note old.origin keys (taking.Checkpoint fault) (λ e. cc e) h, refl)
  refused taking.OtherOrigin h = (not_open note old.origin keys taking.OtherOrigin (λ e. cc e) h, refl)
  refused taking.NoTrustedSignature h = (not_open note old.origin keys taking.NoTrustedSignature (λ e. cc e) h, refl)
  refused taking.EdgeCount h = absurd h
  refused taking.EdgeLength h = absurd h
  refused taking.EdgeMismatch h = absurd h
  refused taking.RowLength h = absurd h
  refused taking.BundleShort h = absurd h
  refused taking.BundleLong h = absurd h
  refused taking.Collision h = absurd h
  refused taking.OutOfMemory h = refl

  pub held_refused : (fault : TakeFault) → ReadsHead note old.origin keys (Err fault) → (held : RestoreFault) →
      held ≡ held_fault_of fault → KeepsHeld digest old keys note (Err held) old
  held_refused fault h held is =
      subst (λ f. KeepsHeld digest old keys note (Err f) old) (sym is) (refused fault h)
