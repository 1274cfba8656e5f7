-- A checkpoint's note that opens is not refused.
use Rattle.std.proofs.Common.{◌≡◌, ◌≢◌, ℕ, List, [], ◌∷◌, Option, Some, Result, Ok, Err, refl, sym, subst}
use Rattle.signed_note.specs.Keys.{Key}
use Rattle.tlog_checkpoint.specs.declared.Checkpoint.{Checkpoint as Read}
use Rattle.mirror_model.specs.Heads.{IsOpenHead}
use Rattle.mirror_model.specs.Refusals.{IsOpenCheckpoint, ReadsHead}
use Rattle.mirror_model.specs.declared.fault.TakeFault.{TakeFault}
use Rattle.mirror_model.specs.declared.fault.TakeFault.TheVariants as taking
use Rattle.mirror_model.proofs.RefusedHeads.{head_notes_are_read_once}
use Rattle.tlog_tiles.specs.declared.paths.Path.{Path}
use Rattle.tlog_tiles.specs.declared.paths.Path.TheVariants.{Checkpoint}
use Rattle.mirror_sources.specs.Replies.{reply}
use Rattle.copy_reader.specs.Answering.{AreGiven}
use Rattle.copy_reader.specs.AuditFaults.{IsFailure, fault_of_head}
use Rattle.copy_reader.specs.Stops.{NamesHead}

module _ (bytes origin : List ℕ) (keys : List Key) (size : ℕ) (root : List ℕ)
    (head : IsOpenHead bytes origin keys size root) where
  is_open : IsOpenCheckpoint bytes origin keys
      (record { origin = origin; size = size; root = root; extensions = head.extensions })
  is_open = record {
    text = head.text;
    lines = head.lines;
    is = record { is_note = head.is_note; is_checkpoint = head.is_checkpoint };
    origin_is = refl;
    opens = head.opens;
  }

  never : (fault : TakeFault) → fault ≢ taking.OutOfMemory → ReadsHead bytes origin keys (Err fault) → ⊥
  never fault memory refused =
      let one : Result Read TakeFault =
      Ok (record { origin = origin; size = size; root = root; extensions = head.extensions }) in
      let other : Result Read TakeFault = Err fault in
      let same : one ≡ other =
      head_notes_are_read_once bytes origin keys one other is_open refused (λ e. cc e) (λ e. memory (cc e)) in
      cc same

  pub not_refused : (fault : TakeFault) → ReadsHead bytes origin keys (Err fault) → IsFailure (fault_of_head fault)
  not_refused (taking.Note f) r = never (taking.Note f) (λ e. cc e) r
  not_refused (taking.Checkpoint f) r = never (taking.Checkpoint f) (λ e. cc e) r
  not_refused taking.OtherOrigin r = never taking.OtherOrigin (λ e. cc e) r
  not_refused taking.NoTrustedSignature r = never taking.NoTrustedSignature (λ e. cc e) r
  not_refused taking.EdgeCount r = absurd r
  not_refused taking.EdgeLength r = absurd r
  not_refused taking.EdgeMismatch r = absurd r
  not_refused taking.RowLength r = absurd r
  not_refused taking.BundleShort r = absurd r
  not_refused taking.BundleLong r = absurd r
  not_refused taking.Collision r = absurd r
  not_refused taking.OutOfMemory r = tt

  pub same_head : (c : Read) → ReadsHead bytes origin keys (Ok c) → (size ≡ c.size) × (root ≡ c.root)
  same_head c is =
      let one : Result Read TakeFault =
      Ok (record { origin = origin; size = size; root = root; extensions = head.extensions }) in
      let other : Result Read TakeFault = Ok c in
      let same : one ≡ other =
      head_notes_are_read_once bytes origin keys one other is_open is (λ e. cc e) (λ e. cc e) in
      (cc same, cc same)

-- the same for equal bytes
pub given_not_refused : (bytes note origin : List ℕ) (keys : List Key) (size : ℕ) (root : List ℕ) → bytes ≡ note →
    IsOpenHead note origin keys size root → (fault : TakeFault) → ReadsHead bytes origin keys (Err fault) →
    IsFailure (fault_of_head fault)
given_not_refused bytes note origin keys size root is head =
    not_refused bytes origin keys size root (subst (λ b. IsOpenHead b origin keys size root) (sym is) head)

pub given_same_head : (bytes note origin : List ℕ) (keys : List Key) (size : ℕ) (root : List ℕ) → bytes ≡ note →
    IsOpenHead note origin keys size root → (c : Read) → ReadsHead bytes origin keys (Ok c) →
    (size ≡ c.size) × (root ≡ c.root)
given_same_head bytes note origin keys size root is head =
    same_head bytes origin keys size root (subst (λ b. IsOpenHead b origin keys size root) (sym is) head)

-- the source gave bytes, and they are refused
module _ (bytes origin : List ℕ) (keys : List Key) (a b : Path → Option (List ℕ) → Type 0) (x y : Option (List Path))
    (given : AreGiven a b x y (reply Checkpoint (Some bytes) ∷ [])) where
  pub refused_head : (fault : TakeFault) → ReadsHead bytes origin keys (Err fault) →
      NamesHead origin keys a b x y (fault_of_head fault)
  refused_head (taking.Note f) r = record { bytes = bytes; given = given; refused = r }
  refused_head (taking.Checkpoint f) r = record { bytes = bytes; given = given; refused = r }
  refused_head taking.OtherOrigin r = record { bytes = bytes; given = given; refused = r }
  refused_head taking.NoTrustedSignature r = record { bytes = bytes; given = given; refused = r }
  refused_head taking.EdgeCount r = absurd r
  refused_head taking.EdgeLength r = absurd r
  refused_head taking.EdgeMismatch r = absurd r
  refused_head taking.RowLength r = absurd r
  refused_head taking.BundleShort r = absurd r
  refused_head taking.BundleLong r = absurd r
  refused_head taking.Collision r = absurd r
  refused_head taking.OutOfMemory r = tt
