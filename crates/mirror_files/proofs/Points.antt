-- Bytes that are no checkpoint's note of an origin.
use Rattle.std.proofs.Common.{◌≡◌, ◌≢◌, ℕ, List, Result, Ok, Err, refl, sym, subst}
use Rattle.signed_note.specs.Notes.{SignatureParts, NoteParts, IsNote}
use Rattle.signed_note.specs.Reading.{ReadsNote}
use Rattle.signed_note.specs.declared.fault.NoteFault.{NoteFault}
use Rattle.signed_note.specs.declared.fault.NoteFault.TheVariants as noting
use Rattle.signed_note.proofs.OneReading as note
use Rattle.tlog_checkpoint.specs.declared.Checkpoint.{Checkpoint}
use Rattle.tlog_checkpoint.specs.declared.fault.CheckpointFault.{CheckpointFault}
use Rattle.tlog_checkpoint.specs.declared.fault.CheckpointFault.TheVariants as reading
use Rattle.tlog_checkpoint.specs.Grammar.{IsCheckpoint}
use Rattle.tlog_checkpoint.specs.Reading.{ReadsCheckpoint}
use Rattle.tlog_checkpoint.proofs.OneAnswer as checkpoint
use Rattle.mirror_model.specs.Heads.{IsHead}
use Rattle.mirror_model.proofs.HeadNotes.{head_once}
use Rattle.mirror_files.specs.Beginnings.{ReadsPoint, of_note, of_text}

no_note : (bytes text : List ℕ) (lines : List SignatureParts) (fault : NoteFault) → fault ≢ noting.OutOfMemory →
    ReadsNote bytes (Err fault) → IsNote bytes text lines → ⊥
no_note bytes text lines fault memory refused is =
    let one : Result NoteParts NoteFault = Ok (record { bytes = bytes; text = text; lines = lines }) in
    let other : Result NoteParts NoteFault = Err fault in
    let same : one ≡ other = note.one_answer bytes one other (λ e. cc e) (λ e. memory (cc e)) (refl, is) refused in
    cc same

no_checkpoint : (text : List ℕ) (c : Checkpoint) (fault : CheckpointFault) → fault ≢ reading.OutOfMemory →
    ReadsCheckpoint text (Err fault) → ReadsCheckpoint text (Ok c) → ⊥
no_checkpoint text c fault memory refused is =
    let one : Result Checkpoint CheckpointFault = Ok c in
    let other : Result Checkpoint CheckpointFault = Err fault in
    let same : one ≡ other = checkpoint.one_answer text one other (λ e. cc e) (λ e. memory (cc e)) is refused in
    cc same

module _ (bytes origin : List ℕ) where
  no_head : (fault : NoteFault) → fault ≢ noting.OutOfMemory → ReadsNote bytes (Err fault) →
      (m : ℕ) (root : List ℕ) → IsHead bytes origin m root → ⊥
  no_head fault memory h m root head = no_note bytes head.text head.lines fault memory h head.is_note

  pub not_a_note : (fault : NoteFault) → ReadsNote bytes (Err fault) → ReadsPoint bytes origin (Err (of_note fault))
  not_a_note noting.NoteTooLong h = no_head noting.NoteTooLong (λ e. cc e) h
  not_a_note noting.NotText h = no_head noting.NotText (λ e. cc e) h
  not_a_note noting.NoSignatures h = no_head noting.NoSignatures (λ e. cc e) h
  not_a_note noting.TooManySignatures h = no_head noting.TooManySignatures (λ e. cc e) h
  not_a_note noting.BadSignatureLine h = no_head noting.BadSignatureLine (λ e. cc e) h
  not_a_note noting.OutOfMemory h = tt

  module _ (text : List ℕ) (lines : List SignatureParts) (is : IsNote bytes text lines) where
    no_text : (fault : CheckpointFault) → fault ≢ reading.OutOfMemory → ReadsCheckpoint text (Err fault) →
        (m : ℕ) (root : List ℕ) → IsHead bytes origin m root → ⊥
    no_text fault memory h m root head =
        let texts = (note.notes_are_read bytes text head.text lines head.lines is head.is_note).0 in
        no_checkpoint text (record { origin = origin; size = m; root = root; extensions = head.extensions }) fault memory
        h (subst (λ t. IsCheckpoint t origin m root head.extensions) (sym texts) head.is_checkpoint)

    pub not_a_checkpoint : (fault : CheckpointFault) → ReadsCheckpoint text (Err fault) →
        ReadsPoint bytes origin (Err (of_text fault))
    not_a_checkpoint reading.TooFewLines h = no_text reading.TooFewLines (λ e. cc e) h
    not_a_checkpoint reading.EmptyLine h = no_text reading.EmptyLine (λ e. cc e) h
    not_a_checkpoint reading.BadSize h = no_text reading.BadSize (λ e. cc e) h
    not_a_checkpoint reading.SizeTooLarge h = no_text reading.SizeTooLarge (λ e. cc e) h
    not_a_checkpoint reading.BadRoot h = no_text reading.BadRoot (λ e. cc e) h
    not_a_checkpoint reading.OutOfMemory h = tt

    pub head_is : (size : ℕ) (root : List ℕ) (extensions : List (List ℕ)) → (other : List ℕ) →
        IsCheckpoint text other size root extensions → other ≢ origin → (m : ℕ) (r : List ℕ) →
        IsHead bytes origin m r → ⊥
    head_is size root extensions other is_checkpoint differs m r head =
        differs (head_once bytes other origin size m root r
        (record { text = text; lines = lines; extensions = extensions; is_note = is; is_checkpoint = is_checkpoint })
        head).origin_is
