-- A note that opens under the keys has one size and root.
use Rattle.std.proofs.Common.{◌≡◌, ◌≢◌, ℕ, List, Result, Ok, Err, Bool, false, sym, ap, ◌∙◌}
use Rattle.std.specs.Prelude.{◌↔◌, IfOk, IsTrue}
use Rattle.std.proofs.lemmas.Bool.{false≢true}
use Rattle.signed_note.specs.Keys.{Key}
use Rattle.tlog_checkpoint.specs.declared.Checkpoint.{Checkpoint}
use Rattle.mirror_model.specs.Heads.{IsOpenHead}
use Rattle.mirror_model.specs.Refusals.{IsOpenCheckpoint, ReadsHead}
use Rattle.mirror_model.specs.declared.fault.TakeFault.{TakeFault}
use Rattle.mirror_model.specs.declared.fault.TakeFault.TheVariants as taking
use Rattle.mirror_model.proofs.RefusedHeads.{head_notes_are_read_once, open_heads_are_read}

module _ (bytes origin : List ℕ) (keys : List Key) (size : ℕ) (root : List ℕ) where
  -- the note opens with this checkpoint
  pub opened_at : (c : Checkpoint) → IsOpenCheckpoint bytes origin keys c → (t : Bool) →
      IsTrue t ↔ ((c.size ≡ size) × (c.root ≡ root)) → IsTrue t ↔ IsOpenHead bytes origin keys size root
  opened_at c is_open t at = (
    λ is. (open_heads_are_read bytes origin keys size root).1
        (record { checkpoint = c; is_open = is_open; size_is = (at.0 is).0; root_is = (at.0 is).1 }),
    λ head.
        let o = (open_heads_are_read bytes origin keys size root).0 head in
        let one : Result Checkpoint TakeFault = Ok o.checkpoint in
        let other : Result Checkpoint TakeFault = Ok c in
        let same : one ≡ other =
        head_notes_are_read_once bytes origin keys one other o.is_open is_open (λ e. cc e) (λ e. cc e) in
        let is : o.checkpoint ≡ c = cc same in
        at.1 (
          sym (ap (λ (d : Checkpoint). d.size) is) ∙ o.size_is,
          sym (ap (λ (d : Checkpoint). d.root) is) ∙ o.root_is,
        ),
  )

  -- the note is refused
  pub refused_at : (fault : TakeFault) → fault ≢ taking.OutOfMemory → ReadsHead bytes origin keys (Err fault) → (t : Bool) →
      t ≡ false → IsTrue t ↔ IsOpenHead bytes origin keys size root
  refused_at fault memory refused t is = (
    λ true_is. absurd (false≢true (sym is ∙ true_is)),
    λ head.
        let o = (open_heads_are_read bytes origin keys size root).0 head in
        let one : Result Checkpoint TakeFault = Ok o.checkpoint in
        let other : Result Checkpoint TakeFault = Err fault in
        let same : one ≡ other =
        head_notes_are_read_once bytes origin keys one other o.is_open refused (λ e. cc e) (λ e. memory (cc e)) in
        absurd (cc same),
  )

  pub answered_at : {E : Type 0} (fault : TakeFault) → ReadsHead bytes origin keys (Err fault) → (r : Result Bool E) →
      IfOk r (λ opens. (opens ≡ false) × (fault ≢ taking.OutOfMemory)) →
      IfOk r (λ opens. IsTrue opens ↔ IsOpenHead bytes origin keys size root)
  answered_at fault refused (Ok t) is = refused_at fault is.1 refused t is.0
  answered_at fault refused (Err e) is = tt
