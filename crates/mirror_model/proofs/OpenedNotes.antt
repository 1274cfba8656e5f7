-- A note as a tree head: its text is a checkpoint of the origin, and the keys open it or do not.
use Rattle.std.proofs.Common.{◌≡◌, ℕ, List, Ok, Err, refl}
use Rattle.std.specs.Prelude.{IsOk, ◌↔◌, true, false}
use Rattle.signed_note.specs.Keys.{Key}
use Rattle.signed_note.specs.Notes.{SignatureParts, Opens}
use Rattle.signed_note.specs.declared.fault.OpenFault.{OpenFault}
use Rattle.tlog_checkpoint.specs.declared.Checkpoint.{Checkpoint}
use Rattle.mirror_model.specs.Refusals.{IsCheckpointNote, ReadsHead}
use Rattle.mirror_model.specs.declared.fault.TakeFault.TheVariants as taking

module _ (bytes text origin : List ℕ) (lines : List SignatureParts) (keys : List Key) (checkpoint : Checkpoint)
    (is : IsCheckpointNote bytes checkpoint text lines) (same : checkpoint.origin ≡ origin) where
  pub opened : IsOk {T = Unit {0}} {E = OpenFault} (Ok tt) ↔ Opens text lines keys →
      ReadsHead bytes origin keys (Ok checkpoint)
  opened tells = record { text = text; lines = lines; is = is; origin_is = same; opens = tells.0 refl }

  pub not_opened : (fault : OpenFault) → IsOk {T = Unit {0}} {E = OpenFault} (Err fault) ↔ Opens text lines keys →
      ReadsHead bytes origin keys (Err taking.NoTrustedSignature)
  not_opened fault tells = record {
    checkpoint = checkpoint;
    text = text;
    lines = lines;
    is = is;
    origin_is = same;
    closed = λ opens. absurd (let wrong : false ≡ true = tells.1 opens in cc wrong);
  }
