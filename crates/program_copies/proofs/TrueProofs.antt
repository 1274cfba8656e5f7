-- A proof from an opened log is that of the definitions.
use Rattle.std.proofs.Common.{◌≡◌, ℕ, ◌≤◌, List, Option, Result, Ok, Err, sym, subst}
use Rattle.std.specs.Prelude.{IfErr}
use Rattle.std.specs.Result.{IsErr, IsErrAnd}
use Rattle.tlog_proof.specs.declared.proof.Ask.{Ask}
use Rattle.tlog_shape.specs.declared.TheConstants.{MAX_SIZE}
use Rattle.mirror_sources.specs.Recorded.{KeepsRecord}
use Rattle.mirror_folders.specs.Shelf.{Put}
use Rattle.log_reader.specs.Holding.{IsReaderOf}
use Rattle.log_reader.specs.Ways.{Reader}
use Rattle.copy_reader.specs.Proofs.{IsTrueText}
use Rattle.copy_reader.specs.WholeCopies.{GivesOr, IsShelfFailure, ReadsCopyLog, ReadsCopyOf}
use Rattle.copy_reader.specs.declared.fault.CopyFault.{CopyFault}
use Rattle.copy_reader.proofs.WholeCopies.{files_later}
use Rattle.program_copies.specs.GivenProofs.{HasLogOf}

module _ {T : Type 0} (view : T → List ℕ) (digest : List ℕ → List ℕ) (size : ℕ) (root : List ℕ)
    (before after : Option (List Put)) (kept : KeepsRecord before after) (ask : Ask) (reader new : Reader)
    (size_is : reader.edge.size ≡ size)
    (opens : ReadsCopyLog digest size root before (Ok reader) (λ entries r. IsReaderOf digest entries r)) where
  pub proof_read : (result : Result T CopyFault) → (reader.edge.size ≤ MAX_SIZE →
      ReadsCopyOf IsShelfFailure digest reader new after result (λ entries text. IsTrueText digest ask entries (view text))) →
      (entries : List (List ℕ)) → HasLogOf digest before size root entries →
      GivesOr IsShelfFailure result (λ text. IsTrueText digest ask entries (view text))
  proof_read result reads entries log =
      (reads (subst (λ n. n ≤ MAX_SIZE) (sym size_is) log.small) entries (opens entries log.size_is log.root_is log.files)
      (files_later digest before after kept entries log.files)).answer

-- a fault that was returned unchanged
pub passed_on : {T : Type 0} (P : CopyFault → Type 0) (fault : CopyFault) (result : Result T CopyFault) →
    IsErr result × IsErrAnd result (λ f. f ≡ fault) → P fault → IfErr result P
passed_on P fault (Ok x) is h = tt
passed_on P fault (Err f) is h = subst P (sym is.1) h
