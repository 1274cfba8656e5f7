-- What an audit says where `?` ends it.
use Rattle.std.proofs.Common.{◌≡◌, ℕ, Result, Ok, Err, IfErr, IsErr, IsErrAnd, sym, subst, ◌∙◌}
use Rattle.std.proofs.lemmas.Bool.{false≢true}
use Rattle.mirror_sources.specs.Recorded.{Rose}
use Rattle.copy_reader.specs.AuditFaults.{BlamesPlace, GivesTrue, IsFailure}
use Rattle.copy_reader.specs.declared.audit_fault.AuditFault.{AuditFault}
use Rattle.copy_reader.specs.declared.audit_fault.AuditFault.TheVariants.{NoCheckpoint, Head, NoEdge, NoFile, FalseFile, Source, OutOfMemory}

blames_on : (T U : Type 0) (old mid new : ℕ) (fault : AuditFault) → mid ≡ old → BlamesPlace {T = U} mid new (Err fault) →
    BlamesPlace {T = T} old new (Err fault)
blames_on T U old mid new NoCheckpoint same h = h ∙ same
blames_on T U old mid new (Head f) same h = h ∙ same
blames_on T U old mid new NoEdge same h = h ∙ same
blames_on T U old mid new (NoFile path) same h = h ∙ same
blames_on T U old mid new (FalseFile path) same h = h ∙ same
blames_on T U old mid new Source same h = subst (λ n. Rose n new) same h
blames_on T U old mid new OutOfMemory same h = h ∙ same

-- the count of failures over good calls, and over a call that failed
pub blames_exit : {T U : Type 0} (result : Result T AuditFault) (call : Result U AuditFault) (fault : AuditFault) →
    IsErr result × IsErrAnd result (λ f. f ≡ fault) → call ≡ Err fault → (old mid new : ℕ) → mid ≡ old →
    BlamesPlace mid new call → BlamesPlace old new result
blames_exit (Ok x) call fault is was old mid new same h = absurd (false≢true is.0)
blames_exit {T} {U} (Err f) call fault is was old mid new same h =
    subst (λ e. BlamesPlace {T = T} old new (Err e)) (sym is.1)
    (blames_on T U old mid new fault same (subst (BlamesPlace mid new) was h))

pub err_exit : {T : Type 0} (P : AuditFault → Type 0) (result : Result T AuditFault) (fault : AuditFault) →
    IsErr result × IsErrAnd result (λ f. f ≡ fault) → P fault → IfErr result P
err_exit P (Ok x) fault is h = tt
err_exit P (Err f) fault is h = subst P (sym is.1) h

pub true_exit : {T : Type 0} (result : Result T AuditFault) (claim : T → Type 0) (fault : AuditFault) →
    IsErr result × IsErrAnd result (λ f. f ≡ fault) → IsFailure fault → GivesTrue result claim
true_exit (Ok x) claim fault is h = absurd (false≢true is.0)
true_exit (Err f) claim fault is h = subst IsFailure (sym is.1) h
