-- The count of a shelf's failures, at a read of its files that failed.
use Rattle.std.proofs.Common.{◌≡◌, ℕ, Result, Ok, Err, IsErr, IsErrAnd, sym, subst}
use Rattle.std.proofs.lemmas.Bool.{false≢true}
use Rattle.log_reader.specs.Faults.{CountsFailure}
use Rattle.log_reader.specs.declared.fault.ReadFault.{ReadFault}
use Rattle.log_reader.specs.declared.fault.ReadFault.TheVariants as reading
use Rattle.copy_reader.specs.Faults.{CountsRead, by_read}
use Rattle.copy_reader.specs.declared.fault.CopyFault.{CopyFault}

counted_fault : (T U : Type 0) (old new : ℕ) (fault : ReadFault) → CountsFailure {T = U} old new (Err fault) →
    CountsRead {T = T} old new (Err (by_read fault))
counted_fault T U old new (reading.NoFile path) h = h
counted_fault T U old new (reading.FalseFile path) h = h
counted_fault T U old new reading.Collision h = h
counted_fault T U old new reading.Source h = h
counted_fault T U old new reading.OutOfMemory h = h

pub read_exit : {T U : Type 0} (result : Result T CopyFault) (read : Result U ReadFault) (fault : ReadFault) →
    IsErr result × IsErrAnd result (λ f. f ≡ by_read fault) → read ≡ Err fault → (old new : ℕ) → CountsFailure old new read →
    CountsRead old new result
read_exit (Ok x) read fault is was old new h = absurd (false≢true is.0)
read_exit {T} {U} (Err f) read fault is was old new h =
    subst (λ e. CountsRead {T = T} old new (Err e)) (sym is.1)
    (counted_fault T U old new fault (subst (CountsFailure old new) was h))
