-- The bytes that were written, even if the writer did not take all.
use Rattle.std.proofs.Common.{ℕ, List, length, Option, Result, Ok, Err, sym, subst, arith}
use Rattle.std.specs.Prelude.{OnOk, OnErr}
use Rattle.std.specs.Io.KnownBytes.{Appends}
use Rattle.std.proofs.lemmas.List.{take_all}
use Rattle.byte_streams.specs.Streams.{AppendsPrefix}

pub front_written : {X E : Type 0} → (r : Result X E) (old new : Option (List ℕ)) (bytes : List ℕ)
    → OnOk r (Appends old new bytes) → OnErr r (AppendsPrefix old new bytes) → AppendsPrefix old new bytes
front_written (Ok x) old new bytes ok err =
    (length bytes, subst (Appends old new) (sym (take_all (length bytes) bytes (omega arith))) ok)
front_written (Err e) old new bytes ok err = err
