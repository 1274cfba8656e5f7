-- How a command ends, given the answer of its call: the same answer as a fault of its crate. The answers of the commands cite one lemma
-- each.
use Rattle.std.proofs.Common.{◌≡◌, ◌≢◌, ℕ, List, Option, Result, Ok, Err, IfErr, IfOk, Bool, true, false}
use Rattle.std.proofs.Common.{inl, inr, refl, subst, sym}
use Rattle.std.specs.Io.KnownBytes.{Keeps}
use Rattle.signed_note.specs.Keys.{Key}
use Rattle.program_io.specs.Moment.{Moment}
use Rattle.program_io.specs.Performing.{IsStatus, Performs, verdict_status}
use Rattle.program_io.specs.Ports.{IsPortWritten, PrintsPort}
use Rattle.program_io.specs.declared.port.ListenFault.{ListenFault}
use Rattle.program_io.specs.declared.port.ListenFault.TheVariants.{OutOfMemory, PortFault, WriteFault}

-- a verdict gives an exit status
pub verdict_is : (verdict : Bool) → IsStatus (verdict_status verdict)
verdict_is true = inl refl
verdict_is false = inr refl

module _ {C F : Type 0} (Does : (List ℕ → List ℕ) → List Key → Moment → Moment → C → Result ℕ F → Type 0)
    (IsLate : F → Type 0) (Leaves : Moment → Moment → Type 0) (digest : List ℕ → List ℕ) (keys : List Key)
    (old new : Moment) (c : C) (leaves : Leaves old new) where
  -- the command was done
  pub performs_done : (status : ℕ) → IsStatus status → Does digest keys old new c (Ok status) →
      Performs Does IsLate Leaves digest keys old new c (Ok status)
  performs_done status is does = record { done = does; leaves = leaves; ends = record { status = is; quiet = tt } }

  -- the command failed for this reason, and wrote nothing
  pub performs_failed : (fault is : F) → is ≡ fault → Keeps old.output new.output →
      Does digest keys old new c (Err fault) → Performs Does IsLate Leaves digest keys old new c (Err is)
  performs_failed fault is same keeps does = rw same (record {
    done = does;
    leaves = leaves;
    ends = record { status = tt; quiet = λ other. keeps };
  })

  -- the command failed; it wrote to the output only if that write failed
  pub performs_part : {E : Type 0} (name : E → F) (write fault : E) (is : F) → is ≡ name fault → IsLate (name write) →
      (fault ≢ write → Keeps old.output new.output) → Does digest keys old new c (Err (name fault)) →
      Performs Does IsLate Leaves digest keys old new c (Err is)
  performs_part name write fault is same lets quiet does = rw same (record {
    done = does;
    leaves = leaves;
    ends = record {
      status = tt;
      quiet = λ other. quiet (λ e. other (subst (λ f. IsLate (name f)) (sym e) lets));
    };
  })

  -- the same from a call that says how it ends
  pub performs : (answer : Result ℕ F) → IfOk answer IsStatus →
      IfErr answer (λ fault. (¬ IsLate fault) → Keeps old.output new.output) → Does digest keys old new c answer →
      Performs Does IsLate Leaves digest keys old new c answer
  performs answer status quiet does = record {
    done = does;
    leaves = leaves;
    ends = record { status = status; quiet = quiet };
  }

-- only the line of the port was written
pub quiet_port : (port : ℕ) (old new : Option (List ℕ)) (fault : ListenFault) →
    PrintsPort {T = Unit {0}} port old new (Err fault) → (¬ IsPortWritten fault) → Keeps old new
quiet_port port old new WriteFault h other = absurd (other tt)
quiet_port port old new PortFault h other = absurd (other tt)
quiet_port port old new OutOfMemory h other = h
