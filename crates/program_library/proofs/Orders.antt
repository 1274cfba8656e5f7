-- The answers of each group of commands, as those of a run.
use Rattle.std.proofs.Common.{◌≡◌, ℕ, List, Option, Result, Ok, Err}
use Rattle.std.specs.Prelude.{IsErrAnd, MatchResult}
use Rattle.program_io.specs.Performing.{Ends}
use Rattle.program_library.specs.Commands.{By, IsWriteFault}
use Rattle.program_library.specs.declared.fault.RunFault.{RunFault}

module _ {F : Type 0} (name : F → RunFault) where
  -- the fault is that of the command under this name
  abbrev pub IsNamed : Result ℕ F → Result ℕ RunFault → Type 0
  IsNamed was is = MatchResult was (λ status. is ≡ Ok status) (λ fault. IsErrAnd is (λ named. named ≡ name fault))

  pub by_group : (Does : Result ℕ F → Type 0) (was : Result ℕ F) (is : Result ℕ RunFault) → IsNamed was is → Does was →
      By name Does is
  by_group Does (Ok status) is same h = rw same h
  by_group Does (Err fault) (Ok status) same h = absurd same
  by_group Does (Err fault) (Err named) same h = (fault, same, h)

  pub ends_group : (IsLate : F → Type 0) → ((fault : F) → IsLate fault → IsWriteFault (name fault)) →
      (old new : Option (List ℕ)) (was : Result ℕ F) (is : Result ℕ RunFault) → IsNamed was is → Ends IsLate old new was →
      Ends IsWriteFault old new is
  ends_group IsLate late old new (Ok status) is same h = rw same (record { status = h.status; quiet = tt })
  ends_group IsLate late old new (Err fault) (Ok status) same h = absurd same
  ends_group IsLate late old new (Err fault) (Err named) same h =
      rw same (record { status = tt; quiet = λ other. h.quiet (λ is. other (late fault is)) })
