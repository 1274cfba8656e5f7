use Rattle.std.proofs.Common.{Err, inl, refl}
use Rattle.program_io.proofs.Performing.{performs, performs_done}
use Rattle.program_io.proofs.Written.{keeps_itself}
use Rattle.state_commands.proofs.build.run.Goals as goal

pub returns-in-Ok-clause-does : goal.returns-in-Ok-clause-does
returns-in-Ok-clause-does g c =
    performs_done _ _ _ _ _ _ _ _ refl 0 (inl refl) (c.in-Ok.ensures, keeps_itself _, refl)

pub returns-in-Err-clause-does : goal.returns-in-Err-clause-does
returns-in-Err-clause-does g c =
    performs _ _ _ _ _ _ _ _ refl (Err c.in-Err.error) tt (λ other. keeps_itself _) (c.in-Err.ensures, keeps_itself _)
