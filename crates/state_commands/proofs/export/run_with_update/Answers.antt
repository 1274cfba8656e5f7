use Rattle.std.proofs.Common.{inl, refl}
use Rattle.state_commands.specs.declared.fault.StateRunFault.TheVariants.{Export}
use Rattle.program_io.proofs.Performing.{performs_done, performs_failed}
use Rattle.program_io.proofs.Written.{keeps_itself}
use Rattle.state_commands.proofs.export.run_with_update.Goals as goal

pub returns-in-Ok-clause-does : goal.returns-in-Ok-clause-does
returns-in-Ok-clause-does g c =
    performs_done _ _ _ _ _ _ _ _ refl 0 (inl refl) (c.in-Ok.ensures, keeps_itself _, refl)

pub returns-in-Err-clause-does : goal.returns-in-Err-clause-does
returns-in-Err-clause-does g c =
    performs_failed _ _ _ _ _ _ _ _ refl (Export c.in-Err.fault) _ c.new.ensures (keeps_itself _)
    (c.in-Err.ensures, keeps_itself _)
