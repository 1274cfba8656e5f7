use Rattle.std.proofs.Common.{arith, inl, refl}
use Rattle.std.proofs.lemmas.Grind.{common_steps}
use Rattle.state_commands.specs.declared.fault.StateRunFault.TheVariants.{Take}
use Rattle.program_io.proofs.Performing.{performs_done, performs_failed}
use Rattle.program_io.proofs.Written.{keeps_itself}
use Rattle.state_commands.proofs.take.run.Goals as goal

pub returns-in-Ok-clause-does : goal.returns-in-Ok-clause-does
returns-in-Ok-clause-does g c =
    performs_done _ _ _ _ _ _ _ _ refl 0 (inl refl)
    ((c.item_of-item.result, grind (arith, common_steps), c.in-Ok.ensures), keeps_itself _, refl)

pub returns-in-Err-clause-does : goal.returns-in-Err-clause-does
returns-in-Err-clause-does g c =
    performs_failed _ _ _ _ _ _ _ _ refl (Take c.in-Err.fault) _ c.new.ensures (keeps_itself _)
    ((c.item_of-item.result, grind (arith, common_steps), c.in-Err.ensures), keeps_itself _)
