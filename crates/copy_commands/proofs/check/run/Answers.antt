use Rattle.std.proofs.Common.{refl}
use Rattle.program_io.specs.declared.check.CheckFault.TheVariants as check
use Rattle.program_io.specs.Performing.{verdict_status}
use Rattle.copy_commands.specs.declared.fault.ReportRunFault.TheVariants.{Check}
use Rattle.program_io.proofs.Performing.{performs_done, performs_part, verdict_is}
use Rattle.copy_commands.proofs.check.run.Goals as goal

pub returns-in-Ok-clause-does : goal.returns-in-Ok-clause-does
returns-in-Ok-clause-does g c = rw c.status_of.ensures
    (performs_done _ _ _ _ _ _ _ _ (refl, refl) (verdict_status c.in-Ok.verdict) (verdict_is c.in-Ok.verdict)
    (c.in-Ok.verdict, c.in-Ok.ensures.answer, refl))

pub returns-in-Err-clause-does : goal.returns-in-Err-clause-does
returns-in-Err-clause-does g c =
    performs_part _ _ _ _ _ _ _ _ (refl, refl) (λ f. Check f) check.WriteFault c.in-Err.fault _ c.new.ensures tt
    c.in-Err.ensures.quiet c.in-Err.ensures.answer
