use Rattle.std.proofs.Common.{inl, refl}
use Rattle.program_io.specs.declared.root.RootFault.TheVariants as root
use Rattle.copy_commands.specs.declared.fault.ReportRunFault.TheVariants.{Root}
use Rattle.program_io.proofs.Performing.{performs_done, performs_part}
use Rattle.copy_commands.proofs.root.run.Goals as goal

pub returns-in-Ok-clause-does : goal.returns-in-Ok-clause-does
returns-in-Ok-clause-does g c = performs_done _ _ _ _ _ _ _ _ (refl, refl) 0 (inl refl) (c.in-Ok.ensures.answer, refl)

pub returns-in-Err-clause-does : goal.returns-in-Err-clause-does
returns-in-Err-clause-does g c =
    performs_part _ _ _ _ _ _ _ _ (refl, refl) (λ f. Root f) root.WriteFault c.in-Err.fault _ c.new.ensures tt
    c.in-Err.ensures.quiet c.in-Err.ensures.answer
