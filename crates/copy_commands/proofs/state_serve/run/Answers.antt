use Rattle.std.proofs.Common.{refl}
use Rattle.copy_commands.specs.declared.fault.ReportRunFault.TheVariants.{State}
use Rattle.program_io.proofs.Performing.{performs_failed}
use Rattle.copy_commands.proofs.StateServing.{serves}
use Rattle.program_io.proofs.Written.{keeps_itself}
use Rattle.copy_commands.proofs.state_serve.run.Goals as goal

pub returns-in-Ok-clause-does : goal.returns-in-Ok-clause-does
returns-in-Ok-clause-does g c =
    serves _ _ _ _ c.args.serve.now refl refl c.in-Ok.mirror.view c.in-Ok.ensures c.serve_ready-answer.result
    c.served.result c.served.ensures c.serve_ready-answer.ensures.line

pub returns-in-Err-clause-does : goal.returns-in-Err-clause-does
returns-in-Err-clause-does g c =
    performs_failed _ _ _ _ _ _ _ _ (refl, refl) (State c.in-Err.fault) _ c.new.ensures (keeps_itself _)
    (c.in-Err.ensures, keeps_itself _)
