use Rattle.std.proofs.Common.{refl}
use Rattle.copy_commands.specs.declared.fault.ReportRunFault.TheVariants.{State}
use Rattle.program_io.proofs.Performing.{performs_failed}
use Rattle.program_io.proofs.Written.{keeps_itself}
use Rattle.copy_commands.proofs.Writing.{writes_entries}
use Rattle.copy_commands.proofs.state_entries.run.Goals as goal

pub returns-in-Ok-clause-does : goal.returns-in-Ok-clause-does
returns-in-Ok-clause-does g c =
    writes_entries _ _ _ _ c.args.entries.now refl refl c.in-Ok.opened.view c.in-Ok.ensures c.entries_of_state-answer.result
    c.entries_of_state-answer.ensures.answer c.written.result c.written.ensures

pub returns-in-Err-clause-does : goal.returns-in-Err-clause-does
returns-in-Err-clause-does g c =
    performs_failed _ _ _ _ _ _ _ _ (refl, refl) (State c.in-Err.fault) _ c.new.ensures (keeps_itself _)
    (c.in-Err.ensures, keeps_itself _)
