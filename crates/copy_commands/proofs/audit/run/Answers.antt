use Rattle.copy_commands.proofs.PlacePerforming.{audited}
use Rattle.copy_commands.proofs.audit.run.Goals as goal

pub returns-in-Ok-open-clause-does : goal.returns-in-Ok-open-clause-does
returns-in-Ok-open-clause-does g c =
    audited _ _ _ _ _ c.args.audit.now c.audit_any.ensures.stays c.in-Ok-open.source c.in-Ok-open.ensures c.audit_any.result
    c.audit_any.ensures.does
