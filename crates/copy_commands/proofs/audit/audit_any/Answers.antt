use Rattle.copy_commands.proofs.PlacePerforming.{audits}
use Rattle.copy_commands.proofs.audit.audit_any.Goals as goal

pub returns-clause-does : goal.returns-clause-does
returns-clause-does g c =
    audits _ g.S.Source.may_answer g.S.Source.asked g.S.Source.failed _ _ _ c.args.audit.now c.args.source
    c.new-source.result.source c.new-source.ensures c.audit_source-answer.result.0
    c.audit_source-answer.result.1.source c.audit_source-answer.ensures.audits c.audit_source-answer.ensures.blamed
    c.audited.result c.audited.ensures
