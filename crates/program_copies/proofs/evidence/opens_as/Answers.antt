use Rattle.program_copies.proofs.Serving.{answered_at, opened_at}
use Rattle.program_copies.proofs.evidence.opens_as.Goals as goal

pub returns-in-Ok : goal.returns-in-Ok
returns-in-Ok g c =
    opened_at c.args.there.now c.args.origin.now _ _ _ c.in-Ok.checkpoint c.in-Ok.ensures c.is_at-is_there.result
    c.is_at-is_there.ensures

pub returns-in-Err : goal.returns-in-Err
returns-in-Err g c =
    answered_at c.args.there.now c.args.origin.now _ _ _ c.in-Err.fault c.in-Err.ensures c.refused.result c.refused.ensures
