use Rattle.tlog_mirror.proofs.RestoredMirrors.{held_refused}
use Rattle.tlog_mirror.proofs.mirror.Mirror.keep_held_head.Goals as goal

pub returns-in-Err-clause-keeps : goal.returns-in-Err-clause-keeps
returns-in-Err-clause-keeps g c =
    held_refused g.H.TreeHash.digest c.args.self.now.view _ c.args.note.now c.in-Err.fault c.in-Err.ensures.reads
    c.held_fault.result c.held_fault.ensures
