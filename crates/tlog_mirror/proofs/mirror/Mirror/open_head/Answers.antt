use Rattle.tlog_mirror.proofs.mirror.Mirror.open_head.Goals as goal

pub returns-clause-reads : goal.returns-clause-reads
returns-clause-reads g c = rw c.origin.ensures at c.open_head.ensures.reads
