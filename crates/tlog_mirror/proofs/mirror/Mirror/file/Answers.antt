use Rattle.tlog_mirror.proofs.mirror.Mirror.file.Goals as goal

pub returns-in-Entries-clause-some : goal.returns-in-Entries-clause-some
returns-in-Entries-clause-some g c = rw c.in-Entries.is c.bundle.ensures.some

pub returns-in-Entries-clause-none : goal.returns-in-Entries-clause-none
returns-in-Entries-clause-none g c = rw c.in-Entries.is c.bundle.ensures.none
