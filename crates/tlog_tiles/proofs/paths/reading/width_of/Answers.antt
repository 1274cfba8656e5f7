use Rattle.tlog_tiles.proofs.paths.reading.width_of.Goals as goal

pub returns-clause-found : goal.returns-clause-found
returns-clause-found c = rw c.in-Some.is c.partial_width.ensures.found

pub returns-clause-none : goal.returns-clause-none
returns-clause-none c = rw c.in-Some.is c.partial_width.ensures.none
