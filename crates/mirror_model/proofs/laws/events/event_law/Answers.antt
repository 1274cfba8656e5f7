use Rattle.mirror_model.proofs.Happening.{takes_grow, merges_grow, event_grows_each, takes_keep_lawful}
use Rattle.mirror_model.proofs.Happening.{merges_keep_lawful}
use Rattle.mirror_model.proofs.Keeping.{event_keeps_lawful}
use Rattle.mirror_model.proofs.laws.events.event_law.Goals as goal

pub returns-clause-takes_grow : goal.returns-clause-takes_grow
returns-clause-takes_grow c = takes_grow

pub returns-clause-merges_grow : goal.returns-clause-merges_grow
returns-clause-merges_grow c = merges_grow

pub returns-clause-grows : goal.returns-clause-grows
returns-clause-grows c = event_grows_each

pub returns-clause-takes_lawful : goal.returns-clause-takes_lawful
returns-clause-takes_lawful c = takes_keep_lawful

pub returns-clause-merges_lawful : goal.returns-clause-merges_lawful
returns-clause-merges_lawful c = merges_keep_lawful

pub returns-clause-lawful : goal.returns-clause-lawful
returns-clause-lawful c = event_keeps_lawful
