use Rattle.mirror_model.proofs.Steps.{takes_once, merges_once}
use Rattle.mirror_model.proofs.Happening.{event_is_one}
use Rattle.mirror_model.proofs.laws.events.once_law.Goals as goal

pub returns-clause-takes : goal.returns-clause-takes
returns-clause-takes c = takes_once

pub returns-clause-merges : goal.returns-clause-merges
returns-clause-merges c = merges_once

pub returns-clause-event : goal.returns-clause-event
returns-clause-event c = event_is_one
