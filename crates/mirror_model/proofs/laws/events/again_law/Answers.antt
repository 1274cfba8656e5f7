use Rattle.mirror_model.proofs.Steps.{takes_again, merges_again}
use Rattle.mirror_model.proofs.Happening.{event_again, merge_with_itself}
use Rattle.mirror_model.proofs.laws.events.again_law.Goals as goal

pub returns-clause-takes : goal.returns-clause-takes
returns-clause-takes c = takes_again

pub returns-clause-merges : goal.returns-clause-merges
returns-clause-merges c = merges_again

pub returns-clause-event : goal.returns-clause-event
returns-clause-event c = event_again

pub returns-clause-itself : goal.returns-clause-itself
returns-clause-itself c = merge_with_itself
