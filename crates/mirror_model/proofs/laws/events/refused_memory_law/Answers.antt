use Rattle.mirror_model.proofs.Happening.{takes_leave, merges_leave}
use Rattle.mirror_model.proofs.Keeping.{note_is_last, between_is_lawful}
use Rattle.mirror_model.proofs.laws.events.refused_memory_law.Goals as goal

pub returns-clause-takes : goal.returns-clause-takes
returns-clause-takes c = takes_leave

pub returns-clause-merges : goal.returns-clause-merges
returns-clause-merges c = merges_leave

pub returns-clause-note : goal.returns-clause-note
returns-clause-note c = note_is_last

pub returns-clause-lawful : goal.returns-clause-lawful
returns-clause-lawful c = between_is_lawful
