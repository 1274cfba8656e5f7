use Rattle.mirror_model.proofs.Missing.{missing_is_none}
use Rattle.mirror_model.proofs.MissingWithin.{missing_is_within}
use Rattle.mirror_model.proofs.laws.fetches.missing_law.Goals as goal

pub returns-clause-none : goal.returns-clause-none
returns-clause-none c = missing_is_none

pub returns-clause-within : goal.returns-clause-within
returns-clause-within c = missing_is_within
