use Rattle.mirror_model.proofs.Headline.{part_is_played, part_is_retried}
use Rattle.mirror_model.proofs.laws.headline.part_law.Goals as goal

pub returns-clause-played : goal.returns-clause-played
returns-clause-played c = part_is_played

pub returns-clause-retried : goal.returns-clause-retried
returns-clause-retried c = part_is_retried
