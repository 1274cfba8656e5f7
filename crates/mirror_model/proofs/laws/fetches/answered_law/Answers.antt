use Rattle.mirror_model.proofs.Fetching.{answered_is_not_again}
use Rattle.mirror_model.proofs.laws.fetches.answered_law.Goals as goal

pub returns : goal.returns
returns c = answered_is_not_again
