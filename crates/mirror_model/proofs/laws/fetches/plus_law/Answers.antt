use Rattle.mirror_model.proofs.Fetching.{plus_holds}
use Rattle.mirror_model.proofs.laws.fetches.plus_law.Goals as goal

pub returns : goal.returns
returns c = plus_holds
