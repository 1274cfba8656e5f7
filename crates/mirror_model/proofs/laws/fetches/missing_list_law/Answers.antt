use Rattle.mirror_model.proofs.Fetching.{missing_is_front_list}
use Rattle.mirror_model.proofs.laws.fetches.missing_list_law.Goals as goal

pub returns : goal.returns
returns c = missing_is_front_list
