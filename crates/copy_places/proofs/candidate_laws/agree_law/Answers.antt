use Rattle.copy_places.proofs.Agreeing.{agreeing_is_of_first}
use Rattle.copy_places.proofs.candidate_laws.agree_law.Goals as goal

pub returns : goal.returns
returns c = agreeing_is_of_first
