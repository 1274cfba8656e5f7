use Rattle.mirror_pull.proofs.FrontRounds.{front_round_takes}
use Rattle.mirror_pull.proofs.laws.front_round_law.Goals as goal

pub returns : goal.returns
returns c = front_round_takes
