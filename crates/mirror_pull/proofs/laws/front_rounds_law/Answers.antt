use Rattle.mirror_pull.proofs.FrontRounds.{front_rounds_end}
use Rattle.mirror_pull.proofs.laws.front_rounds_law.Goals as goal

pub returns : goal.returns
returns c = front_rounds_end
