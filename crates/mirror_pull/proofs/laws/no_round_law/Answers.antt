use Rattle.mirror_pull.proofs.RoundCounts.{no_round_asks_nothing}
use Rattle.mirror_pull.proofs.laws.no_round_law.Goals as goal

pub returns : goal.returns
returns c = no_round_asks_nothing
