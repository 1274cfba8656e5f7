use Rattle.mirror_pull.proofs.Growth.{pulls_keep_heads}
use Rattle.mirror_pull.proofs.laws.pull_growth_law.Goals as goal

pub returns : goal.returns
returns c = pulls_keep_heads
