use Rattle.copy_follow.proofs.Runs.{runs_keep_copies}
use Rattle.copy_follow.proofs.follow_laws.run_law.Goals as goal

pub returns : goal.returns
returns c = runs_keep_copies
