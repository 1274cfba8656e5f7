use Rattle.copy_follow.proofs.CopyForks.{copy_forks_are_contradictions}
use Rattle.copy_follow.proofs.follow_laws.copy_fork_law.Goals as goal

pub returns : goal.returns
returns c = copy_forks_are_contradictions
