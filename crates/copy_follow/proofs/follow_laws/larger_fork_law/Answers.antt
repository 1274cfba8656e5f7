use Rattle.copy_follow.proofs.LargerForks.{contradictions_are_lines}
use Rattle.copy_follow.proofs.follow_laws.larger_fork_law.Goals as goal

pub returns : goal.returns
returns g c = contradictions_are_lines g.S.Source.may_answer g.S.Source.failed g.S.Source.asked
