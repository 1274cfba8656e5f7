use Rattle.mirror_model.proofs.Joining.{runs_join, take_is_run, merge_is_run}
use Rattle.mirror_model.proofs.laws.play.join_law.Goals as goal

pub returns-clause-take : goal.returns-clause-take
returns-clause-take c = take_is_run

pub returns-clause-merge : goal.returns-clause-merge
returns-clause-merge c = merge_is_run

pub returns-clause-runs : goal.returns-clause-runs
returns-clause-runs c = runs_join
