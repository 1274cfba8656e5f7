use Rattle.mirror_model.proofs.Headline.{plays_are_one_run, run_is_one_play, retried_run_leaves, retried_in_each, no_play_to_retry}
use Rattle.mirror_model.proofs.laws.headline.plays_law.Goals as goal

pub returns-clause-one_run : goal.returns-clause-one_run
returns-clause-one_run c = plays_are_one_run

pub returns-clause-one_play : goal.returns-clause-one_play
returns-clause-one_play c = run_is_one_play

pub returns-clause-leaves : goal.returns-clause-leaves
returns-clause-leaves c = retried_run_leaves

pub returns-clause-each : goal.returns-clause-each
returns-clause-each c = retried_in_each

pub returns-clause-none : goal.returns-clause-none
returns-clause-none c = no_play_to_retry
