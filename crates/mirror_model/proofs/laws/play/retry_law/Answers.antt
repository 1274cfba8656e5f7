use Rattle.mirror_model.proofs.Retrying.{nothing_to_retry, no_answer_to_retry, retries_join, is_answered_out_of_memory}
use Rattle.mirror_model.proofs.laws.play.retry_law.Goals as goal

pub returns-clause-none : goal.returns-clause-none
returns-clause-none c = nothing_to_retry

pub returns-clause-answers : goal.returns-clause-answers
returns-clause-answers c = no_answer_to_retry

pub returns-clause-joined : goal.returns-clause-joined
returns-clause-joined c = retries_join

pub returns-clause-named : goal.returns-clause-named
returns-clause-named c = is_answered_out_of_memory
