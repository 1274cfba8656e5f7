use Rattle.mirror_model.proofs.Playing.{run_is_reached, run_is_bounded}
use Rattle.mirror_model.proofs.laws.play.run_law.Goals as goal

pub returns-clause-reached : goal.returns-clause-reached
returns-clause-reached c = run_is_reached

pub returns-clause-bounded : goal.returns-clause-bounded
returns-clause-bounded c = run_is_bounded
