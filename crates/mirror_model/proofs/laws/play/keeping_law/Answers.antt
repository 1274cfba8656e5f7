use Rattle.mirror_model.proofs.Keeping.{run_is_lawful, run_grows}
use Rattle.mirror_model.proofs.laws.play.keeping_law.Goals as goal

pub returns-clause-lawful : goal.returns-clause-lawful
returns-clause-lawful c = run_is_lawful

pub returns-clause-grows : goal.returns-clause-grows
returns-clause-grows c = run_grows
