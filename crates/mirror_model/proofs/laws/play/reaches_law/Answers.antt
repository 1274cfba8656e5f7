use Rattle.mirror_model.proofs.Reaching.{reaches_go_by_last, openings_go_by_last}
use Rattle.mirror_model.proofs.laws.play.reaches_law.Goals as goal

pub returns-clause-items : goal.returns-clause-items
returns-clause-items c = reaches_go_by_last

pub returns-clause-openings : goal.returns-clause-openings
returns-clause-openings c = openings_go_by_last
