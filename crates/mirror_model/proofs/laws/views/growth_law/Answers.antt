use Rattle.mirror_model.proofs.Views.{complete_stays}
use Rattle.mirror_model.proofs.OneLists.{complete_is_same}
use Rattle.mirror_model.proofs.laws.views.growth_law.Goals as goal

pub returns-clause-stays : goal.returns-clause-stays
returns-clause-stays c = complete_stays

pub returns-clause-same : goal.returns-clause-same
returns-clause-same c = complete_is_same
