use Rattle.mirror_model.proofs.OneLists.{one_list, list_has_root}
use Rattle.mirror_model.proofs.laws.views.one_list_law.Goals as goal

pub returns-clause-one : goal.returns-clause-one
returns-clause-one c = one_list

pub returns-clause-root : goal.returns-clause-root
returns-clause-root c = list_has_root
