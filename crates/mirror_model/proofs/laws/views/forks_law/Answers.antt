use Rattle.mirror_model.proofs.Views.{forks_stay, forks_turn}
use Rattle.mirror_model.proofs.OneLists.{forks_tell}
use Rattle.mirror_model.proofs.laws.views.forks_law.Goals as goal

pub returns-clause-tell : goal.returns-clause-tell
returns-clause-tell c = forks_tell

pub returns-clause-turn : goal.returns-clause-turn
returns-clause-turn c = forks_turn

pub returns-clause-stay : goal.returns-clause-stay
returns-clause-stay c = forks_stay
