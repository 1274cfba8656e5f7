use Rattle.mirror_model.proofs.Happening.{union_clashes, union_is_clean}
use Rattle.mirror_model.proofs.Views.{same_is_one, union_commutes, union_associates, union_repeats, clashes_turn}
use Rattle.mirror_model.proofs.laws.views.union_law.Goals as goal

pub returns-clause-same : goal.returns-clause-same
returns-clause-same c = same_is_one

pub returns-clause-commutes : goal.returns-clause-commutes
returns-clause-commutes c = union_commutes

pub returns-clause-associates : goal.returns-clause-associates
returns-clause-associates c = union_associates

pub returns-clause-repeats : goal.returns-clause-repeats
returns-clause-repeats c = union_repeats

pub returns-clause-either_way : goal.returns-clause-either_way
returns-clause-either_way c = clashes_turn

pub returns-clause-clashes : goal.returns-clause-clashes
returns-clause-clashes c = union_clashes

pub returns-clause-clean : goal.returns-clause-clean
returns-clause-clean c = union_is_clean
